-- What replaying the block map of an image finds.
use Rattle.std.specs.Prelude.{ℕ, ◌≡◌, ◌⊎◌, ◌+◌, ◌<◌, ◌==◌, ◌↔◌, List, length, IsSome, Some, Contains}
use Rattle.blk_base.specs.declared.geometry.Geometry.{Geometry}
use Rattle.blk_base.specs.declared.geometry.Super.{Super as Superblock}
use Rattle.blk_base.specs.declared.journal_entry.CommittedEntry.{CommittedEntry}
use Rattle.blk_base.specs.declared.place.Pbn.{Pbn}
use Rattle.blk_base.specs.declared.sizes.TheConstants.{PAGE_SLOTS}
use Rattle.disk_model.specs.Log.{Blocks}
use Rattle.disk_model.specs.Seen.{Seen}
use Rattle.disk_model.specs.Trust.{Trust}
use Rattle.image_model.specs.Counts.{mapped_below}
use Rattle.image_model.specs.Faults.{IsImageFault, IsOpened, IsPageFault, IsShareFault}
use Rattle.image_model.specs.Maps.{Image, ArePagesGood, mapping_of, page_at, put_last, image_with}
use Rattle.image_model.specs.Pages.{address_count}
use Rattle.image_model.specs.Sound.{AreUnshared, Opens, image_of}
use Rattle.image_model.specs.declared.fault.ImageFault.{ImageFault}
use Rattle.image_model.specs.declared.fault.ImageFault.TheVariants.{Super, Window, Page, Counter, SharedPage, Counts, Device, Unclean, Memory}
use Rattle.journal_window.specs.Reads.{IsWindowRead, Fails}
use Rattle.journal_window.specs.States.{WindowState}
use Rattle.plain_laws.specs.Sums.{bit, total}
use Rattle.replay_map.specs.Reads.{Reading, BlocksRead, ReadFails, Shows}
use Rattle.replay_map.specs.declared.found.SlotChange.{SlotChange}
use Rattle.replay_map.specs.declared.links.Link.{Link}
use Rattle.replay_map.specs.declared.recovered.RecoveredMap.{RecoveredMap}

-- The map.

-- the linked pages of an image that are no roots, each with its block
abbrev pub AreAllLinks : Image → List Link → Type 0
AreAllLinks image links = (link : Link) → Contains links link ↔ ((link.page.level + 1 < image.geometry.height) × (page_at image link.page ≡ Some link.at))

-- the slots of its linked pages, the roots too, that the window replaces, each with the mapping that it puts there
abbrev pub AreAllChanges : Image → List SlotChange → Type 0
AreAllChanges image slots = (change : SlotChange) → Contains slots change
    ↔ (IsSome (page_at image change.page) × (change.slot < PAGE_SLOTS) × (put_last image.window change.page change.slot ≡ Some change.mapping))

-- how often a block stands in a list
abbrev pub times : Pbn → List Pbn → ℕ
times block blocks = total (λ (other : Pbn). bit (other.0 == block.0)) blocks

-- each block stands there as often as an address is mapped to it, those past the logical size too
abbrev pub AreAllMapped : Image → List Pbn → Type 0
AreAllMapped image mapped = (block : Pbn) → times block mapped ≡ mapped_below (mapping_of image) block (address_count image.geometry)

-- Each page of an image can be read, and no address is mapped to one. These are its pages, the slots that are replaced, and
-- the blocks of its addresses.
pub record HasMap (image : Image) (map : RecoveredMap) : Type 0 where
  pub pages : ArePagesGood image
  pub unshared : AreUnshared image
  pub links : AreAllLinks image map.links.items
  pub slots : AreAllChanges image map.slots.items
  pub mapped : AreAllMapped image map.mapped.items

-- By what was read.

-- blocks were read, and this holds of each image with this window that has what was read
abbrev pub IsFound : Trust → Geometry → List CommittedEntry → Seen → Seen → (Image → Type 0) → Type 0
IsFound trust g window before now Says =
    (reads : List Reading) × BlocksRead trust g before now reads × ((blocks : Blocks) → Shows blocks reads → Says (image_with g blocks window))

-- The window has this last sequence and so many entries, and each image with this window that has what was read has this map.
pub record IsMapRead (trust : Trust) (g : Geometry) (window : WindowState) (before now : Seen) (map : RecoveredMap) : Type 0 where
  pub last : map.last ≡ window.last
  pub entries : map.entries ≡ length window.entries
  pub found : IsFound trust g window.entries before now (λ image. HasMap image map)

-- Why there is no map: the first page of each such image that can't be read; or where there is none, the least block that
-- has both a page and the data of an address; a read that failed, or want of memory.
abbrev pub MapFails : Trust → Geometry → List CommittedEntry → Seen → Seen → ImageFault → Type 0
MapFails trust g window before now (Page at fault) = IsFound trust g window before now (λ image. IsPageFault image at fault)
MapFails trust g window before now (SharedPage at) = IsFound trust g window before now (λ image. ArePagesGood image × IsShareFault image at)
MapFails trust g window before now Device = ReadFails trust g before now
MapFails trust g window before now Memory = Unit {0}
MapFails trust g window before now (Super fault) = ⊥
MapFails trust g window before now (Window sequence) = ⊥
MapFails trust g window before now (Counter at point) = ⊥
MapFails trust g window before now (Counts at stored mapped) = ⊥
MapFails trust g window before now Unclean = ⊥

-- The window was read, and then pages, and they show this map.
abbrev pub IsReplayed : Trust → Superblock → Seen → Seen → RecoveredMap → Type 0
IsReplayed trust head before now map =
    (middle : Seen) × (window : WindowState) × IsWindowRead trust before middle head window
    × IsMapRead trust head.geometry window middle now map

-- The image of these blocks can be opened, and this is its map, with the last sequence and the length of its window.
pub record HasMapOf (blocks : Blocks) (head : Superblock) (map : RecoveredMap) : Type 0 where
  pub window : List CommittedEntry
  pub opens : Opens blocks head map.last window
  pub entries : map.entries ≡ length window
  pub has : HasMap (image_of head blocks window) map

-- what is wrong with it; of shared blocks it isn't known that each data block has a stored count, which comes before
abbrev pub IsMapFault : Blocks → ImageFault → Type 0
IsMapFault blocks (SharedPage at) = (image : Image) × IsOpened blocks image × ArePagesGood image × IsShareFault image at
IsMapFault blocks other = IsImageFault blocks other

-- why there is none: there is no window, or it was read and then there is no map
abbrev pub ReplayFails : Trust → Superblock → Seen → Seen → ImageFault → Type 0
ReplayFails trust head before now why =
    Fails trust before now head why
    ⊎ ((middle : Seen) × (window : WindowState) × IsWindowRead trust before middle head window × MapFails trust head.geometry window.entries middle now why)
