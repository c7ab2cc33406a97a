-- What is promised of the opening of an image whose last session was closed.
use Rattle.std.specs.Prelude.{ℕ, ◌≡◌, ◌⊎◌, ◌≤◌, true, false, List, All, length, Result, Ok, Err, IfOk, IfErr}
use Rattle.audit.specs.Audits.{AuditWithFails, BothShow, IsOpenedTo}
use Rattle.blk_base.specs.Counters.{limit_of}
use Rattle.blk_base.specs.Limits.{IsGeometry}
use Rattle.blk_base.specs.declared.geometry.Geometry.{Geometry}
use Rattle.blk_base.specs.declared.geometry.Super.{Super as Superblock}
use Rattle.blk_base.specs.declared.journal_entry.CommittedEntry.{CommittedEntry}
use Rattle.blk_base.specs.declared.opened.Opened.{Opened}
use Rattle.blk_base.specs.declared.place.Pbn.{Pbn}
use Rattle.blk_base.specs.Regions.{data_blocks}
use Rattle.block_map_tree.specs.OpenedTree.{IsOpened, all_trees}
use Rattle.count_updates.specs.Numbers.{all_sectors}
use Rattle.disk_model.specs.Log.{Blocks}
use Rattle.disk_model.specs.Seen.{Seen}
use Rattle.disk_model.specs.Trust.{Trust}
use Rattle.disk_model.specs.Since.{IsUntouched}
use Rattle.image_format.specs.Formats.{LastFailed}
use Rattle.image_layout.specs.Opened.{IsHead, super_of_image}
use Rattle.image_model.specs.Faults.{IsCountsFault, IsImageFault}
use Rattle.image_model.specs.Maps.{Image, ArePagesGood}
use Rattle.image_model.specs.Sound.{AreStored, AreTrue, AreUnshared, Opens, image_of}
use Rattle.image_model.specs.declared.fault.ImageFault.{ImageFault}
use Rattle.image_model.specs.declared.fault.ImageFault.TheVariants.{Super, Counts, Device, Unclean, Memory}
use Rattle.image_opening.specs.Heads.{HeadFails, IsHeadRead}
use Rattle.journal_window.specs.Reads.{Fails}
use Rattle.journal_window.specs.States.{WindowState}
use Rattle.replay_counts.specs.Recovered.{HasCounts}
use Rattle.replay_map.specs.Replayed.{HasMap}
use Rattle.session_opening.specs.Starts.{IsStart, AreLedTo}
use Rattle.rebuild.specs.Recoveries.{IsTold, IsUnclean}
use Rattle.audit.specs.declared.forms.Contents.{Contents}

-- Of an image.

-- every page and every counter of the image is right, and this is what a session starts with
pub record IsRight (image : Image) (head : Superblock) (opened : Opened) : Type 0 where
  pub pages : ArePagesGood image
  pub unshared : AreUnshared image
  pub counts : AreTrue image
  pub start : IsStart image head opened

-- the least data block isn't mapped as often as its stored count says, of an image that has none of the faults before that
pub record HasWrongCount (image : Image) (at : Pbn) (stored mapped : ℕ) : Type 0 where
  pub pages : ArePagesGood image
  pub stored_all : AreStored image
  pub unshared : AreUnshared image
  pub wrong : IsCountsFault image at stored mapped

-- What it has fits its sizes, on any device: its counters and commit points, and its pages, which are the roots of all trees
-- and each page that one of them leads to and that is no leaf, once and at its block; and the blocks to which these lead, of
-- each page one.
pub record Fits (opened : Opened) : Type 0 where
  pub sizes : IsGeometry opened.head.geometry
  pub counters : length opened.counters.items ≡ data_blocks opened.head.geometry
  pub limit : All (λ counter. counter ≤ limit_of opened.head.geometry) opened.counters.items
  pub commits : length opened.commits.items ≡ all_sectors opened.head.geometry
  pub pages : IsOpened (all_trees opened.head.geometry) opened.pages.items
  pub tree_pages : AreLedTo opened.head.geometry opened.pages.items opened.tree_pages.items

-- By the map and the counts that were read.

-- each image of these sizes that has them has such a count; of want of memory nothing
abbrev pub CheckFails : Geometry → Contents → ImageFault → Type 0
CheckFails g contents (Counts at stored mapped) = (image : Image) → image.geometry ≡ g → HasMap image contents.map
    → HasCounts image contents.counts.counts.items contents.counts.sectors.items → IsCountsFault image at stored mapped
CheckFails g contents Memory = Unit {0}
CheckFails g contents other = ⊥

-- By the reads.

-- pages and slabs were read, and each image with this window that has what was read is right
abbrev pub IsOpenedWith : Trust → Superblock → WindowState → Seen → Seen → Opened → Type 0
IsOpenedWith trust head window before now opened = BothShow trust head window before now (λ image. IsRight image head opened)

-- why there is nothing to start with: each such image has this fault; a read that failed, or want of memory
abbrev pub OpenWithFails : Trust → Superblock → WindowState → Seen → Seen → ImageFault → Type 0
OpenWithFails trust head window before now (Counts at stored mapped) =
    BothShow trust head window before now (λ image. HasWrongCount image at stored mapped)
OpenWithFails trust head window before now other = AuditWithFails trust head window before now other

-- block 0 was read, whose superblock says that the last session was closed, and then the journal, and then the rest
abbrev pub IsOpenedFrom : Trust → Seen → Seen → Opened → Type 0
IsOpenedFrom trust before now opened =
    (head : Superblock) × (window : WindowState) × (middle : Seen) × IsOpenedTo trust before middle head window × (head.clean ≡ true)
    × IsOpenedWith trust head window middle now opened

-- why there is nothing to start with: block 0 is no superblock; or it says that the last session wasn't closed; or it was
-- read, and there is no window; or both were read, and then as above
abbrev pub OpeningFails : Trust → Seen → Seen → ImageFault → Type 0
OpeningFails trust before now why =
    HeadFails trust before now why
    ⊎ ((why ≡ Unclean) × ((head : Superblock) × IsHeadRead trust before now head × (head.clean ≡ false)))
    ⊎ ((head : Superblock) × (middle : Seen) × IsHeadRead trust before middle head × (head.clean ≡ true) × Fails trust middle now head why)
    ⊎ ((head : Superblock) × (window : WindowState) × (middle : Seen) × IsOpenedTo trust before middle head window × (head.clean ≡ true)
    × OpenWithFails trust head window middle now why)

-- By the one image of an honest device on which nothing is pending but in the index.

-- the image has this superblock, which says that the last session was closed
abbrev pub IsCleanImage : Blocks → Type 0
IsCleanImage blocks = (head : Superblock) × (super_of_image blocks ≡ Ok head) × (head.clean ≡ true)

-- it can be opened, and is right
abbrev pub OpensRight : Blocks → Opened → Type 0
OpensRight blocks opened = (head : Superblock) × (last : ℕ) × (window : List CommittedEntry) × Opens blocks head last window × (head.clean ≡ true)
    × IsRight (image_of head blocks window) head opened

-- why it isn't opened: it has this fault, the first of its faults; or its last session wasn't closed; the last call
-- failed, or want of memory
abbrev pub IsOpeningRefusal : Blocks → Seen → Seen → ImageFault → Type 0
IsOpeningRefusal blocks before now (Super fault) = IsImageFault blocks (Super fault)
IsOpeningRefusal blocks before now Unclean = IsUnclean blocks
IsOpeningRefusal blocks before now Device = LastFailed true before now
IsOpeningRefusal blocks before now Memory = IsCleanImage blocks
IsOpeningRefusal blocks before now other = IsCleanImage blocks × IsImageFault blocks other

-- what an honest device is answered: what its image has, or its first fault
abbrev pub IsOpeningResult : Blocks → Seen → Seen → Result Opened ImageFault → Type 0
IsOpeningResult blocks before now (Ok opened) = OpensRight blocks opened
IsOpeningResult blocks before now (Err why) = IsOpeningRefusal blocks before now why

-- Of any device: these bytes of a block are its superblock, which is within its limits, and the device has room for its sizes.
abbrev pub HasItsHead : ℕ → Opened → Type 0
HasItsHead size opened = (block : List ℕ) × IsHead size block opened.head

-- what opening an image promises of any device, and of an honest one
pub record IsOpening (trust : Trust) (before now : Seen) (result : Result Opened ImageFault) : Type 0 where
  -- of any device
  pub untouched : IsUntouched trust.tells before now
  pub opened : IfOk result (IsOpenedFrom trust before now)
  pub head : IfOk result (HasItsHead before.size)
  pub fits : IfOk result Fits
  pub fails : IfErr result (OpeningFails trust before now)
  -- of an honest one, by its one image
  pub says : (blocks : Blocks) → IsTold trust before blocks → IsOpeningResult blocks before now result
