-- The map of an image: its pages from the roots on, where each entry of the window takes the place of what its slot says.
use Rattle.std.specs.Prelude.{ℕ, zero, suc, ◌≡◌, ◌⊎◌, ◌+◌, ◌-◌, ◌*◌, ◌%◌, ◌<◌, ◌==◌, ◌&&◌, nat_lt, if◌then◌else◌, List, [], ◌∷◌, Option, Some, None, IsSome}
use Rattle.blk_base.specs.Regions.{Root, block_of}
use Rattle.blk_base.specs.Sectors.{zero_block}
use Rattle.blk_base.specs.declared.geometry.Geometry.{Geometry}
use Rattle.blk_base.specs.declared.journal_entry.CommittedEntry.{CommittedEntry}
use Rattle.blk_base.specs.declared.journal_entry.Entry.{Entry}
use Rattle.blk_base.specs.declared.journal_entry.Entry.TheVariants.{Remap, NewPage}
use Rattle.blk_base.specs.declared.place.Mapping.{Mapping}
use Rattle.blk_base.specs.declared.place.Mapping.TheVariants.{Unmapped, Zero, At}
use Rattle.blk_base.specs.declared.place.PageId.{PageId}
use Rattle.blk_base.specs.declared.place.Pbn.{Pbn}
use Rattle.blk_base.specs.declared.sizes.TheConstants.{PAGE_SLOTS, TREES}
use Rattle.blk_base.specs.Pages.{above, slot_of, leaf_of, slot_of_address}
use Rattle.byte_fields.specs.Fields.{number_at}
use Rattle.disk_model.specs.Log.{Blocks, block_at}
use Rattle.page_codec.specs.Grammar.{HasHead, IsSlot}
use Rattle.page_codec.specs.declared.forms.PageHead.{PageHead}
use Rattle.image_model.specs.Pages.{is_page}

-- an image: its sizes, its blocks, and its window, the newest entry first
pub record Image : Type 0 where
  pub geometry : Geometry
  pub blocks : Blocks
  pub window : List CommittedEntry

-- What a slot says.

-- what an entry puts into a slot of a page: its mapping into that of its address, or its block into that of its page
abbrev pub put_by : Entry → PageId → ℕ → Option Mapping
put_by (Remap at old new) page slot = if is_page page (leaf_of at.0) && (slot == slot_of_address at.0) then Some new else None
put_by (NewPage below at) page slot = if is_page page (above below) && (slot == slot_of below) then Some (At at) else None

-- the first of two where there is one
abbrev pub or_else : Option Mapping → Option Mapping → Option Mapping
or_else (Some mapping) other = Some mapping
or_else None other = other

-- what the newest of these entries for a slot puts there
abbrev pub put_last : List CommittedEntry → PageId → ℕ → Option Mapping
put_last [] page slot = None
put_last (committed ∷ older) page slot = or_else (put_by committed.entry page slot) (put_last older page slot)

-- the mapping with a state and a block; block 0 stands for zeros
abbrev pub mapping_with : ℕ → ℕ → Mapping
mapping_with state block = if state == 0 then Unmapped else (if block == 0 then Zero else At (record { 0 = block }))

-- what a slot of a page's block says
abbrev pub mapping_in : List ℕ → ℕ → Mapping
mapping_in block slot = mapping_with (number_at 1 (36 + 5 * slot) block % 16) (number_at 4 (37 + 5 * slot) block)

-- what a slot of a page says in the image: what the window puts there, or else what stands in the page's block
abbrev pub says : Image → PageId → Pbn → ℕ → Mapping
says image page at slot = elim (put_last image.window page slot) [
  | Some mapping ↦ mapping
  | None ↦ mapping_in (block_at image.blocks at.0) slot
]

-- Where the pages stand.

-- the block that a mapping leads to
abbrev pub target_of : Mapping → Option Pbn
target_of Unmapped = None
target_of Zero = None
target_of (At block) = Some block

-- The block of a page so many links below a root: that of the root, or the one to which the page above leads.
abbrev pub linked_at : Image → ℕ → PageId → Option Pbn
linked_at image zero page = if page.index == 0 then Some (record { 0 = block_of image.geometry (Root page.tree) }) else None
linked_at image (suc links) page = elim (linked_at image links (above page)) [
  | Some at ↦ target_of (says image (above page) at (slot_of page))
  | None ↦ None
]

-- the block of a page of the image; no other page is linked
abbrev pub page_at : Image → PageId → Option Pbn
page_at image page =
    if nat_lt page.tree TREES && nat_lt page.level image.geometry.height then linked_at image (image.geometry.height - 1 - page.level) page else None

-- a block has a linked page, which is no root
abbrev pub IsTreePage : Image → Pbn → Type 0
IsTreePage image at = (page : PageId) × (page.level + 1 < image.geometry.height) × (page_at image page ≡ Some at)

-- What an address has.

-- its mapping; where it has no leaf, it is unmapped
abbrev pub mapping_of : Image → ℕ → Mapping
mapping_of image address = elim (page_at image (leaf_of address)) [
  | Some at ↦ says image (leaf_of address) at (slot_of_address address)
  | None ↦ Unmapped
]

-- its value: the bytes of the block that it is mapped to, or else zeros
abbrev pub value_with : Blocks → Mapping → List ℕ
value_with blocks Unmapped = zero_block
value_with blocks Zero = zero_block
value_with blocks (At block) = block_at blocks block.0

abbrev pub value_of : Image → ℕ → List ℕ
value_of image address = value_with image.blocks (mapping_of image address)

-- two images have the same pages at the same blocks, and map each address alike
pub record HaveSameMap (image other : Image) : Type 0 where
  pub pages : (page : PageId) → page_at image page ≡ page_at other page
  pub mappings : (address : ℕ) → mapping_of image address ≡ mapping_of other address

-- Pages that can be read.

-- which page it is, for the format of pages
abbrev pub head_of : Image → PageId → Pbn → PageHead
head_of image page at = record { geometry = image.geometry; page = page; at = at }

-- a slot that can be read: the window puts something there, or it has a mapping that the page can hold
abbrev pub IsReadable : Image → PageId → Pbn → ℕ → Type 0
IsReadable image page at slot =
    IsSome (put_last image.window page slot) ⊎ ((mapping : Mapping) × IsSlot (head_of image page at) (block_at image.blocks at.0) slot mapping)

-- a page that can be read: it begins as it should, and so can each of its slots
pub record IsGoodPage (image : Image) (page : PageId) (at : Pbn) : Type 0 where
  pub headed : HasHead (head_of image page at) (block_at image.blocks at.0)
  pub slots : (slot : ℕ) → slot < PAGE_SLOTS → IsReadable image page at slot

-- each linked page, roots too, can be read
abbrev pub ArePagesGood : Image → Type 0
ArePagesGood image = (page : PageId) (at : Pbn) → page_at image page ≡ Some at → IsGoodPage image page at

-- what an image has in a slot: what the page says there, or nothing where it has no such page
abbrev pub slot_in : Image → PageId → ℕ → Mapping
slot_in image page slot = elim (page_at image page) [
  | Some at ↦ says image page at slot
  | None ↦ Unmapped
]

-- the image with these sizes, these blocks and this window, the newest entry first
abbrev pub image_with : Geometry → Blocks → List CommittedEntry → Image
image_with g blocks window = record { geometry = g; blocks = blocks; window = window }
