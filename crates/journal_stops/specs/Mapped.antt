-- The map that entries give on top of an image that was opened, and the images that show it.
use Rattle.std.specs.Prelude.{ℕ, zero, suc, ◌≡◌, ◌+◌, ◌-◌, ◌<◌, ◌==◌, ◌&&◌, nat_lt, if◌then◌else◌, List, [], ◌∷◌, Option, Some, None}
use Rattle.blk_base.specs.Regions.{Root, block_of}
use Rattle.blk_base.specs.declared.journal_entry.CommittedEntry.{CommittedEntry}
use Rattle.blk_base.specs.declared.journal_entry.Entry.{Entry}
use Rattle.blk_base.specs.declared.journal_entry.Entry.TheVariants.{Remap, NewPage}
use Rattle.blk_base.specs.declared.place.Mapping.{Mapping}
use Rattle.blk_base.specs.declared.place.Mapping.TheVariants.{Unmapped, At}
use Rattle.blk_base.specs.declared.place.PageId.{PageId}
use Rattle.blk_base.specs.declared.place.Pbn.{Pbn}
use Rattle.blk_base.specs.declared.sizes.TheConstants.{TREES, PAGE_SLOTS}
use Rattle.blk_base.specs.Pages.{above, slot_of, leaf_of, slot_of_address}
use Rattle.disk_model.specs.Log.{Blocks, block_at}
use Rattle.image_model.specs.Maps.{Image, put_last, or_else, mapping_in, target_of, page_at, mapping_of, slot_in}
use Rattle.image_model.specs.Pages.{is_page}
use Rattle.journal_stops.specs.Shown.{HasInWindow}

-- What the entries give.

-- what a slot has after these entries: what the newest one for it puts there, or what the opened image has
abbrev pub slot_after : Image → List CommittedEntry → PageId → ℕ → Mapping
slot_after opened entries page slot = elim (put_last entries page slot) [
  | Some mapping ↦ mapping
  | None ↦ slot_in opened page slot
]

-- the block of a page so many links below a root, after them
abbrev pub linked_after : Image → List CommittedEntry → ℕ → PageId → Option Pbn
linked_after opened entries zero page = if page.index == 0 then Some (record { 0 = block_of opened.geometry (Root page.tree) }) else None
linked_after opened entries (suc links) page = elim (linked_after opened entries links (above page)) [
  | Some at ↦ target_of (slot_after opened entries (above page) (slot_of page))
  | None ↦ None
]

-- the block of a page, after them
abbrev pub page_after : Image → List CommittedEntry → PageId → Option Pbn
page_after opened entries page =
    if nat_lt page.tree TREES && nat_lt page.level opened.geometry.height then linked_after opened entries (opened.geometry.height - 1 - page.level) page else None

-- the mapping of an address, after them
abbrev pub mapping_after : Image → List CommittedEntry → ℕ → Mapping
mapping_after opened entries address = elim (page_after opened entries (leaf_of address)) [
  | Some at ↦ slot_after opened entries (leaf_of address) (slot_of_address address)
  | None ↦ Unmapped
]

-- What the newest entry gives.

-- the mapping that an entry gives an address
abbrev pub put_at : Entry → ℕ → Option Mapping
put_at (Remap at old new) address = if at.0 == address then Some new else None
put_at (NewPage page at) address = None

-- the one that the newest of these entries for an address gives it
abbrev pub newest_for : List CommittedEntry → ℕ → Option Mapping
newest_for [] address = None
newest_for (committed ∷ older) address = or_else (put_at committed.entry address) (newest_for older address)

-- the block that an entry gives a page
abbrev pub put_page : Entry → PageId → Option Mapping
put_page (Remap at old new) page = None
put_page (NewPage made at) page = if is_page page made then Some (At at) else None

-- the one that the newest of these entries for a page gives it
abbrev pub newest_page : List CommittedEntry → PageId → Option Mapping
newest_page [] page = None
newest_page (committed ∷ older) page = or_else (put_page committed.entry page) (newest_page older page)

-- the page into which an entry puts something
abbrev pub page_of : Entry → PageId
page_of (Remap at old new) = leaf_of at.0
page_of (NewPage page at) = above page

-- each entry is one for a page that is linked by then
abbrev pub AreRooted : Image → List CommittedEntry → Type 0
AreRooted opened [] = Unit {0}
AreRooted opened (committed ∷ older) = ((at : Pbn) × (page_after opened older (page_of committed.entry) ≡ Some at)) × AreRooted opened older

-- The images that show the entries.

-- each page that these entries leave linked says in its block, in each slot that the window leaves to it, what they give
abbrev pub ArePagesShown : Image → List CommittedEntry → Blocks → List CommittedEntry → Type 0
ArePagesShown opened entries blocks window =
    (page : PageId) (at : Pbn) (slot : ℕ) → page_after opened entries page ≡ Some at → slot < PAGE_SLOTS → put_last window page slot ≡ None
    → mapping_in (block_at blocks at.0) slot ≡ slot_after opened entries page slot

-- Newer entries make pages: each is one below a root that the older ones don't link, and says nothing yet.
abbrev pub ArePagesMade : Image → List CommittedEntry → List CommittedEntry → Blocks → Type 0
ArePagesMade opened older newer blocks =
    (page : PageId) (at : Pbn) → newest_page newer page ≡ Some (At at)
    → (page.level + 1 < opened.geometry.height) × (page_after opened older page ≡ None) × ((slot : ℕ) → mapping_in (block_at blocks at.0) slot ≡ Unmapped)

-- an image of the sizes of the opened one, with these blocks and this window
abbrev pub later_image : Image → Blocks → List CommittedEntry → Image
later_image opened blocks window = record { geometry = opened.geometry; blocks = blocks; window = window }

-- An image shows these entries on top of the image that was opened: its window has the newest of them, and its map is the one
-- that they give.
pub record ShowsEntries (opened : Image) (start : ℕ) (blocks : Blocks) (entries : List CommittedEntry) : Type 0 where
  pub shown : HasInWindow opened.geometry start blocks entries
  pub pages : (page : PageId) → page_at (later_image opened blocks shown.window) page ≡ page_after opened entries page
  pub mappings : (address : ℕ) → mapping_of (later_image opened blocks shown.window) address ≡ mapping_after opened entries address
