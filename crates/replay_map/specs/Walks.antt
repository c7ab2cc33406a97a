-- What a walk over pages of an image finds.
use Rattle.std.specs.Prelude.{ℕ, ◌≡◌, ◌⊎◌, ◌+◌, ◌/◌, ◌^◌, ◌<◌, ◌↔◌, List, Some, Contains}
use Rattle.blk_base.specs.Regions.{Root, block_of}
use Rattle.blk_base.specs.declared.geometry.Geometry.{Geometry}
use Rattle.blk_base.specs.declared.place.Mapping.{Mapping}
use Rattle.blk_base.specs.declared.place.PageId.{PageId}
use Rattle.blk_base.specs.declared.place.Pbn.{Pbn}
use Rattle.blk_base.specs.declared.sizes.TheConstants.{PAGE_SLOTS}
use Rattle.disk_model.specs.Seen.{Seen}
use Rattle.disk_model.specs.Trust.{Trust}
use Rattle.image_model.specs.Faults.{HasFault}
use Rattle.image_model.specs.Maps.{Image, IsGoodPage, page_at, put_last}
use Rattle.image_model.specs.Pages.{IsAhead}
use Rattle.image_model.specs.declared.fault.ImageFault.{ImageFault}
use Rattle.image_model.specs.declared.fault.ImageFault.TheVariants.{Super, Window, Page, Counter, SharedPage, Counts, Device, Unclean, Memory}
use Rattle.page_codec.specs.declared.fault.PageFault.{PageFault}
use Rattle.page_codec.specs.declared.forms.PageHead.{PageHead}
use Rattle.blk_base.specs.Pages.{above, page_below, root_page}
use Rattle.replay_map.specs.Reads.{IsShown, ReadFails}
use Rattle.replay_map.specs.Replayed.{times}
use Rattle.replay_map.specs.Sums.{maps_below, maps_in, maps_in_trees, maps_up_to}
use Rattle.replay_map.specs.declared.changes.SlotId.{SlotId}
use Rattle.replay_map.specs.declared.found.Found.{Found}
use Rattle.replay_map.specs.declared.found.SlotChange.{SlotChange}
use Rattle.replay_map.specs.declared.links.Link.{Link}

-- Pages.

-- a page that is this one, or so many levels below it
abbrev pub IsUnder : PageId → PageId → Type 0
IsUnder top page = (levels : ℕ) × (page.tree ≡ top.tree) × (page.level + levels ≡ top.level) × (page.index / PAGE_SLOTS ^ levels ≡ top.index)

-- a page that is this one, or is that of one of its first slots or below it
abbrev pub IsUpTo : PageId → ℕ → PageId → Type 0
IsUpTo top slots page = (page ≡ top) ⊎ ((slot : ℕ) × (slot < slots) × (slot < PAGE_SLOTS) × IsUnder (page_below top slot) page)

-- a page of one of the first trees
abbrev pub IsInTrees : ℕ → PageId → Type 0
IsInTrees trees page = page.tree < trees

-- What pages give.

-- a page below with its block, or a slot that the window replaces
pub data Item : Type 0 where
  ALink : Link → Item
  AChange : SlotChange → Item

-- what a page gives
abbrev pub Gives : Image → PageId → Item → Type 0
Gives image page (ALink link) = (above link.page ≡ page) × (page_at image link.page ≡ Some link.at)
Gives image page (AChange change) = (change.page ≡ page) × (change.slot < PAGE_SLOTS) × (put_last image.window page change.slot ≡ Some change.mapping)

-- what was found has it
abbrev pub Has : Found → Item → Type 0
Has found (ALink link) = Contains found.links.items link
Has found (AChange change) = Contains found.slots.items change

-- one of these linked pages gives it
abbrev pub IsGiven : Image → (PageId → Type 0) → Item → Type 0
IsGiven image Over item = (page : PageId) × (at : Pbn) × Over page × (page_at image page ≡ Some at) × Gives image page item

-- Walks.

-- Each of these linked pages can be read. What they give was found, and so often each block to which they map, beside what
-- had been.
pub record HasWalked (image : Image) (Over : PageId → Type 0) (maps : Pbn → ℕ) (old new : Found) : Type 0 where
  pub good : (page : PageId) (at : Pbn) → Over page → page_at image page ≡ Some at → IsGoodPage image page at
  pub items : (item : Item) → Has new item ↔ (Has old item ⊎ IsGiven image Over item)
  pub mapped : (block : Pbn) → times block new.mapped.items ≡ times block old.mapped.items + maps block

-- what one page gives and maps to was found, beside what had been
pub record HasTaken (image : Image) (page : PageId) (old new : Found) : Type 0 where
  pub items : (item : Item) → Has new item ↔ (Has old item ⊎ Gives image page item)
  pub mapped : (block : Pbn) → times block new.mapped.items ≡ times block old.mapped.items + maps_in image page block

-- the page and all those below it were walked over; or the page and those of its first slots; or the first trees
abbrev pub WalkedUnder : Image → PageId → Found → Found → Type 0
WalkedUnder image top = HasWalked image (IsUnder top) (maps_below image top)

abbrev pub WalkedUpTo : Image → PageId → ℕ → Found → Found → Type 0
WalkedUpTo image top slots = HasWalked image (IsUpTo top slots) (maps_up_to image top slots)

abbrev pub WalkedTrees : Image → ℕ → Found → Found → Type 0
WalkedTrees image trees = HasWalked image (IsInTrees trees) (maps_in_trees image trees)

-- of these linked pages the one at this block is the first with a fault
pub record IsFirstFault (image : Image) (Over : PageId → Type 0) (at : Pbn) (fault : PageFault) : Type 0 where
  pub page : PageId
  pub over : Over page
  pub there : page_at image page ≡ Some at
  pub has : HasFault image page at fault
  pub first : (other : PageId) (place : Pbn) → Over other → IsAhead other page → page_at image other ≡ Some place → IsGoodPage image other place

-- a page stands at its block
abbrev pub IsLinked : Image → Link → Type 0
IsLinked image link = page_at image link.page ≡ Some link.at

-- the page that stands there, for the format of pages; and the other way round
abbrev pub head_at : Geometry → Link → PageHead
head_at g link = record { geometry = g; page = link.page; at = link.at }

abbrev pub link_to : PageHead → Link
link_to head = record { page = head.page; at = head.at }

-- the root of a tree, where it stands
abbrev pub IsRoot : Geometry → ℕ → Link → Type 0
IsRoot g tree link = (link.page ≡ root_page g tree) × (link.at.0 ≡ block_of g (Root tree))

-- why a walk ends early: a page has a fault, a read failed, or want of memory
abbrev pub WalkFails : Trust → Geometry → List (SlotId × Mapping) → Seen → Seen → (Image → Type 0) → (PageId → Type 0) → ImageFault → Type 0
WalkFails trust g changes before now There Over (Page at fault) =
    IsShown trust g changes before now (λ image. There image → IsFirstFault image Over at fault)
WalkFails trust g changes before now There Over Device = ReadFails trust g before now
WalkFails trust g changes before now There Over Memory = Unit {0}
WalkFails trust g changes before now There Over (Super fault) = ⊥
WalkFails trust g changes before now There Over (Window sequence) = ⊥
WalkFails trust g changes before now There Over (Counter at point) = ⊥
WalkFails trust g changes before now There Over (SharedPage at) = ⊥
WalkFails trust g changes before now There Over (Counts at stored mapped) = ⊥
WalkFails trust g changes before now There Over Unclean = ⊥
