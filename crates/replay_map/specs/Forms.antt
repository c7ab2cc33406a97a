-- What a walk gives of any device: links and slots of the form that a block map has.
use Rattle.std.specs.Prelude.{ℕ, zero, suc, ◌≡◌, ◌⊎◌, ◌+◌, ◌-◌, ◌^◌, ◌<◌, List, [], ◌++◌, Contains, slice_index_or}
use Rattle.std.specs.List.{AllPairs}
use Rattle.blk_base.specs.Regions.{IsDataBlock}
use Rattle.blk_base.specs.declared.geometry.Geometry.{Geometry}
use Rattle.blk_base.specs.declared.place.Mapping.{Mapping}
use Rattle.blk_base.specs.declared.place.Mapping.TheVariants.{Unmapped, At}
use Rattle.blk_base.specs.declared.place.PageId.{PageId}
use Rattle.blk_base.specs.declared.place.Pbn.{Pbn}
use Rattle.blk_base.specs.declared.sizes.TheConstants.{PAGE_SLOTS, TREES}
use Rattle.blk_base.specs.Pages.{above, page_below, root_page}
use Rattle.replay_map.specs.Changes.{changed}
use Rattle.replay_map.specs.Links.{link_of}
use Rattle.replay_map.specs.Taken.{change_in}
use Rattle.replay_map.specs.Walks.{IsUpTo}
use Rattle.replay_map.specs.declared.changes.SlotId.{SlotId}
use Rattle.replay_map.specs.declared.found.Found.{Found}
use Rattle.replay_map.specs.declared.found.SlotChange.{SlotChange}
use Rattle.replay_map.specs.declared.links.Link.{Link}

-- a page of one of the trees, at one of their levels, with an index that the level has
pub record IsInTree (g : Geometry) (page : PageId) : Type 0 where
  pub tree : page.tree < TREES
  pub level : page.level < g.height
  pub index : page.index < PAGE_SLOTS ^ (g.height - 1 - page.level)

-- a link to a page below its tree's root, at a data block
pub record IsLinkOf (g : Geometry) (link : Link) : Type 0 where
  pub page : IsInTree g link.page
  pub below : link.page.level + 1 < g.height
  pub data_block : IsDataBlock g link.at.0

-- one of these links is of this page
abbrev pub IsListed : List Link → PageId → Type 0
IsListed links page = (link : Link) × Contains links link × (link.page ≡ page)

-- the page is the root of its tree
abbrev pub IsRootPage : Geometry → PageId → Type 0
IsRootPage g page = page ≡ root_page g page.tree

-- Links and slots of a whole map: each linked page once, below its tree's root and at a data block; the page above it is
-- the root, or linked too; and each slot once.
pub record HasForm (g : Geometry) (links : List Link) (slots : List SlotChange) : Type 0 where
  pub each : (link : Link) → Contains links link → IsLinkOf g link
  pub parents : (link : Link) → Contains links link → IsRootPage g (above link.page) ⊎ IsListed links (above link.page)
  pub once : AllPairs (λ (first second : Link). first.page ≡ second.page → ⊥) links
  pub slots_once : AllPairs (λ (first second : SlotChange). (first.page ≡ second.page) × (first.slot ≡ second.slot) → ⊥) slots

-- What a walk adds.

-- the links of the first slots of a page, in their order, and the slots of those that the changes replace
abbrev pub links_in : PageId → List Mapping → ℕ → List Link
links_in page mappings zero = []
links_in page mappings (suc n) = links_in page mappings n ++ link_of page n (slice_index_or mappings n Unmapped)

abbrev pub changes_in : List (SlotId × Mapping) → PageId → ℕ → List SlotChange
changes_in changes page zero = []
changes_in changes page (suc n) = changes_in changes page n ++ change_in page n (changed changes page n)

-- a change of a slot as what a walk finds of it
abbrev pub as_found : SlotId × Mapping → SlotChange
as_found change = record { page = change.0.page; slot = change.0.slot; mapping = change.1 }

-- what one page adds; a leaf leads to no pages
pub record Takes (page : PageId) (mappings : List Mapping) (changes : List (SlotId × Mapping)) (old new : Found) : Type 0 where
  pub leaf : page.level ≡ 0 → new.links.items ≡ old.links.items
  pub links : 0 < page.level → new.links.items ≡ old.links.items ++ links_in page mappings PAGE_SLOTS
  pub slots : new.slots.items ≡ old.slots.items ++ changes_in changes page PAGE_SLOTS

-- such things were added behind those before, each of one of these pages, and no two of them alike
pub record Adds {X : Type 0} (page_of : X → PageId) (Alike : X → X → Type 0) (Over : PageId → Type 0) (old new : List X) : Type 0 where
  pub added : List X
  pub after : new ≡ old ++ added
  pub over : (x : X) → Contains added x → Over (page_of x)
  pub once : AllPairs (λ (first second : X). Alike first second → ⊥) added

abbrev pub above_of : Link → PageId
above_of link = above link.page

abbrev pub is_page_of : SlotChange → PageId
is_page_of change = change.page

abbrev pub SamePage : Link → Link → Type 0
SamePage first second = first.page ≡ second.page

abbrev pub SameSlot : SlotChange → SlotChange → Type 0
SameSlot first second = (first.page ≡ second.page) × (first.slot ≡ second.slot)

-- a walk over these pages, from the top ones on, added links, each with the page above it, and slots
pub record AddsForm (g : Geometry) (IsTop Over : PageId → Type 0) (old new : Found) : Type 0 where
  pub links : Adds above_of SamePage Over old.links.items new.links.items
  pub slots : Adds is_page_of SameSlot Over old.slots.items new.slots.items
  pub each : (link : Link) → Contains links.added link → IsLinkOf g link
  pub parents : (link : Link) → Contains links.added link → IsTop (above link.page) ⊎ IsListed links.added (above link.page)

-- a page with these mappings, and those of its first slots, were walked over: its links are there
pub record HasVisited (g : Geometry) (top : PageId) (mappings : List Mapping) (count : ℕ) (old new : Found) : Type 0 where
  pub form : AddsForm g (λ page. page ≡ top) (IsUpTo top count) old new
  pub children : (slot : ℕ) (at : Pbn) → 0 < top.level → slot < PAGE_SLOTS → slice_index_or mappings slot Unmapped ≡ At at
      → Contains form.links.added (record { page = page_below top slot; at = at })
