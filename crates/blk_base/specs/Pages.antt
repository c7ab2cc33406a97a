-- The trees of pages of the block map: each page has 812 of the level below.
use Rattle.std.specs.Prelude.{ℕ, ◌+◌, ◌-◌, ◌*◌, ◌/◌, ◌%◌, ◌^◌}
use Rattle.std.specs.Ordering.{nat_cmp, ordering_then}
use Rattle.std.specs.declared.cmp.Ordering.{Ordering}
use Rattle.blk_base.specs.declared.geometry.Geometry.{Geometry}
use Rattle.blk_base.specs.declared.place.PageId.{PageId}
use Rattle.blk_base.specs.declared.sizes.TheConstants.{PAGE_SLOTS, TREES}

-- the root of a tree
abbrev pub root_page : Geometry → ℕ → PageId
root_page g tree = record { tree = tree; level = g.height - 1; index = 0 }

-- the page that leads to a page that is no root, and the slot there
abbrev pub above : PageId → PageId
above page = record { tree = page.tree; level = page.level + 1; index = page.index / PAGE_SLOTS }

abbrev pub slot_of : PageId → ℕ
slot_of page = page.index % PAGE_SLOTS

-- the page to which a slot leads, of a page that is no leaf
abbrev pub page_below : PageId → ℕ → PageId
page_below page slot = record { tree = page.tree; level = page.level - 1; index = page.index * PAGE_SLOTS + slot }

-- The page of a level above an address. The leaves go round the trees, and each page has 812 of the level below.
abbrev pub page_above : ℕ → ℕ → PageId
page_above level address = record { tree = address / PAGE_SLOTS % TREES; level = level; index = address / PAGE_SLOTS / TREES / PAGE_SLOTS ^ level }

-- the leaf of an address, and its slot there
abbrev pub leaf_of : ℕ → PageId
leaf_of address = page_above 0 address

abbrev pub slot_of_address : ℕ → ℕ
slot_of_address address = address % PAGE_SLOTS

-- the order of pages: by tree, level and index
abbrev pub page_order : PageId → PageId → Ordering
page_order a b = ordering_then (nat_cmp a.tree b.tree) (ordering_then (nat_cmp a.level b.level) (nat_cmp a.index b.index))
