-- The pages of the block map: 60 trees of them, whose leaves have a slot for each address.
use Rattle.std.specs.Prelude.{ℕ, ◌≡◌, ◌⊎◌, ◌+◌, ◌-◌, ◌*◌, ◌/◌, ◌^◌, ◌<◌, ◌≤◌, ◌==◌, ◌&&◌, Bool}
use Rattle.blk_base.specs.Pages.{page_above}
use Rattle.blk_base.specs.declared.geometry.Geometry.{Geometry}
use Rattle.blk_base.specs.declared.place.PageId.{PageId}
use Rattle.blk_base.specs.declared.sizes.TheConstants.{PAGE_SLOTS, TREES}

abbrev pub is_page : PageId → PageId → Bool
is_page page other = (page.tree == other.tree) && (page.level == other.level) && (page.index == other.index)

-- a page above an address of the image, or its leaf, which isn't a root: one that may be linked
pub record IsBelowRoot (g : Geometry) (page : PageId) : Type 0 where
  pub address : ℕ
  pub inside : address < g.logical
  pub level : page.level + 1 < g.height
  pub there : page ≡ page_above page.level address

-- how many slots all leaves have together
unfoldable pub address_count : Geometry → ℕ
address_count g = TREES * PAGE_SLOTS ^ g.height

-- A walk goes tree by tree, and from each page to those below it in the order of its slots. It comes to a page before
-- another one: in an earlier tree, or in the same tree above it, or to the left of it.
abbrev pub IsAhead : PageId → PageId → Type 0
IsAhead page other = (page.tree < other.tree)
    ⊎ ((page.tree ≡ other.tree) × (other.level < page.level) × (page.index ≤ other.index / PAGE_SLOTS ^ (page.level - other.level)))
    ⊎ ((page.tree ≡ other.tree) × (page.level ≤ other.level) × (page.index / PAGE_SLOTS ^ (other.level - page.level) < other.index))
