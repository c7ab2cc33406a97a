-- The pages of the block map's trees, and which of them lead to an address.
use Rattle.std.specs.Prelude.{ℕ, zero, suc, ◌≡◌, ◌<◌, ◌≤◌, ◌+◌, ◌-◌, ◌*◌, ◌/◌, ◌%◌, ◌^◌, ◌⊎◌, List, [], ◌∷◌, ◌++◌, length, take, All}
use Rattle.blk_base.specs.declared.sizes.TheConstants.{PAGE_SLOTS, TREES}
use Rattle.blk_base.specs.declared.place.PageId.{PageId}
use Rattle.blk_base.specs.Limits.{IsGeometry}
use Rattle.blk_base.specs.Pages.{page_above}
use Rattle.block_map_tree.specs.declared.forms.Forest.{Forest}
use Rattle.block_map_tree.specs.declared.forms.Path.{Path}

-- so many digits of a number in base 812, the highest first
abbrev pub digits_of : ℕ → ℕ → List ℕ
digits_of zero q = []
digits_of (suc n) q = digits_of n (q / PAGE_SLOTS) ++ (q % PAGE_SLOTS) ∷ []

-- the number that these digits in base 812 spell, behind those that spell the first argument
abbrev pub spelled_behind : ℕ → List ℕ → ℕ
spelled_behind n [] = n
spelled_behind n (digit ∷ digits) = spelled_behind (n * PAGE_SLOTS + digit) digits

-- The path of an address. Its leaf is the page number p = address / 812 of all leaves, which go round the 60 trees. The
-- slots lead from the root down: the digits of p / 60, and then the slot in the leaf.
abbrev pub path_of : ℕ → ℕ → Path
path_of height address = record {
  tree = address / PAGE_SLOTS % TREES;
  slots = digits_of (height - 1) (address / PAGE_SLOTS / TREES) ++ (address % PAGE_SLOTS) ∷ [];
}

-- a path in trees of this height
pub record IsPath (height : ℕ) (path : Path) : Type 0 where
  pub tree : path.tree < TREES
  pub count : length path.slots ≡ height
  pub slots : All (λ slot. slot < PAGE_SLOTS) path.slots

-- the page of a level to which a path leads
abbrev pub page_on : Path → ℕ → ℕ → PageId
page_on path height level = record {
  tree = path.tree;
  level = level;
  index = spelled_behind 0 (take (height - 1 - level) path.slots);
}

-- an image's sizes within their limits, and one of its zones
pub record IsForest (f : Forest) : Type 0 where
  pub sizes : IsGeometry f.geometry
  pub zone : f.zone < f.zones
  pub zones : f.zones ≤ TREES

-- the zone has this tree
pub record IsTreeOf (f : Forest) (tree : ℕ) : Type 0 where
  pub inside : tree < TREES
  pub own : tree % f.zones ≡ f.zone

-- it is above an address of the logical size, or its leaf
pub record IsOnPath (f : Forest) (page : PageId) : Type 0 where
  pub address : ℕ
  pub inside : address < f.geometry.logical
  pub level : page.level < f.geometry.height
  pub there : page ≡ page_above page.level address
  pub tree : IsTreeOf f page.tree

-- the first of the addresses below a page
abbrev pub first_below : PageId → ℕ
first_below page = (page.index * PAGE_SLOTS ^ page.level * TREES + page.tree) * PAGE_SLOTS

-- the root of a tree
pub record IsRoot (f : Forest) (page : PageId) : Type 0 where
  pub tree : IsTreeOf f page.tree
  pub level : page.level + 1 ≡ f.geometry.height
  pub index : page.index ≡ 0

-- a page below a root, which has 812 pages of the next level, and each of these 812 again
pub record IsLower (f : Forest) (page : PageId) : Type 0 where
  pub tree : IsTreeOf f page.tree
  pub level : page.level + 1 < f.geometry.height
  pub index : page.index < PAGE_SLOTS ^ (f.geometry.height - 1 - page.level)

-- a page whose slots lead to other pages: one that is no leaf
pub record IsInner (f : Forest) (page : PageId) : Type 0 where
  pub level : 1 ≤ page.level
  pub there : IsRoot f page ⊎ IsLower f page
