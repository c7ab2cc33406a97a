-- The pages of an image that are no leaves, and the tree that has them.
use Rattle.std.specs.Prelude.{ℕ, ◌≡◌, ◌<◌, ◌≤◌, ◌⊎◌, List, [], length, slice_index_or, replicate, All, Contains}
use Rattle.blk_base.specs.declared.sizes.TheConstants.{PAGE_SLOTS}
use Rattle.blk_base.specs.declared.place.PageId.{PageId}
use Rattle.blk_base.specs.declared.place.Pbn.{Pbn}
use Rattle.blk_base.specs.declared.place.Mapping.{Mapping}
use Rattle.blk_base.specs.declared.place.Mapping.TheVariants.{Unmapped, At}
use Rattle.blk_base.specs.declared.geometry.Geometry.{Geometry}
use Rattle.blk_base.specs.declared.opened.Opened.{Opened}
use Rattle.blk_base.specs.declared.opened.OpenedPage.{OpenedPage}
use Rattle.blk_base.specs.Regions.{Root, block_of}
use Rattle.blk_base.specs.Pages.{above, slot_of}
use Rattle.page_codec.specs.Grammar.{AreHeld}
use Rattle.dirty_pages.specs.DirtyPoints.{AreClean}
use Rattle.block_map_tree.specs.declared.forms.Forest.{Forest}
use Rattle.block_map_tree.specs.Pages.{IsTreeOf, IsOnPath, IsRoot, IsLower, IsInner}
use Rattle.block_map_tree.specs.Tree.{Tree, IsTree, IsAt, IsThere, row_of, most_rows, number_of, mappings_of, mapping_of}

-- the trees that one of so many zones has of an image
abbrev pub forest_of : Opened → ℕ → ℕ → Forest
forest_of opened zone zones = record { geometry = opened.head.geometry; zone = zone; zones = zones }

-- all trees of an image
abbrev pub all_trees : Geometry → Forest
all_trees g = record { geometry = g; zone = 0; zones = 1 }

-- the page is one of these
abbrev pub IsListed : List OpenedPage → PageId → Type 0
IsListed opened page = (o : OpenedPage) × Contains opened o × (o.page ≡ page)

-- one of these pages leads to the page at this block
pub record IsLed (opened : List OpenedPage) (page : PageId) (at : Pbn) : Type 0 where
  pub parent : OpenedPage
  pub listed : Contains opened parent
  pub named : parent.page ≡ above page
  pub leads : slice_index_or parent.mappings (slot_of page) Unmapped ≡ At at

-- the page is a root, or one of these pages leads to it, and it stands at its block
abbrev pub IsPlaced : Forest → List OpenedPage → OpenedPage → Type 0
IsPlaced f opened page =
    (IsRoot f page.page × (page.at.0 ≡ block_of f.geometry (Root page.page.tree))) ⊎ (IsLower f page.page × IsLed opened page.page page.at)

-- Pages of an image, each once. Those of the zone's trees are the roots and each linked page that is no leaf, at its block
-- and with what the format of pages can hold.
pub record IsOpened (f : Forest) (opened : List OpenedPage) : Type 0 where
  pub once : (i j : ℕ) (d : OpenedPage) → i < j → j < length opened → (slice_index_or opened i d).page ≡ (slice_index_or opened j d).page → ⊥
  pub inner : All (λ o. IsTreeOf f o.page.tree → IsInner f o.page) opened
  pub placed : All (λ o. IsTreeOf f o.page.tree → IsPlaced f opened o) opened
  pub held : All (λ o. IsTreeOf f o.page.tree → AreHeld f.geometry o.page.level o.mappings) opened
  pub roots : (page : PageId) → IsRoot f page → IsListed opened page
  pub linked : (page : PageId) (at : Pbn) → IsInner f page → IsLed opened page at → IsListed opened page

-- the tree has these pages of the zone's trees with their mappings, no others, and nothing to be written
pub record IsOpening (f : Forest) (opened : List OpenedPage) (tree : Tree) : Type 0 where
  pub forest : tree.forest ≡ f
  pub form : IsTree tree
  pub taken : All (λ o. IsTreeOf f o.page.tree → mappings_of tree o.page ≡ o.mappings) opened
  pub placed : All (λ o. IsTreeOf f o.page.tree → IsAt tree o.page o.at) opened
  pub only : (page : PageId) → IsInner f page → IsThere tree page → IsListed opened page
  pub empty : (page : PageId) (slot : ℕ) → IsInner f page → (IsListed opened page → ⊥) → mapping_of tree page slot ≡ Unmapped
  pub clean : AreClean tree.dirty_points

-- so many rows of pages have room for each page on a path of the logical size, and for each of these
pub record AreEnough (f : Forest) (opened : List OpenedPage) (rows : ℕ) : Type 0 where
  pub most : rows ≤ most_rows f.geometry.height
  pub paths : (page : PageId) → IsOnPath f page → 1 ≤ page.level → row_of f page < rows
  pub opened_too : All (λ o. IsTreeOf f o.page.tree → row_of f o.page < rows) opened

-- a page that leads nowhere
unfoldable pub blank : List Mapping
blank = replicate PAGE_SLOTS Unmapped

-- the first so many of these pages were taken over, the last one of each number, and the others stayed
pub record IsTakenOver (f : Forest) (opened : List OpenedPage) (count : ℕ) (old new : List (List Mapping)) : Type 0 where
  pub size : length new ≡ length old
  pub held : All (AreHeld f.geometry 1) old → All (AreHeld f.geometry 1) new
  pub taken : (k : ℕ) (d : OpenedPage) → k < count → IsTreeOf f (slice_index_or opened k d).page.tree
      → ((j : ℕ) → k < j → j < count → IsTreeOf f (slice_index_or opened j d).page.tree
      → number_of f (slice_index_or opened j d).page ≡ number_of f (slice_index_or opened k d).page → ⊥)
      → slice_index_or new (number_of f (slice_index_or opened k d).page) [] ≡ (slice_index_or opened k d).mappings
  pub others : (n : ℕ) → ((k : ℕ) (d : OpenedPage) → k < count → IsTreeOf f (slice_index_or opened k d).page.tree → number_of f (slice_index_or opened k d).page ≡ n → ⊥)
      → slice_index_or new n [] ≡ slice_index_or old n []
