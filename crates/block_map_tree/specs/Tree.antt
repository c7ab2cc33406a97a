-- The pages of a zone's trees that are no leaves: where their slots lead, and what of that isn't on the device yet.
use Rattle.std.specs.Prelude.{ℕ, ◌≡◌, ◌<◌, ◌≤◌, ◌+◌, ◌-◌, ◌*◌, ◌/◌, ◌==◌, if◌then◌else◌, List, [], length, All, slice_index_or, slice_set}
use Rattle.blk_base.specs.declared.sizes.TheConstants.{PAGE_SLOTS, TREES}
use Rattle.blk_base.specs.declared.place.PageId.{PageId}
use Rattle.blk_base.specs.declared.place.Pbn.{Pbn}
use Rattle.blk_base.specs.declared.place.Mapping.{Mapping}
use Rattle.blk_base.specs.declared.place.Mapping.TheVariants.{Unmapped, At}
use Rattle.blk_base.specs.declared.point.Point.{Point}
use Rattle.blk_base.specs.Regions.{Root, block_of}
use Rattle.blk_base.specs.Pages.{above, slot_of}
use Rattle.page_codec.specs.declared.forms.MapPage.{MapPage}
use Rattle.page_codec.specs.Grammar.{AreHeld}
use Rattle.dirty_pages.specs.declared.dirty_points.DirtyPoints.{DirtyPoints}
use Rattle.dirty_pages.specs.DirtyPoints.{HasPoint, IsBeingWritten, HandsOut, dirty_points_at, with_dirty_points, changed_at, handed_out, settled}
use Rattle.block_map_tree.specs.declared.forms.Path.{Path}
use Rattle.block_map_tree.specs.declared.forms.Forest.{Forest}
use Rattle.block_map_tree.specs.declared.forms.Found.{Found}
use Rattle.block_map_tree.specs.declared.forms.Found.TheVariants.{Leaf, Missing}
use Rattle.block_map_tree.specs.Pages.{page_on, IsForest, IsOnPath, IsRoot, IsLower, IsInner}

-- what each page that is no leaf says, and its dirty points, by the numbers of the pages
pub record Tree : Type 0 where
  pub forest : Forest
  pub pages : List (List Mapping)
  pub dirty_points : List DirtyPoints

-- how many trees the zone has
abbrev pub trees_of : Forest → ℕ
trees_of f = (TREES - 1 - f.zone) / f.zones + 1

-- The number of a page that is no leaf. The roots are in row 0, and in each later row there is one page of each tree.
abbrev pub row_of : Forest → PageId → ℕ
row_of f page = if page.level + 1 == f.geometry.height then 0 else page.index + 1

abbrev pub number_of : Forest → PageId → ℕ
number_of f page = row_of f page * trees_of f + page.tree / f.zones

-- how many rows trees of a height have: at height 3 each root leads to 812 pages that are no leaves
abbrev pub most_rows : ℕ → ℕ
most_rows height = 1 + PAGE_SLOTS * (height - 2)

-- each mapping of a page, and that of a slot
abbrev pub mappings_of : Tree → PageId → List Mapping
mappings_of tree page = slice_index_or tree.pages (number_of tree.forest page) []

abbrev pub mapping_of : Tree → PageId → ℕ → Mapping
mapping_of tree page slot = slice_index_or (mappings_of tree page) slot Unmapped

-- the page is a root, or is linked, and stands at this block
pub data IsAt (tree : Tree) (page : PageId) (at : Pbn) : Type 0 where
  as_root : IsRoot tree.forest page → at.0 ≡ block_of tree.forest.geometry (Root page.tree) → IsAt tree page at
  by_link : IsLower tree.forest page → mapping_of tree (above page) (slot_of page) ≡ At at → IsAt tree page at

-- the page stands at some block
pub record IsThere (tree : Tree) (page : PageId) : Type 0 where
  pub at : Pbn
  pub stands : IsAt tree page at

-- what a walk along the links of a path finds: each page is there, or which is the highest that isn't
abbrev pub IsFound : Tree → Path → Found → Type 0
IsFound tree path (Leaf at) =
    IsAt tree (page_on path tree.forest.geometry.height 0) at
    × ((level : ℕ) → level < tree.forest.geometry.height → IsThere tree (page_on path tree.forest.geometry.height level))
IsFound tree path (Missing missing) =
    (missing < tree.forest.geometry.height) × (IsThere tree (page_on path tree.forest.geometry.height missing) → ⊥)
    × ((level : ℕ) → missing < level → level < tree.forest.geometry.height → IsThere tree (page_on path tree.forest.geometry.height level))

abbrev pub dirty_points_of : Tree → PageId → DirtyPoints
dirty_points_of tree page = dirty_points_at tree.dirty_points (number_of tree.forest page)

-- other dirty points for a page
abbrev pub with_change : Tree → PageId → (DirtyPoints → DirtyPoints) → Tree
with_change tree page change = record tree { dirty_points = with_dirty_points tree.dirty_points (number_of tree.forest page) change }

-- a mapping for a slot of a page
abbrev pub with_mapping : Tree → PageId → ℕ → Mapping → Tree
with_mapping tree page slot mapping = record tree {
  pages = slice_set tree.pages (number_of tree.forest page) (slice_set (mappings_of tree page) slot mapping);
}

-- Holds of each tree: it has a place for each page on a path of the logical size, each page has what the format of pages
-- can hold above the leaves, and each page with an unwritten link is there.
pub record IsTree (tree : Tree) : Type 0 where
  pub forest : IsForest tree.forest
  pub room : (page : PageId) → IsOnPath tree.forest page → 1 ≤ page.level → number_of tree.forest page < length tree.pages
  pub most : length tree.pages ≤ most_rows tree.forest.geometry.height * trees_of tree.forest
  pub held : All (AreHeld tree.forest.geometry 1) tree.pages
  pub dirty_points : length tree.dirty_points ≡ length tree.pages
  pub there : (page : PageId) (point : Point) → IsInner tree.forest page → HasPoint (dirty_points_of tree page) point → IsThere tree page

-- a page that may be linked: it is on a path of the logical size, and no root
pub record IsLinkable (tree : Tree) (page : PageId) : Type 0 where
  pub path : IsOnPath tree.forest page
  pub lower : IsRoot tree.forest page → ⊥

-- the page above leads to the page now, and is changed since this point at the latest; all else stays
pub record Links (old new : Tree) (page : PageId) (at : Pbn) (point : Point) : Type 0 where
  pub form : IsTree new
  pub set : new ≡ with_change (with_mapping old (above page) (slot_of page) (At at)) (above page) (changed_at point)

-- the page that was changed first, of those that are due, is handed out with its mappings
pub record Expires (old new : Tree) (point : Point) (out : PageId) (into : MapPage) : Type 0 where
  pub inner : IsInner old.forest out
  pub dirty_points : HandsOut old.dirty_points new.dirty_points point (number_of old.forest out)
  pub geometry : into.head.geometry ≡ old.forest.geometry
  pub page : into.head.page ≡ out
  pub at : IsAt old out into.head.at
  pub mappings : into.mappings ≡ mappings_of old out
  pub held : AreHeld old.forest.geometry out.level into.mappings
  pub form : IsTree new
  pub set : new ≡ with_change old out handed_out

-- the page was handed out, and isn't written yet
pub record IsWriting (tree : Tree) (page : PageId) : Type 0 where
  pub inner : IsInner tree.forest page
  pub dirty_points : IsBeingWritten (dirty_points_of tree page)

-- the page is written, but for the links since it was handed out
pub record Writes (old new : Tree) (page : PageId) : Type 0 where
  pub form : IsTree new
  pub set : new ≡ with_change old page settled
