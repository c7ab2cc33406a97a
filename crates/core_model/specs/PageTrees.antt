-- The trees of a logical zone, as it keeps them: which pages of the path of an address are linked.
use Rattle.std.specs.Prelude.{ℕ, zero, suc, ◌-◌, ◌≡◌, ◌<◌, ◌/◌, ◌%◌, Bool, not, Option, None, Some, is_some, List, if◌then◌else◌}
use Rattle.std.specs.List.{filter, list_any}
use Rattle.blk_base.specs.Pages.{above, slot_of, leaf_of, page_above}
use Rattle.blk_base.specs.declared.geometry.Geometry.{Geometry}
use Rattle.blk_base.specs.declared.place.PageId.{PageId}
use Rattle.blk_base.specs.declared.place.Pbn.{Pbn}
use Rattle.blk_base.specs.declared.point.Point.{Point}
use Rattle.blk_base.specs.Regions.{IsDataBlock}
use Rattle.blk_base.specs.declared.sizes.TheConstants.{PAGE_SLOTS, TREES}
use Rattle.block_map_tree.specs.Pages.{IsTreeOf}
use Rattle.block_map_tree.specs.Tree.{Tree, IsLinkable, IsThere, IsTree, mapping_of}
use Rattle.image_model.specs.Pages.{is_page}
use Rattle.data_vio.specs.declared.logged.Logged.{Logged}
use Rattle.core_model.specs.PageLinks.{block_in, page_in}

-- where the page above leads to this page, which is no root
abbrev pub link_at : Tree → PageId → Option Pbn
link_at tree page = block_in (mapping_of tree (above page) (slot_of page))

-- of so many levels of the path of an address, from the highest on, the first page that isn't linked
abbrev pub missing_from : ℕ → Tree → ℕ → Option PageId
missing_from zero tree a = None
missing_from (suc level) tree a = if is_some (link_at tree (page_above level a)) then missing_from level tree a else Some (page_above level a)

-- the highest page of the path of an address that isn't there: roots are
abbrev pub missing_at : Tree → ℕ → Option PageId
missing_at tree a = missing_from (tree.forest.geometry.height - 1) tree a

-- the block of the leaf of an address, where each page of its path is there
abbrev pub leaf_at : Tree → ℕ → Option Pbn
leaf_at tree a = if is_some (missing_at tree a) then None else link_at tree (leaf_of a)

-- the path of an address leads through a tree of the zone
pub record HasPath (tree : Tree) (a : ℕ) : Type 0 where
  pub inside : a < tree.forest.geometry.logical
  pub own : IsTreeOf tree.forest (a / PAGE_SLOTS % TREES)

-- whether a page is one of these, and these but that page
abbrev pub is_listed : PageId → List PageId → Bool
is_listed page pages = list_any (λ other. is_page other page) pages

abbrev pub but_page : PageId → List PageId → List PageId
but_page page pages = filter (λ other. not (is_page other page)) pages

-- a page may be linked at this block: it is on a path through the zone's trees and no root, and the page above it is there
pub record MayLink (tree : Tree) (page : PageId) (at : Pbn) : Type 0 where
  pub linkable : IsLinkable tree page
  pub up : IsThere tree (above page)
  pub is_data : IsDataBlock tree.forest.geometry at.0

-- no page is written as yet, so any point does for a link
abbrev pub least_point : Point
least_point = record { 0 = 0 }

-- the trees of one of so many zones of an image, with the pages that it links and those that these entries do
pub record IsMapTree (g : Geometry) (zone zones : ℕ) (links : PageId → Option Pbn) (es : List Logged) (tree : Tree) : Type 0 where
  pub forest_is : tree.forest ≡ record { geometry = g; zone = zone; zones = zones }
  pub form : IsTree tree
  pub linked : (page : PageId) → IsLinkable tree page → link_at tree page ≡ page_in links es page
