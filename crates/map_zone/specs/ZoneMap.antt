-- What a logical zone keeps of the block map: the pages of its trees that are no leaves, and the leaves that are in memory.
use Rattle.std.specs.Prelude.{ℕ, ◌≡◌}
use Rattle.blk_base.specs.declared.opened.Opened.{Opened}
use Rattle.blk_base.specs.declared.place.PageId.{PageId}
use Rattle.blk_base.specs.declared.place.Pbn.{Pbn}
use Rattle.page_codec.specs.declared.forms.MapPage.{MapPage}
use Rattle.page_codec.specs.declared.forms.PageHead.{PageHead}
use Rattle.block_map_tree.specs.OpenedTree.{IsOpening, forest_of}
use Rattle.block_map_tree.specs.Tree.{IsAt, IsTree, Tree}
use Rattle.map_page_cache.specs.CachedPages.{CachedPages, IsCache, IsThere, no_pages}

pub record ZoneMap : Type 0 where
  pub tree : Tree
  pub cache : CachedPages

-- which page stands at a block of the zone's image
abbrev pub head_at : ZoneMap → PageId → Pbn → PageHead
head_at m page at = record { geometry = m.tree.forest.geometry; page = page; at = at }

-- a leaf that is linked at this block
pub record IsLeafAt (tree : Tree) (page : PageId) (at : Pbn) : Type 0 where
  pub level : page.level ≡ 0
  pub stands : IsAt tree page at

-- Holds of each zone's map: its tree and its cache are of the same image, and each page in memory is a linked leaf, at its
-- block.
pub record IsZoneMap (m : ZoneMap) : Type 0 where
  pub tree : IsTree m.tree
  pub cache : IsCache m.cache
  pub geometry : m.cache.geometry ≡ m.tree.forest.geometry
  pub leaves : (page : PageId) (content : MapPage) → IsThere m.cache page content → IsLeafAt m.tree page content.head.at

-- how the map of a zone is opened: with the trees that it has of the image, and no leaf in memory
pub record IsOpened (opened : Opened) (zone zones frames : ℕ) (m : ZoneMap) : Type 0 where
  pub form : IsZoneMap m
  pub tree : IsOpening (forest_of opened zone zones) opened.pages.items m.tree
  pub cache : m.cache ≡ no_pages opened.head.geometry frames
