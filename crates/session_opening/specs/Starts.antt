-- What a session starts with, of an image.
use Rattle.std.specs.Prelude.{ℕ, ◌≡◌, ◌+◌, ◌*◌, ◌<◌, ◌↔◌, List, length, map, Contains, Some, Ok, slice_index, slice_index_or}
use Rattle.std.specs.List.{AllPairs}
use Rattle.blk_base.specs.Counters.{sectors_per_slab}
use Rattle.blk_base.specs.declared.geometry.Super.{Super}
use Rattle.blk_base.specs.declared.layout.DataPlace.{DataPlace}
use Rattle.blk_base.specs.declared.opened.Opened.{Opened}
use Rattle.blk_base.specs.declared.opened.OpenedPage.{OpenedPage}
use Rattle.blk_base.specs.declared.place.Mapping.TheVariants.{Unmapped}
use Rattle.blk_base.specs.declared.place.PageId.{PageId}
use Rattle.blk_base.specs.declared.place.Pbn.{Pbn}
use Rattle.blk_base.specs.declared.point.Point.{Point}
use Rattle.blk_base.specs.declared.sizes.TheConstants.{PAGE_SLOTS}
use Rattle.blk_base.specs.declared.geometry.Geometry.{Geometry}
use Rattle.blk_base.specs.Regions.{data_blocks}
use Rattle.block_map_tree.specs.OpenedTree.{IsLed}
use Rattle.count_updates.specs.Counted.{commit_in}
use Rattle.count_updates.specs.Numbers.{all_sectors, block_number}
use Rattle.image_model.specs.Counts.{Stores, commit_at}
use Rattle.image_model.specs.Maps.{Image, IsTreePage, page_at, says}
use Rattle.image_model.specs.Sound.{IsDataPlace}
use Rattle.replay_map.specs.Forms.{IsLinkOf}
use Rattle.replay_map.specs.declared.links.Link.{Link}

-- a page that is no leaf, at its block, with what its slots say
pub record IsInnerPage (image : Image) (opened : OpenedPage) : Type 0 where
  pub inner : 0 < opened.page.level
  pub stands : page_at image opened.page ≡ Some opened.at
  pub size : length opened.mappings ≡ PAGE_SLOTS
  pub slots : (slot : ℕ) → slot < PAGE_SLOTS → slice_index_or opened.mappings slot Unmapped ≡ says image opened.page opened.at slot

-- those of an image, each once
pub record AreInnerPages (image : Image) (pages : List OpenedPage) : Type 0 where
  pub each : (opened : OpenedPage) → Contains pages opened → IsInnerPage image opened
  pub every : (page : PageId) (at : Pbn) → 0 < page.level → page_at image page ≡ Some at → (opened : OpenedPage) × Contains pages opened × (opened.page ≡ page)
  pub once : AllPairs (λ (first second : OpenedPage). first.page ≡ second.page → ⊥) pages

-- the stored count of each data block
pub record AreCounters (image : Image) (counters : List ℕ) : Type 0 where
  pub size : length counters ≡ data_blocks image.geometry
  pub each : (place : DataPlace) → IsDataPlace image.geometry place → Stores image place (Ok (slice_index counters (block_number image.geometry place)))

-- the commit point of each sector that has counters
pub record AreCommits (image : Image) (commits : List Point) : Type 0 where
  pub size : length commits ≡ all_sectors image.geometry
  pub each : (slab n : ℕ) → slab < image.geometry.slabs → n < sectors_per_slab image.geometry
      → commit_in commits (slab * sectors_per_slab image.geometry + n) ≡ commit_at image.geometry image.blocks slab n

-- the blocks of its linked pages that are no roots
abbrev pub ArePageBlocks : Image → List Pbn → Type 0
ArePageBlocks image blocks = (at : Pbn) → Contains blocks at ↔ IsTreePage image at

-- Of any device: the blocks to which the slots of these pages lead, of each page below its tree's root one.
pub record AreLedTo (g : Geometry) (pages : List OpenedPage) (blocks : List Pbn) : Type 0 where
  pub links : List Link
  pub each : (link : Link) → Contains links link → IsLinkOf g link × IsLed pages link.page link.at
  pub every : (page : PageId) (at : Pbn) → IsLed pages page at → Contains links (record { page = page; at = at })
  pub once : AllPairs (λ (first second : Link). first.page ≡ second.page → ⊥) links
  pub listed : blocks ≡ map (λ link. link.at) links

-- what a session starts with on an image with this superblock
pub record IsStart (image : Image) (head : Super) (opened : Opened) : Type 0 where
  pub head_is : opened.head ≡ head
  pub pages : AreInnerPages image opened.pages.items
  pub counters : AreCounters image opened.counters.items
  pub commits : AreCommits image opened.commits.items
  pub tree_pages : ArePageBlocks image opened.tree_pages.items
