-- What the blocks of an image have that a forced rebuild writes, while it does, and afterwards.
use Rattle.std.specs.Prelude.{ℕ, ◌≡◌, ◌+◌, ◌*◌, ◌≤◌, List, All, length, map, take, drop, slice_index, Some}
use Rattle.blk_base.specs.Counters.{limit_of}
use Rattle.blk_base.specs.Points.{point_of}
use Rattle.blk_base.specs.Regions.{Place, ReferenceBlock, IsPlace, block_of, data_blocks}
use Rattle.blk_base.specs.Sectors.{sector, zero_block}
use Rattle.blk_base.specs.declared.geometry.Geometry.{Geometry}
use Rattle.blk_base.specs.declared.layout.DataPlace.{DataPlace}
use Rattle.blk_base.specs.declared.place.PageId.{PageId}
use Rattle.blk_base.specs.declared.place.Pbn.{Pbn}
use Rattle.blk_base.specs.declared.point.Half.TheVariants.{Decrement}
use Rattle.count_updates.specs.Numbers.{block_number}
use Rattle.disk_model.specs.Log.{Blocks, block_at}
use Rattle.image_model.specs.Counts.{HasMappings, block_of_data}
use Rattle.image_model.specs.Maps.{Image, page_at}
use Rattle.image_model.specs.Sound.{IsDataPlace}
use Rattle.recovery_laws.specs.Written.{IsFullPage, IsPartPage}
use Rattle.sector_records.specs.SectorBytes.{sector_numbers}
use Rattle.slab_codec.specs.Reference.{counters_in, reference_bytes}
use Rattle.slab_codec.specs.declared.forms.ReferenceSector.{ReferenceSector}
use Rattle.force_rebuild.specs.Kept.{AreOthersKept, IsSlabPlace}

-- The counts, by the map alone.

-- these are the numbers of mappings of all data blocks, slab after slab, and a counter can say each
pub record AreMappings (image : Image) (counters : List ℕ) : Type 0 where
  pub size : length counters ≡ data_blocks image.geometry
  pub each : (place : DataPlace) → IsDataPlace image.geometry place
      → HasMappings image (block_of_data image.geometry place) (slice_index counters (block_number image.geometry place))
  pub limit : All (λ count. count ≤ limit_of image.geometry) counters

-- those of a slab
abbrev pub counters_of_slab : Geometry → List ℕ → ℕ → List ℕ
counters_of_slab g counters slab = take g.slab_blocks (drop (slab * g.slab_blocks) counters)

-- Blocks of a slab.

-- The commit point: that of the last half that a block with this sequence can have, the decrement of its entry 191. So it is
-- behind each update of the window, and before each one of the next session.
abbrev pub commit_behind : ℕ → ℕ
commit_behind last = point_of last 191 Decrement

-- the n-th sector of a slab's counters
abbrev pub counted_sector : Geometry → ℕ → List ℕ → ℕ → ReferenceSector
counted_sector g commit counters n = record { commit = record { 0 = commit }; counters = counters_in g n counters }

-- the eight sectors of the i-th block of them
abbrev pub counted_sectors : Geometry → ℕ → List ℕ → ℕ → List ReferenceSector
counted_sectors g commit counters i = map (λ j. counted_sector g commit counters (i * 8 + j)) sector_numbers

-- and the block
unfoldable pub counted_block : Geometry → ℕ → List ℕ → ℕ → List ℕ
counted_block g commit counters i = reference_bytes (counted_sectors g commit counters i)

-- what stands at a place of a slab afterwards: the counts, and an empty journal
abbrev pub slab_block : Geometry → ℕ → List ℕ → Place → List ℕ
slab_block g commit counters (ReferenceBlock slab i) = counted_block g commit (counters_of_slab g counters slab) i
slab_block g commit counters _ = zero_block

-- The blocks.

-- While an image is rebuilt: its superblock's fields are what they were, and each page says the same with the window.
pub record AreUnderway (image : Image) (blocks : Blocks) : Type 0 where
  pub size : length blocks ≡ length image.blocks
  pub head : sector 0 (block_at blocks 0) ≡ sector 0 (block_at image.blocks 0)
  pub pages : (page : PageId) (at : Pbn) → page_at image page ≡ Some at → IsPartPage image page at (block_at blocks at.0)
  pub others : AreOthersKept image blocks

-- Once all is written but the superblock: each page says the same by itself, and the slabs have their counts and no entry in
-- a journal.
pub record AreRewritten (image : Image) (commit : ℕ) (counters : List ℕ) (blocks : Blocks) : Type 0 where
  pub size : length blocks ≡ length image.blocks
  pub pages : (page : PageId) (at : Pbn) → page_at image page ≡ Some at → IsFullPage image page at (block_at blocks at.0)
  pub slabs : (place : Place) → IsPlace image.geometry place → IsSlabPlace place
      → block_at blocks (block_of image.geometry place) ≡ slab_block image.geometry commit counters place
  pub others : AreOthersKept image blocks
