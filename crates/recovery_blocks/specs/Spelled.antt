-- What the sectors of a block of reference counters are to say, before they are written.
use Rattle.std.specs.Prelude.{ℕ, ◌≡◌, ◌+◌, ◌*◌, ◌%◌, ◌^◌, ◌<◌, ◌≤◌, List, length, get_or, min, slice_index}
use Rattle.blk_base.specs.Counters.{counters_per_sector, sector_of_offset, sectors_per_slab}
use Rattle.blk_base.specs.Sectors.{sector}
use Rattle.blk_base.specs.declared.geometry.Geometry.{Geometry}
use Rattle.replay_counts.specs.declared.forms.SectorPoints.{SectorPoints}
use Rattle.slab_codec.specs.Reference.{reference_sector_bytes}
use Rattle.slab_codec.specs.declared.forms.ReferenceSector.{ReferenceSector}
use Rattle.recovery_blocks.specs.Counters.{points_of}

-- the counters of the n-th sector of a slab are the counts of its blocks below this offset, and 0 behind the slab's end
pub record IsCounted (g : Geometry) (slab n : ℕ) (counts : List ℕ) (end : ℕ) (counters : List ℕ) : Type 0 where
  pub size : length counters ≡ counters_per_sector g
  pub each : (offset : ℕ) → offset < end → offset < g.slab_blocks → sector_of_offset g offset ≡ n
      → get_or counters (offset % counters_per_sector g) 0 ≡ min (slice_index counts (slab * g.slab_blocks + offset)) 255
  pub rest : (offset : ℕ) → g.slab_blocks ≤ offset → sector_of_offset g offset ≡ n → get_or counters (offset % counters_per_sector g) 0 ≡ 0

-- the n-th sector says so; one past the slab's end says what these bytes do
pub record IsSpelled (g : Geometry) (slab n : ℕ) (counts : List ℕ) (sectors : List SectorPoints) (bytes : List ℕ) (one : ReferenceSector) : Type 0 where
  pub size : length one.counters ≡ counters_per_sector g
  pub fits : one.commit.0 < 2 ^ 64
  pub commit : n < sectors_per_slab g → one.commit ≡ (points_of g sectors slab n).applied
  pub counters : n < sectors_per_slab g → IsCounted g slab n counts g.slab_blocks one.counters
  pub past : sectors_per_slab g ≤ n → bytes ≡ reference_sector_bytes one

-- the first sectors of the i-th block do
pub record AreSpelled (g : Geometry) (slab i : ℕ) (counts : List ℕ) (sectors : List SectorPoints) (block : List ℕ) (count : ℕ) (made : List ReferenceSector) : Type 0 where
  pub size : length made ≡ 8
  pub each : (j : ℕ) → j < count → j < 8 → (none : ReferenceSector) → IsSpelled g slab (i * 8 + j) counts sectors (sector j block) (get_or made j none)
