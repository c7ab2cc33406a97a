-- A block of reference counters into which the stored counts are put.
use Rattle.std.specs.Prelude.{ℕ, ◌≡◌, ◌+◌, ◌*◌, ◌/◌, ◌%◌, ◌<◌, ◌≤◌, List, get_or, min, slice_index}
use Rattle.blk_base.specs.Counters.{counters_per_sector, sector_of_offset, sectors_per_slab}
use Rattle.blk_base.specs.Sectors.{sector}
use Rattle.blk_base.specs.declared.geometry.Geometry.{Geometry}
use Rattle.byte_fields.specs.Fields.{number_at}
use Rattle.replay_counts.specs.Recovered.{no_points}
use Rattle.replay_counts.specs.declared.forms.SectorPoints.{SectorPoints}

-- the points of the n-th sector of a slab, in a list of all
abbrev pub points_of : Geometry → List SectorPoints → ℕ → ℕ → SectorPoints
points_of g sectors slab n = get_or sectors (slab * sectors_per_slab g + n) no_points

-- The n-th sector of a slab's counters has the greatest point applied to it, and the counts; one above 255, which no stored
-- count is, stands as 255. Those behind the slab's end are 0.
pub record IsSectorPut (g : Geometry) (slab n : ℕ) (counts : List ℕ) (sectors : List SectorPoints) (bytes : List ℕ) : Type 0 where
  pub commit : number_at 8 0 bytes ≡ (points_of g sectors slab n).applied.0
  pub counters : (offset : ℕ) → offset < g.slab_blocks → sector_of_offset g offset ≡ n
      → number_at 1 (8 + offset % counters_per_sector g) bytes ≡ min (slice_index counts (slab * g.slab_blocks + offset)) 255
  pub rest : (offset : ℕ) → g.slab_blocks ≤ offset → sector_of_offset g offset ≡ n → number_at 1 (8 + offset % counters_per_sector g) bytes ≡ 0

-- each sector of the i-th block of a slab's counters is put so, and those past the slab's end are as they were
pub record AreCountsPut (g : Geometry) (slab i : ℕ) (counts : List ℕ) (sectors : List SectorPoints) (old new : List ℕ) : Type 0 where
  pub put : (n : ℕ) → n / 8 ≡ i → n < sectors_per_slab g → IsSectorPut g slab n counts sectors (sector (n % 8) new)
  pub past : (n : ℕ) → n / 8 ≡ i → sectors_per_slab g ≤ n → sector (n % 8) new ≡ sector (n % 8) old

-- updates were applied to a sector of the block: its commit point isn't the greatest point applied to it
abbrev pub HasUpdate : Geometry → ℕ → ℕ → List SectorPoints → Type 0
HasUpdate g slab i sectors = (n : ℕ) × (n / 8 ≡ i) × (n < sectors_per_slab g)
    × ((points_of g sectors slab n).commit.0 ≡ (points_of g sectors slab n).applied.0 → ⊥)
