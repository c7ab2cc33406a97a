-- The counts of all data blocks, from their counters, the commit points of the sectors, and a list of updates.
use Rattle.std.specs.Prelude.{ℕ, ◌≡◌, ◌+◌, ◌*◌, ◌<◌, List, length, get_or, slice_index, Result, Ok, Err}
use Rattle.blk_base.specs.Counters.{limit_of}
use Rattle.blk_base.specs.declared.geometry.Geometry.{Geometry}
use Rattle.blk_base.specs.declared.layout.DataPlace.{DataPlace}
use Rattle.blk_base.specs.declared.point.Point.{Point}
use Rattle.blk_base.specs.Regions.{data_blocks}
use Rattle.image_model.specs.Counts.{block_of_data}
use Rattle.image_model.specs.Sound.{IsDataPlace}
use Rattle.count_updates.specs.FoundLists.{FoundLists}
use Rattle.count_updates.specs.Listed.{IsCounted}
use Rattle.count_updates.specs.Numbers.{block_number, sector_number, IsEarlier}
use Rattle.count_updates.specs.declared.forms.CountFault.{CountFault}
use Rattle.count_updates.specs.declared.forms.CountFault.TheVariants.{Counter, Memory}

-- the commit point of the sector with this number
abbrev pub commit_in : List Point → ℕ → ℕ
commit_in commits number = (get_or commits number (record { 0 = 0 })).0

-- a data block has this count, or leaves its range at this point
abbrev pub IsCountedAt : Geometry → FoundLists → DataPlace → Result ℕ ℕ → Type 0
IsCountedAt g found place result =
    IsCounted (limit_of g) found.updates (block_of_data g place).0 (commit_in found.commits (sector_number g place)) (slice_index found.counters (block_number g place)) result

-- the counts of the data blocks before this offset of this slab
pub record AreCountedUpTo (g : Geometry) (found : FoundLists) (slab offset : ℕ) (counts : List ℕ) : Type 0 where
  pub size : length counts ≡ slab * g.slab_blocks + offset
  pub each : (place : DataPlace) → IsDataPlace g place → IsEarlier place slab offset
      → IsCountedAt g found place (Ok (slice_index counts (block_number g place)))

-- the counts of all data blocks
pub record AreCounted (g : Geometry) (found : FoundLists) (counts : List ℕ) : Type 0 where
  pub size : length counts ≡ data_blocks g
  pub each : (place : DataPlace) → IsDataPlace g place → IsCountedAt g found place (Ok (slice_index counts (block_number g place)))

-- the count of this data block leaves its range at this point; the least such block
pub record Leaves (g : Geometry) (found : FoundLists) (at point : ℕ) : Type 0 where
  pub place : DataPlace
  pub inside : IsDataPlace g place
  pub stands : (block_of_data g place).0 ≡ at
  pub leaves : IsCountedAt g found place (Err point)
  pub first : (other : DataPlace) → IsDataPlace g other → (block_of_data g other).0 < at
      → (count : ℕ) × IsCountedAt g found other (Ok count)

-- why there are no counts; of want of memory nothing
abbrev pub IsCountRefusal : Geometry → FoundLists → CountFault → Type 0
IsCountRefusal g found (Counter at point) = Leaves g found at.0 point.0
IsCountRefusal g found Memory = Unit {0}
