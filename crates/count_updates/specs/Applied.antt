-- The greatest point that was applied to each sector of counters.
use Rattle.std.specs.Prelude.{ℕ, ◌≡◌, ◌⊎◌, ◌<◌, ◌≤◌, List, length}
use Rattle.blk_base.specs.declared.geometry.Geometry.{Geometry}
use Rattle.blk_base.specs.declared.journal_entry.Update.{Update}
use Rattle.blk_base.specs.declared.layout.DataPlace.{DataPlace}
use Rattle.blk_base.specs.declared.point.Point.{Point}
use Rattle.image_model.specs.Counts.{block_of_data}
use Rattle.image_model.specs.Sound.{IsDataPlace}
use Rattle.count_updates.specs.Counted.{commit_in}
use Rattle.count_updates.specs.Listed.{Lists}
use Rattle.count_updates.specs.Numbers.{sector_number}

-- the greatest of these points above the commit point, or that one, where there is none
pub record IsGreatest (commit : ℕ) (Is : ℕ → Type 0) (applied : ℕ) : Type 0 where
  pub reached : (applied ≡ commit) ⊎ ((commit < applied) × Is applied)
  pub most : (point : ℕ) → commit < point → Is point → point ≤ applied

-- a block of the sector with this number has an update at this point
abbrev pub IsOfSector : Geometry → List Update → ℕ → ℕ → Type 0
IsOfSector g updates number point =
    (place : DataPlace) × IsDataPlace g place × (sector_number g place ≡ number) × Lists updates (block_of_data g place).0 point

-- for each of the commit points, that one or the greatest point above it that was applied to its sector
pub record AreApplied (g : Geometry) (updates : List Update) (commits applied : List Point) : Type 0 where
  pub size : length applied ≡ length commits
  pub each : (number : ℕ) → number < length commits → IsGreatest (commit_in commits number) (IsOfSector g updates number) (commit_in applied number)
