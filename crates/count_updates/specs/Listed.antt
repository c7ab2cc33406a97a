-- What a list of updates makes of a counter. The list may name an update more than once.
use Rattle.std.specs.Prelude.{ℕ, ◌≡◌, ◌⊎◌, ◌<◌, ◌≤◌, ◌↔◌, List, [], ◌∷◌, Contains, Result, length, get_or}
use Rattle.std.specs.List.{AllByRecursion}
use Rattle.blk_base.specs.declared.journal_entry.Update.{Update}
use Rattle.image_model.specs.Counts.{AreRising, count_from}

-- the list has an update of a block at a point
abbrev pub Lists : List Update → ℕ → ℕ → Type 0
Lists updates at point = Contains updates (record { at = record { 0 = at }; point = record { 0 = point } })

-- the other update may stand behind the one: its block is a later one, or the same, and then its point isn't an earlier one
abbrev pub IsUpTo : Update → Update → Type 0
IsUpTo one other = (one.at.0 < other.at.0) ⊎ ((one.at.0 ≡ other.at.0) × (one.point.0 ≤ other.point.0))

-- updates by their blocks, and those of a block by their points
abbrev pub AreInOrder : List Update → Type 0
AreInOrder [] = Unit {0}
AreInOrder (update ∷ later) = AllByRecursion (λ other. IsUpTo update other) later × AreInOrder later

-- the points above the commit point at which the list has updates of a block, each once
pub record ArePoints (updates : List Update) (at commit : ℕ) (points : List ℕ) : Type 0 where
  pub rising : AreRising points
  pub each : (point : ℕ) → Contains points point ↔ ((commit < point) × Lists updates at point)

-- the count of a block that has this counter, after its updates; or the point at which it leaves its range
pub record IsCounted (limit : ℕ) (updates : List Update) (at commit counter : ℕ) (result : Result ℕ ℕ) : Type 0 where
  pub points : List ℕ
  pub are : ArePoints updates at commit points
  pub counted : count_from limit commit counter points ≡ result

-- the first so many updates are of blocks before this one
pub record IsPassed (updates : List Update) (count at : ℕ) : Type 0 where
  pub within : count ≤ length updates
  pub before : (k : ℕ) (d : Update) → k < count → (get_or updates k d).at.0 < at
