-- How long each list of a logical zone gets.
use Rattle.std.specs.Prelude.{ℕ, ◌≤◌, length}
use Rattle.core_model.specs.LogicalData.{LogicalZone}
use Rattle.core_model.specs.SessionLimits.{IsShort, most_entries, most_requests}

-- The lists of a logical zone that made so many steps: each draws one place at most.
pub record IsLogicalWithin (steps : ℕ) (l : LogicalZone) : Type 0 where
  pub next : l.next ≤ steps
  pub places : length l.places ≤ most_requests
  pub held : IsShort l.held
  pub waiting : IsShort l.waiting
  pub retired : length l.retired ≤ most_requests
  pub slots : length l.slots ≤ most_requests
  pub making : IsShort l.making
  pub lacking : IsShort l.lacking
  pub unlinkable : length l.unlinkable ≤ most_entries
  pub settling : IsShort l.settling
  pub reported : IsShort l.reported
