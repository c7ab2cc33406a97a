-- How long each list of a physical zone gets.
use Rattle.std.specs.Prelude.{ℕ, ◌<◌, ◌≤◌, length}
use Rattle.core_model.specs.declared.zones.PhysicalZone.{PhysicalZone}
use Rattle.core_model.specs.PhysicalRules.{next_step}
use Rattle.core_model.specs.SessionLimits.{most_requests}

-- A physical zone keeps the entries whose decrement found 0: each request has one at most. It has room for one more ticket, and has given
-- or taken back one at most in each of so many steps.
pub record IsPhysicalWithin (steps : ℕ) (p : PhysicalZone) : Type 0 where
  pub strays : length p.strays ≤ most_requests
  pub tickets : length p.counts.desk.out < p.counts.desk.room
  pub issued : p.counts.desk.issued ≤ next_step p.counts.desk.step
  pub begun : next_step p.counts.desk.step ≤ steps
