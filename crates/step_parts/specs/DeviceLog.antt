-- What a step leaves of the device.
use Rattle.std.specs.Prelude.{ℕ, suc, ◌≡◌, ◌+◌, ◌-◌, ◌^◌, ◌≤◌, Bool, true, false, IsTrue, List, [], ◌∷◌, ◌++◌, length, min}
use Rattle.disk_model.specs.declared.call.Call.{Call}
use Rattle.disk_model.specs.declared.call.Call.TheVariants.{Read}
use Rattle.disk_model.specs.Images.{IsMixOf}
use Rattle.disk_model.specs.Log.{Blocks, settled}
use Rattle.disk_model.specs.Seen.{Seen, Stays}
use Rattle.disk_model.specs.Trust.{Trust}
use Rattle.core_model.specs.Trace.{Trace, Calls, Fails, Harms, calls}

-- how many calls failed, and how many of these found no memory for a place in the log
abbrev pub failed_calls : Trace → ℕ
failed_calls [] = 0
failed_calls (Fails w call kept ∷ t) = suc (failed_calls t)
failed_calls (other ∷ t) = failed_calls t

abbrev pub lost_calls : Trace → ℕ
lost_calls [] = 0
lost_calls (Fails w call false ∷ t) = suc (lost_calls t)
lost_calls (other ∷ t) = lost_calls t

-- whether the device is called
abbrev pub has_calls : Trace → Bool
has_calls [] = false
has_calls (Calls call ∷ t) = true
has_calls (Fails w call kept ∷ t) = true
has_calls (Harms w at bytes fault ∷ t) = true
has_calls (other ∷ t) = has_calls t

-- a count rose by at least so many, or stands at the last value of its type
abbrev pub RoseBy : ℕ → ℕ → ℕ → Type 0
RoseBy n before now = min (before + n) (2 ^ 64 - 1) ≤ now

-- each read that succeeded gave, sector by sector, what the device may give then: these calls followed those of the log
abbrev pub GivesSettled : Blocks → List Call → Trace → Type 0
GivesSettled opening log [] = Unit {0}
GivesSettled opening log (Calls (Read at bytes true) ∷ t) =
    (length bytes ≡ 4096) × IsMixOf (settled opening (calls t ++ log) at.0) bytes × GivesSettled opening log t
GivesSettled opening log (Harms w at bytes fault ∷ t) =
    (length bytes ≡ 4096) × IsMixOf (settled opening (calls t ++ log) at.0) bytes × GivesSettled opening log t
GivesSettled opening log (other ∷ t) = GivesSettled opening log t

-- What is seen of a device before what happened, and after it: its opening blocks and its size stay; one that tells has the
-- calls in its log, and where it is honest its reads gave what was settled. Its count of faults rose with each call that
-- failed, and its count of those without a place in the log with each that isn't kept there. A device that isn't called is
-- as it was.
pub record HasCalled (trust : Trust) (before after : Seen) (made : Trace) : Type 0 where
  pub stays : Stays before after
  pub log : IsTrue trust.tells → after.log ≡ calls made ++ before.log
  pub given : IsTrue trust.tells → IsTrue trust.honest → GivesSettled before.opening before.log made
  pub faults : RoseBy (failed_calls made) before.faults after.faults
  pub unkept : RoseBy (lost_calls made) before.unkept after.unkept
  pub idle : has_calls made ≡ false → after ≡ before
