-- What happens without a call of the device.
use Rattle.std.proofs.Common.{◌≡◌, Bool, true, false, List, [], ◌∷◌, ◌++◌, refl, ap, sym, arith}
use Rattle.disk_model.specs.Seen.{Seen}
use Rattle.disk_model.specs.Trust.{Trust}
use Rattle.disk_model.specs.declared.call.Call.{Call}
use Rattle.core_model.specs.Trace.{Trace, Calls, Fails, Harms, calls}
use Rattle.step_parts.specs.DeviceLog.{GivesSettled, HasCalled, failed_calls, lost_calls}

-- the device is as it was
abbrev pub Silent : Trace → Type 0
Silent made = (trust : Trust) (seen : Seen) → HasCalled trust seen seen made

-- where there is no call, no read gave anything
no_read : (seen : Seen) (made : Trace) → calls made ≡ [] → GivesSettled seen.opening seen.log made
no_read seen [] none = tt
no_read seen (Calls call ∷ t) none = absurd cc
no_read seen (Harms w at bytes fault ∷ t) none = absurd cc
no_read seen (Fails w call true ∷ t) none = absurd cc
no_read seen (Fails w call false ∷ t) none = no_read seen t none
no_read seen (other ∷ t) none = no_read seen t none

pub none_called : (made : Trace) → calls made ≡ [] → failed_calls made ≡ 0 → lost_calls made ≡ 0 → Silent made
none_called made none unfailed kept trust seen = record {
  stays = record { opening = refl; size = refl };
  given = λ told honest. no_read seen made none;
  log = λ told. ap (λ (cs : List Call). cs ++ seen.log) (sym none);
  faults = omega (arith, unfailed);
  unkept = omega (arith, kept);
  idle = λ none. refl;
}

-- by another name of what happens
pub silent : (made other : Trace) → made ≡ other → calls other ≡ [] → failed_calls other ≡ 0 → lost_calls other ≡ 0 → Silent made
silent made other is none unfailed kept = rw is (none_called other none unfailed kept)

-- nothing happens
pub unchanged : (trust : Trust) (seen : Seen) → HasCalled trust seen seen []
unchanged trust seen = none_called [] refl refl refl trust seen
