-- How a crash ends, step by step.
use Rattle.std.proofs.Common.{ℕ, ◌≡◌, ◌<◌, ◌≤◌, nat_lt, Bool, if◌then◌else◌, List, length, reverse, sym, ap, inl, inr, arith}
use Rattle.std.proofs.lemmas.Bool.{cases_Bool, lt-ltb, ltb-true}
use Rattle.std.proofs.lemmas.List.{length-reverse}
use Rattle.command_text.specs.declared.crashes.CrashStop.TheVariants.{Stopped, Ended}
use Rattle.crash_images.specs.Cuts.{stop_of}
use Rattle.disk_model.specs.declared.call.Call.{Call}

-- more calls were made than go on
pub was_stopped : (after : ℕ) (calls : List Call) → after < length calls → Stopped ≡ stop_of after (reverse calls)
was_stopped after calls more =
    let size = length-reverse calls in
    ap (λ (cut : Bool). if cut then Stopped else Ended) (sym (lt-ltb after (length (reverse calls)) (omega (arith, size, more))))

-- no more were
pub has_ended : (after : ℕ) (calls : List Call) → length calls ≤ after → Ended ≡ stop_of after (reverse calls)
has_ended after calls few =
    let size = length-reverse calls in
    elim (cases_Bool (nat_lt after (length (reverse calls)))) [
      | inl more ↦ absurd (let below = ltb-true after (length (reverse calls)) more in omega (arith, below, size, few))
      | inr none ↦ ap (λ (cut : Bool). if cut then Stopped else Ended) (sym none)
    ]
