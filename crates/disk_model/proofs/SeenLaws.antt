-- What holds over one call and the next holds over both.
use Rattle.std.proofs.Common.{◌≡◌, refl, ◌∙◌, ap, arith}
use Rattle.disk_model.specs.Seen.{Seen, Stays, Later}

pub stays_on : (first middle now : Seen) → Stays first middle → Stays middle now → Stays first now
stays_on first middle now old new = record { opening = new.opening ∙ old.opening; size = new.size ∙ old.size }

pub later_on : (first middle now : Seen) → Later first middle → Later middle now → Later first now
later_on first middle now old new = record { faults = omega arith; unkept = omega arith }

pub stays_yet : (seen : Seen) → Stays seen seen
stays_yet seen = record { opening = refl; size = refl }

pub later_yet : (seen : Seen) → Later seen seen
later_yet seen = record { faults = omega arith; unkept = omega arith }

-- a device that is as it was has the log that it had
pub log_same : (before now : Seen) → now ≡ before → now.log ≡ before.log
log_same before now same = ap (λ (seen : Seen). seen.log) same
