-- A fair session was fair before, and it stays so while nothing is read of the device.
use Rattle.std.proofs.Common.{◌≡◌, true, false, [], ◌∷◌, ◌++◌}
use Rattle.disk_model.specs.declared.call.Call.TheVariants.{Read, Write, Flush}
use Rattle.core_model.specs.Sessions.{HasHonestReads, IsFair, Session}
use Rattle.core_model.specs.Trace.{Calls, Happening, Harms, Trace, is_read}

-- an honest device was so before
pub honest_before : (s : Session) (h : Happening) (t : Trace) → HasHonestReads s (h ∷ t) → HasHonestReads s t
honest_before s (Calls (Read at bytes true)) t k = k.1
honest_before s (Harms w at bytes fault) t k = k.1
honest_before s other t k = k

-- a fair session was so before one happening, and before the newer ones
pub fair_before : (s : Session) (h : Happening) (t : Trace) → IsFair s (h ∷ t) → IsFair s t
fair_before s h t k = record { honest = honest_before s h t k.honest; opened = k.opened }

pub fair_part : (s : Session) (newer older : Trace) → IsFair s (newer ++ older) → IsFair s older
fair_part s [] older k = k
fair_part s (h ∷ newer) older k = fair_part s newer older (fair_before s h (newer ++ older) k)

-- a happening that reads nothing of the device
abbrev pub ReadsNothing : Happening → Type 0
ReadsNothing (Calls c) = is_read c ≡ false
ReadsNothing (Harms w at bytes fault) = ⊥
ReadsNothing other = Unit {0}

honest_on : (s : Session) (h : Happening) (t : Trace) → ReadsNothing h → HasHonestReads s t → HasHonestReads s (h ∷ t)
honest_on s (Calls (Read at bytes ok)) t none k = absurd cc
honest_on s (Calls (Write at bytes ok)) t none k = k
honest_on s (Calls (Flush ok)) t none k = k
honest_on s (Harms w at bytes fault) t none k = absurd none
honest_on s other t none k = k

-- over one it stays fair
pub fair_on : (s : Session) (h : Happening) (t : Trace) → ReadsNothing h → IsFair s t → IsFair s (h ∷ t)
fair_on s h t none k = record { honest = honest_on s h t none k.honest; opened = k.opened }
