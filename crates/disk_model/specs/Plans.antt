-- Plans of faults: each fault says how many calls of its kind at its block still go by before the one that it names.
use Rattle.std.specs.Prelude.{ℕ, ◌-◌, ◌+◌, ◌==◌, ◌&&◌, not, Bool, true, false, if◌then◌else◌, List, [], ◌∷◌}
use Rattle.std.specs.List.{list_any, retain_mut}
use Rattle.disk_model.specs.declared.faults.CallKind.{CallKind}
use Rattle.disk_model.specs.declared.faults.CallKind.TheVariants.{Read, Write, Flush}
use Rattle.disk_model.specs.declared.faults.FaultAt.{FaultAt}

-- whether a fault of the first kind counts a call of the second one; `here` says whether it is at the fault's block
abbrev pub meets : CallKind → CallKind → Bool → Bool
meets Read Read here = here
meets Write Write here = here
meets Flush Flush here = true
meets Read Write here = false
meets Read Flush here = false
meets Write Read here = false
meets Write Flush here = false
meets Flush Read here = false
meets Flush Write here = false

-- whether a fault counts a call of this kind at this block
abbrev pub counts : FaultAt → CallKind → ℕ → Bool
counts fault kind at = meets fault.kind kind (fault.at.0 == at)

-- whether a fault names the next call, if that is of this kind at this block
abbrev pub strikes : FaultAt → CallKind → ℕ → Bool
strikes fault kind at = counts fault kind at && (fault.nth == 0)

-- whether some fault of a plan names this call
abbrev pub named : List FaultAt → CallKind → ℕ → Bool
named plan kind at = list_any (λ fault. strikes fault kind at) plan

-- whether some fault that names this call lets it take effect
abbrev pub takes_effect : List FaultAt → CallKind → ℕ → Bool
takes_effect plan kind at = list_any (λ fault. strikes fault kind at && fault.effect) plan

-- a fault after this call
abbrev pub counted_down : FaultAt → CallKind → ℕ → FaultAt
counted_down fault kind at = record { kind = fault.kind; at = fault.at; nth = if counts fault kind at then fault.nth - 1 else fault.nth; effect = fault.effect }

-- a plan after this call: without the faults that named it
abbrev pub counted : List FaultAt → CallKind → ℕ → List FaultAt
counted plan kind at = retain_mut (λ fault. not (strikes fault kind at)) (λ fault. counted_down fault kind at) plan

-- a plan after these calls, the newest first
abbrev pub counted_all : List FaultAt → List (CallKind × ℕ) → List FaultAt
counted_all plan [] = plan
counted_all plan (call ∷ older) = counted (counted_all plan older) call.0 call.1

-- how many of these calls a fault counts
abbrev pub count_of : FaultAt → List (CallKind × ℕ) → ℕ
count_of fault [] = 0
count_of fault (call ∷ older) = if counts fault call.0 call.1 then count_of fault older + 1 else count_of fault older

-- whether, after these calls, a fault names this call: it is the `nth` that the fault counts, from 0
abbrev pub is_nth : List (CallKind × ℕ) → CallKind → ℕ → FaultAt → Bool
is_nth calls kind at fault = counts fault kind at && (count_of fault calls == fault.nth)
