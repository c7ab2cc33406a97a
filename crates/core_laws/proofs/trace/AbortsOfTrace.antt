-- The writes that a right trace aborted were handed in, and their slots are never set; and no write or flush of the device
-- follows one that failed.
use Rattle.std.proofs.Common.{◌≡◌, Bool, true, false, not, ◌||◌, List, [], ◌∷◌, ◌++◌, Some, IsNone, refl, ap, sym, ◌∙◌, subst, inl, inr}
use Rattle.core_laws.proofs.Common.{Aborts, AllByRecursion, Call, Calls, Fails, Flushes, Happening, IsHeldBack, Remapping, MayFollow, RightTrace, Says, Session, Sets, StopsAtFailure, Trace, Writer, aborted, calls, entered, every-map, every_both, has_stopped, is_ok, is_read, logged_of, none_is, not_both, option_cases, or_parts, same_tells, same_writer, Remaps, Passes, remappings, applied, journaled, passed, Harms, Hears}
use Rattle.core_laws.proofs.lists.Between.{logged_between}
use Rattle.disk_model.specs.declared.call.Call.TheVariants as call
use Rattle.core_laws.proofs.trace.DeskOfTrace.{logged_has}
use Rattle.core_laws.proofs.trace.Growth.{entered_stays}

-- no entry of a list is of a request that the list doesn't name
others_named : (es : List Remapping) (w : Writer) → IsNone (logged_of es w) → AllByRecursion (λ (e : Remapping). same_writer w e.request ≡ false) es
others_named [] w none = tt
others_named (e ∷ es) w none = elim (same_tells e.request w) [
  | inl same ↦ absurd (let some : logged_of (e ∷ es) w ≡ Some e = rw same.0 refl in not_both (logged_of (e ∷ es) w) e none some)
  | inr other ↦ (elim (same_tells w e.request) [ inl same ↦ absurd (other.1 (sym same.1)) | inr off ↦ off.0 ], others_named es w (rw other.0 at none))
]

-- what was held back stays so
held_stays : (s : Session) (h : Happening) (t : Trace) → MayFollow s h t → AllByRecursion (IsHeldBack t) (aborted t) → AllByRecursion (IsHeldBack (h ∷ t)) (aborted t)
held_stays s (Sets (Remaps f)) t may all =
    every_both {P = λ (e : Remapping). same_writer f.request e.request ≡ false} {Q = IsHeldBack t} {R = IsHeldBack (Sets (Remaps f) ∷ t)} (λ e off is. record { handed_in = is.handed_in; unset = rw off is.unset }) (aborted t)
    (others_named (aborted t) f.request may.unaborted) all
held_stays s (Passes f) t may all =
    every-map {P = IsHeldBack t} {Q = IsHeldBack (Passes f ∷ t)} (λ e is. elim (same_tells f.request e.request) [
      | inl same ↦ absurd (not_both (logged_of (entered t) e.request) e (subst (λ (x : Writer). IsNone (logged_of (entered t) x)) same.1 may.once) is.handed_in)
      | inr other ↦ record {
        handed_in = logged_between (remappings (journaled t)) (passed t) f e.request other.0 ∙ is.handed_in;
        unset = subst IsNone (sym (logged_between (remappings (applied t)) (passed t) f e.request other.0)) is.unset;
      }
    ]) (aborted t) all
held_stays s other t may all =
    every-map {P = IsHeldBack t} {Q = IsHeldBack (other ∷ t)} (λ e is. record { handed_in = entered_stays s other t e.request e may is.handed_in; unset = is.unset }) (aborted t) all

-- each write that was aborted is held back
pub all_held_back : (s : Session) (t : Trace) → RightTrace s t → AllByRecursion (IsHeldBack t) (aborted t)
all_held_back s [] right = tt
all_held_back s (h ∷ t) right =
    let rest = held_stays s h t right.0 (all_held_back s t right.2) in
    by h right.0 rest
  where
    by : (g : Happening) → MayFollow s g t → AllByRecursion (IsHeldBack (g ∷ t)) (aborted t) → AllByRecursion (IsHeldBack (g ∷ t)) (aborted (g ∷ t))
    by (Aborts (Remaps e)) may rest = (record { handed_in = may.handed_in; unset = may.unset }, rest)
    by other may rest = rest

-- one whose entry wasn't handed in wasn't aborted
pub unentered_abort : (s : Session) (t : Trace) (w : Writer) → RightTrace s t → IsNone (logged_of (entered t) w) → IsNone (logged_of (aborted t) w)
unentered_abort s t w right none_entered = elim (option_cases (logged_of (aborted t) w)) [
  | inl none ↦ none_is (logged_of (aborted t) w) none
  | inr some ↦
      let has = logged_has (IsHeldBack t) (aborted t) w some.0 some.1 (all_held_back s t right) in
      absurd (not_both (logged_of (entered t) w) some.0 none_entered (subst (λ (x : Writer). logged_of (entered t) x ≡ Some some.0) has.1 has.0.handed_in))
]

-- No write or flush of the device follows one that failed.
pub stops_at_failure : (s : Session) (t : Trace) → RightTrace s t → StopsAtFailure t
stops_at_failure s [] right = tt
stops_at_failure s (Calls c ∷ t) right = (right.0.goes_on, stops_at_failure s t right.2)
stops_at_failure s (Fails w c kept ∷ t) right = (right.0.goes_on, stops_at_failure s t right.2)
stops_at_failure s (other ∷ t) right = stops_at_failure s t right.2

-- The same of the device's log: where the session isn't stopped, each write and flush in it succeeded.
abbrev HasDone : Call → Type 0
HasDone c = is_read c ≡ false → is_ok c ≡ true

writes_failed : (c : Call) (b : Bool) → (not (is_read c) || b) ≡ false → is_read c ≡ false → ⊥
writes_failed (call.Read x bytes over) b none writes = cc
writes_failed (call.Write x bytes over) b none writes = cc
writes_failed (call.Flush over) b none writes = cc

pub all_done : (s : Session) (t : Trace) → RightTrace s t → has_stopped t ≡ false → AllByRecursion HasDone (calls t)
all_done s [] right goes = tt
all_done s (Says line ∷ t) right goes = all_done s t right.2 goes
all_done s (Flushes mark ∷ t) right goes = all_done s t right.2 goes
all_done s (Calls c ∷ t) right goes = ((λ writes. right.0.succeeds), all_done s t right.2 goes)
all_done s (Fails w c true ∷ t) right goes = ((λ writes. absurd (writes_failed c (has_stopped t) goes writes)), all_done s t right.2 (or_parts (not (is_read c)) (has_stopped t) goes).1)
all_done s (Fails w c false ∷ t) right goes = all_done s t right.2 (or_parts (not (is_read c)) (has_stopped t) goes).1
all_done s (Harms w x bytes fault ∷ t) right goes = absurd cc
all_done s (Hears damage ∷ t) right goes = absurd cc
all_done s (other ∷ t) right goes = all_done s t right.2 goes

cons_is : (c d : Call) (cs ds : List Call) → c ∷ cs ≡ d ∷ ds → (c ≡ d) × (cs ≡ ds)
cons_is c d cs ds same = (cc, cc)

pub log_stops : (s : Session) (t : Trace) (newer older : List Call) (c : Call) → RightTrace s t → calls t ≡ newer ++ c ∷ older → is_read c ≡ false → AllByRecursion HasDone older
log_stops s [] [] older c right is writes = absurd cc
log_stops s [] (d ∷ newer) older c right is writes = absurd cc
log_stops s (Calls d ∷ t) [] older c right is writes =
    let both = cons_is d c (calls t) older is in subst (AllByRecursion HasDone) both.1 (all_done s t right.2 (right.0.goes_on (ap is_read both.0 ∙ writes)))
log_stops s (Calls d ∷ t) (e ∷ newer) older c right is writes = log_stops s t newer older c right.2 (cons_is d e (calls t) (newer ++ c ∷ older) is).1 writes
log_stops s (Fails w d true ∷ t) [] older c right is writes =
    let both = cons_is d c (calls t) older is in subst (AllByRecursion HasDone) both.1 (all_done s t right.2 (right.0.goes_on (ap is_read both.0 ∙ writes)))
log_stops s (Fails w d true ∷ t) (e ∷ newer) older c right is writes = log_stops s t newer older c right.2 (cons_is d e (calls t) (newer ++ c ∷ older) is).1 writes
log_stops s (Harms w x bytes fault ∷ t) [] older c right is writes =
    let both = cons_is (call.Read x bytes true) c (calls t) older is in let read = ap is_read both.0 in absurd cc
log_stops s (Harms w x bytes fault ∷ t) (e ∷ newer) older c right is writes = log_stops s t newer older c right.2 (cons_is (call.Read x bytes true) e (calls t) (newer ++ c ∷ older) is).1 writes
log_stops s (other ∷ t) newer older c right is writes = log_stops s t newer older c right.2 is writes
