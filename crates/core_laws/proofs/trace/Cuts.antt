-- Where a stop cuts a trace, and what stood at a mark's call then.
use Rattle.std.proofs.Common.{◌≡◌, ◌⊎◌, true, List, [], ◌∷◌, ◌++◌, refl, sym, ap, inl, inr, suc, ◌+◌, ◌≤◌, length, ◌∙◌, arith, length-append}
use Rattle.core_laws.proofs.Common.{Call, Calls, DeskLine, Enters, Fails, Flushes, FlushMark, Happening, RightTrace, Says, Session, Trace, append-nil, calls, lines, Logged, journaled, Harms}
use Rattle.blk_base.specs.declared.request.Answer.TheVariants.{Ok}
use Rattle.vdo_model.specs.declared.report.DeskLine.TheVariants.{Answer}
use Rattle.disk_model.specs.declared.call.Call.TheVariants.{Flush, Read}
use Rattle.vdo_model.proofs.HistoryLaws.{length_at_later, length_at_next}
use Rattle.vdo_model.specs.FlushMarks.{successes}
use Rattle.vdo_model.specs.Stops.{length_at}
use Rattle.core_laws.proofs.trace.MarksOfTrace.{HasMark}

-- The lists of a trace that has an older part: each is what the newer part adds to that of the older one.

-- The lines of the desk log.
pub lines_append : (newer older : Trace) → lines (newer ++ older) ≡ lines newer ++ lines older
lines_append [] older = refl
lines_append (Says line ∷ t) older = ap (λ (xs : List DeskLine). line ∷ xs) (lines_append t older)
lines_append (Flushes mark ∷ t) older = ap (λ (xs : List DeskLine). Answer mark.request Ok ∷ xs) (lines_append t older)
lines_append (Fails w c true ∷ t) older = lines_append t older
lines_append (Harms w x bytes fault ∷ t) older = lines_append t older
lines_append (other ∷ t) older = lines_append t older

-- The calls of the device.
pub calls_append : (newer older : Trace) → calls (newer ++ older) ≡ calls newer ++ calls older
calls_append [] older = refl
calls_append (Calls call ∷ t) older = ap (λ (xs : List Call). call ∷ xs) (calls_append t older)
calls_append (Fails w call true ∷ t) older = ap (λ (xs : List Call). call ∷ xs) (calls_append t older)
calls_append (Harms w x bytes fault ∷ t) older = ap (λ (xs : List Call). Read x bytes true ∷ xs) (calls_append t older)
calls_append (other ∷ t) older = calls_append t older

-- The entries that were handed in.
pub journaled_append : (newer older : Trace) → journaled (newer ++ older) ≡ journaled newer ++ journaled older
journaled_append [] older = refl
journaled_append (Enters e ∷ t) older = ap (λ (xs : List Logged). e ∷ xs) (journaled_append t older)
journaled_append (other ∷ t) older = journaled_append t older

-- The older part of a right trace is right.
pub right_part : (s : Session) (newer older : Trace) → RightTrace s (newer ++ older) → RightTrace s older
right_part s [] older right = right
right_part s (h ∷ t) older right = right_part s t older right.2

-- Of two older parts of one list one is a part of the other.
pub one_is_part : {X : Type 0} (p q x y : List X) → p ++ x ≡ q ++ y → ((m : List X) × (x ≡ m ++ y)) ⊎ ((h : X) × (m : List X) × (y ≡ h ∷ (m ++ x)))
one_is_part [] q x y same = inl (q, same)
one_is_part (h ∷ p) [] x y same = inr (h, p, sym same)
one_is_part (h ∷ p) (i ∷ q) x y same = one_is_part p q x y cc

-- Where a stop cuts a trace, and what stood at a mark's call then.

-- the part of a trace whose calls are these, which is empty or whose newest happening is a call
pub record Cut (t : Trace) (prefix : List Call) : Type 0 where
  pub newer : Trace
  pub older : Trace
  pub parts : t ≡ newer ++ older
  pub calls_are : calls older ≡ prefix
  pub short : (older ≡ []) ⊎ ((call : Call) × (newest : Happening) × (oldest : Trace) × (older ≡ newest ∷ oldest) × (calls older ≡ call ∷ calls oldest))

one_more : (h : Happening) (t : Trace) (prefix : List Call) → Cut t prefix → Cut (h ∷ t) prefix
one_more h t prefix cut = record { newer = h ∷ cut.newer; older = cut.older; parts = ap (λ (u : Trace). h ∷ u) cut.parts; calls_are = cut.calls_are; short = cut.short }

cut_at : (t : Trace) (later : List Call) (call : Call) (prefix : List Call) → calls t ≡ later ++ (call ∷ prefix) → Cut t (call ∷ prefix)
cut_at [] [] call prefix is = absurd cc
cut_at [] (c ∷ later) call prefix is = absurd cc
cut_at (Calls other ∷ t) [] call prefix is = record { newer = []; older = Calls other ∷ t; parts = refl; calls_are = is; short = inr (other, Calls other, t, refl, refl) }
cut_at (Calls other ∷ t) (c ∷ later) call prefix is = one_more (Calls other) t (call ∷ prefix) (cut_at t later call prefix cc)
cut_at (Fails w other true ∷ t) [] call prefix is = record { newer = []; older = Fails w other true ∷ t; parts = refl; calls_are = is; short = inr (other, Fails w other true, t, refl, refl) }
cut_at (Fails w other true ∷ t) (c ∷ later) call prefix is = one_more (Fails w other true) t (call ∷ prefix) (cut_at t later call prefix cc)
cut_at (Harms w x bytes fault ∷ t) [] call prefix is = record { newer = []; older = Harms w x bytes fault ∷ t; parts = refl; calls_are = is; short = inr (Read x bytes true, Harms w x bytes fault, t, refl, refl) }
cut_at (Harms w x bytes fault ∷ t) (c ∷ later) call prefix is = one_more (Harms w x bytes fault) t (call ∷ prefix) (cut_at t later call prefix cc)
cut_at (other ∷ t) later call prefix is = one_more (other) t (call ∷ prefix) (cut_at t later call prefix is)

-- Each prefix of the calls is that of a cut.
pub cut : (t : Trace) (later prefix : List Call) → calls t ≡ later ++ prefix → Cut t prefix
cut t later [] is = record { newer = t; older = []; parts = sym (append-nil t); calls_are = refl; short = inl refl }
cut t later (call ∷ prefix) is = cut_at t later call prefix is

-- The length of the log at a mark's call.
pub mark_length : (t : Trace) (f : FlushMark) (has : HasMark t f) → length_at (calls t) f.calls ≡ suc (length (calls has.older))
mark_length t f has =
    let few : f.calls ≤ successes (calls has.older) + 1 = let count = has.count in omega (arith, count) in
    ap (λ (u : Trace). length_at (calls u) f.calls) has.parts
    ∙ ap (λ (log : List Call). length_at log f.calls) (calls_append has.later (Calls (Flush true) ∷ has.older))
    ∙ length_at_later (calls has.later) (Flush true ∷ calls has.older) f.calls few
    ∙ length_at_next (Flush true) (calls has.older) f.calls has.count

calls_size : (newer older : Trace) → length (calls (newer ++ older)) ≡ length (calls newer) + length (calls older)
calls_size newer older = ap length (calls_append newer older) ∙ length-append (calls newer) (calls older)

-- A mark's call by then is in the cut.
pub call_in_cut : (t : Trace) (prefix : List Call) (f : FlushMark) (c : Cut t prefix) (has : HasMark t f) → length_at (calls t) f.calls ≤ length prefix
    → (m : Trace) × (c.older ≡ m ++ (Calls (Flush true) ∷ has.older))
call_in_cut t prefix f c has by_then = elim (one_is_part c.newer has.later c.older (Calls (Flush true) ∷ has.older) (sym c.parts ∙ has.parts)) [
  | inl inside ↦ inside
  | inr outside ↦
      let older_is : has.older ≡ outside.1 ++ c.older = let is = outside.2 in cc in
      let size = ap (λ (u : Trace). length (calls u)) older_is ∙ calls_size outside.1 c.older in
      let place = mark_length t f has in
      let all = ap length c.calls_are in absurd (omega (arith, size, place, all, by_then))
]

-- And a mark's call then or later has the cut before it, where there is one.
pub cut_before_call : (t : Trace) (prefix : List Call) (f : FlushMark) (c : Cut t prefix) (has : HasMark t f) → length prefix ≤ length_at (calls t) f.calls
    → (c.older ≡ []) ⊎ ((m : Trace) × (Calls (Flush true) ∷ has.older ≡ m ++ c.older))
cut_before_call t prefix f c has since = elim c.short [
  | inl none ↦ inl none
  | inr some ↦ elim (one_is_part has.later c.newer (Calls (Flush true) ∷ has.older) c.older (sym has.parts ∙ c.parts)) [
    | inl inside ↦ inr inside
    | inr outside ↦
        let rest_is : some.2 ≡ outside.1 ++ (Calls (Flush true) ∷ has.older) = let is = outside.2 in let top = some.3 in cc in
        let size = ap (λ (u : Trace). length (calls u)) rest_is ∙ calls_size outside.1 (Calls (Flush true) ∷ has.older) in
        let whole = ap (λ (cs : List Call). length cs) some.4 in
        let place = mark_length t f has in
        let all = ap length c.calls_are in absurd (omega (arith, size, whole, place, all, since))
  ]
]
