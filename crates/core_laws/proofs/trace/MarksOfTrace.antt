-- The flush marks of a right trace are right, and each has its call in it.
use Rattle.std.proofs.Common.{◌≡◌, true, List, [], ◌∷◌, Some, IsSome, IsNone, refl, sym, subst, inl, inr, ◌+◌, ◌<◌, false, ◌++◌, ap}
use Rattle.core_laws.proofs.Common.{AllByRecursion, Call, Calls, Fails, Flushes, FlushMark, Happening, HasCause, IsSession, MayFollow, RightTrace, Says, Session, Trace, Writer, answer_of, begun, calls, each_both, every-map, is_ok, is_read, lines, marks, moments, none_is, not_both, option_cases, request_at, same_self, same_Some, same_tells, some_is, Harms}
use Rattle.vdo_model.specs.FlushMarks.{Moment, Desk, Device, IsMark, mark_of_flush, AreApart, AreFlushMarks, successes, lines_of, calls_of}
use Rattle.vdo_model.specs.declared.report.DeskLine.TheVariants.{Begin, Answer}
use Rattle.core_laws.proofs.trace.Growth.{answer_stays}
use Rattle.core_laws.proofs.kept.Spared.{mark_later}
use Rattle.blk_base.specs.declared.request.Answer.TheVariants.{Ok}
use Rattle.disk_model.specs.declared.call.Call.TheVariants.{Flush, Read}
use Rattle.blk_base.specs.declared.request.Answer.TheVariants as reply
use Rattle.blk_base.specs.declared.request.Request.TheVariants as request

-- The flush marks of a right trace are right.

-- marks stay when a moment more has passed
each_later : (m : Moment) (ms : List Moment) (marks : List FlushMark) → AllByRecursion (IsMark ms) marks → AllByRecursion (IsMark (m ∷ ms)) marks
each_later m ms marks each = every-map {P = IsMark ms} {Q = IsMark (m ∷ ms)} (mark_later m ms) marks each

each_mark : (s : Session) (t : Trace) → RightTrace s t → AllByRecursion (IsMark (moments t)) (marks t)
each_mark s [] right = tt
each_mark s (Says line ∷ t) right = each_later (Desk line) (moments t) (marks t) (each_mark s t right.2)
each_mark s (Flushes mark ∷ t) right = (
  mark_later (Desk (Answer mark.request reply.Ok)) (moments t) mark right.0.2,
  each_later (Desk (Answer mark.request reply.Ok)) (moments t) (marks t) (each_mark s t right.2),
)
each_mark s (Calls call ∷ t) right = each_later (Device call) (moments t) (marks t) (each_mark s t right.2)
each_mark s (Fails w call true ∷ t) right = each_later (Device call) (moments t) (marks t) (each_mark s t right.2)
each_mark s (Harms w x bytes fault ∷ t) right = each_later (Device (Read x bytes true)) (moments t) (marks t) (each_mark s t right.2)
each_mark s (other ∷ t) right = each_mark s t right.2

-- a mark is of a flush that was answered Ok
abbrev pub IsOfFlush : Session → Trace → FlushMark → Type 0
IsOfFlush s t mark = (request_at s.script mark.request ≡ Some request.Flush) × (answer_of (lines t) mark.request ≡ Some reply.Ok)

flush_stays : (s : Session) (h : Happening) (t : Trace) → MayFollow s h t → AllByRecursion (IsOfFlush s t) (marks t) → AllByRecursion (IsOfFlush s (h ∷ t)) (marks t)
flush_stays s h t may each = every-map {P = IsOfFlush s t} {Q = IsOfFlush s (h ∷ t)} (λ mark is. (is.0, answer_stays s h t mark.request reply.Ok may is.1)) (marks t) each

-- each mark is of a flush that was answered Ok
pub only_flushes : (s : Session) (t : Trace) → RightTrace s t → AllByRecursion (IsOfFlush s t) (marks t)
only_flushes s [] right = tt
only_flushes s (Says line ∷ t) right = flush_stays s (Says line) t right.0 (only_flushes s t right.2)
only_flushes s (Flushes mark ∷ t) right = (
  (right.0.1, rw (same_self mark.request) refl),
  flush_stays s (Flushes mark) t right.0 (only_flushes s t right.2),
)
only_flushes s (Fails w call true ∷ t) right = only_flushes s t right.2
only_flushes s (other ∷ t) right = only_flushes s t right.2

-- what holds of all marks holds of a request's
pub mark_has : (P : FlushMark → Type 0) (ms : List FlushMark) (w : Writer) (mark : FlushMark) → mark_of_flush ms w ≡ Some mark → AllByRecursion P ms → P mark × (mark.request ≡ w)
mark_has P [] w mark is all = absurd cc
mark_has P (f ∷ ms) w mark is all = elim (same_tells f.request w) [
  | inl same ↦
      let here : Some f ≡ Some mark = rw same.0 at is in
      let f_is = same_Some f mark here in
      (subst P f_is all.0, subst (λ (x : FlushMark). x.request ≡ w) f_is same.1)
  | inr other ↦ mark_has P ms w mark (rw other.0 at is) all.1
]

-- a request that isn't answered has no mark
no_mark : (s : Session) (t : Trace) (w : Writer) → RightTrace s t → IsNone (answer_of (lines t) w) → IsNone (mark_of_flush (marks t) w)
no_mark s t w right unanswered = elim (option_cases (mark_of_flush (marks t) w)) [
  | inl none ↦ none_is _ none
  | inr some ↦
      let has = mark_has (IsOfFlush s t) (marks t) w some.0 some.1 (only_flushes s t right) in
      absurd (not_both (answer_of (lines t) w) reply.Ok unanswered (subst (λ (x : Writer). answer_of (lines t) x ≡ Some reply.Ok) has.1 has.0.1))
]

marks_apart : (s : Session) (t : Trace) → RightTrace s t → AreApart (marks t)
marks_apart s [] right = tt
marks_apart s (Flushes mark ∷ t) right = (no_mark s t mark.request right.2 right.0.0.1, marks_apart s t right.2)
marks_apart s (other ∷ t) right = marks_apart s t right.2

-- each flush that was answered Ok has a mark
all_marked : (s : Session) (t : Trace) (w : Writer) → RightTrace s t → request_at s.script w ≡ Some request.Flush → answer_of (lines t) w ≡ Some reply.Ok → IsSome (mark_of_flush (marks t) w)
all_marked s [] w right asked is = absurd cc
all_marked s (Says (Begin v) ∷ t) w right asked is = all_marked s t w right.2 asked is
all_marked s (Says (Answer v b) ∷ t) w right asked is = elim (same_tells v w) [
  | inl same ↦
      let cause = right.0.1 request.Flush (subst (λ (x : Writer). request_at s.script x ≡ Some request.Flush) (sym same.1) asked) in
      let here : Some b ≡ Some reply.Ok = rw same.0 at is in
      absurd (subst (λ a. HasCause s t v request.Flush a) (same_Some b reply.Ok here) cause)
  | inr other ↦ all_marked s t w right.2 asked (rw other.0 at is)
]
all_marked s (Flushes mark ∷ t) w right asked is = elim (same_tells mark.request w) [
  | inl same ↦ rw same.0 refl
  | inr other ↦ rw other.0 (all_marked s t w right.2 asked (rw other.0 at is))
]
all_marked s (Fails v c true ∷ t) w right asked is = all_marked s t w right.2 asked is
all_marked s (other ∷ t) w right asked is = all_marked s t w right.2 asked is

-- the marks are those of the flushes that were answered Ok
pub marks_right : (s : Session) (t : Trace) → IsSession s → RightTrace s t → AreFlushMarks s.script (moments t) (marks t)
marks_right s t is right = record {
  each = each_mark s t right;
  apart = marks_apart s t right;
  all = λ w asked answered. all_marked s t w right asked answered;
  only = only_flushes s t right;
}

-- Each mark of a right trace has its call: a flush of the device that succeeded in it.

-- where a trace has one of its calls
pub record HasCall (t : Trace) (call : Call) (ms : List Moment) : Type 0 where
  pub later : Trace
  pub older : Trace
  pub parts : t ≡ later ++ (Calls call ∷ older)
  pub moments_are : moments older ≡ ms

one_more : (h : Happening) (t : Trace) (call : Call) (ms : List Moment) → HasCall t call ms → HasCall (h ∷ t) call ms
one_more h t call ms has = record { later = h ∷ has.later; older = has.older; parts = ap (λ (u : Trace). h ∷ u) has.parts; moments_are = has.moments_are }

-- A call that succeeded, among the moments of a right trace, is one of the trace.
pub call_there : (s : Session) (t : Trace) (newer : List Moment) (call : Call) (older : List Moment) → RightTrace s t → is_ok call ≡ true → is_read call ≡ false → moments t ≡ newer ++ (Device call ∷ older) → HasCall t call older
call_there s [] [] call older right ok writes is = absurd cc
call_there s [] (m ∷ newer) call older right ok writes is = absurd cc
call_there s (Says line ∷ t) [] call older right ok writes is = absurd cc
call_there s (Says line ∷ t) (m ∷ newer) call older right ok writes is = one_more (Says line) t call older (call_there s t newer call older right.2 ok writes cc)
call_there s (Flushes mark ∷ t) [] call older right ok writes is = absurd cc
call_there s (Flushes mark ∷ t) (m ∷ newer) call older right ok writes is = one_more (Flushes mark) t call older (call_there s t newer call older right.2 ok writes cc)
call_there s (Calls other ∷ t) [] call older right ok writes is =
    let same : other ≡ call = cc in record { later = []; older = t; parts = ap (λ (c : Call). Calls c ∷ t) same; moments_are = cc }
call_there s (Calls other ∷ t) (m ∷ newer) call older right ok writes is = one_more (Calls other) t call older (call_there s t newer call older right.2 ok writes cc)
call_there s (Fails w other true ∷ t) [] call older right ok writes is =
    let failed : is_ok other ≡ false = right.0.fails in let same : other ≡ call = cc in let both = ap is_ok same in absurd cc
call_there s (Fails w other true ∷ t) (m ∷ newer) call older right ok writes is = one_more (Fails w other true) t call older (call_there s t newer call older right.2 ok writes cc)
call_there s (Harms w x bytes fault ∷ t) [] call older right ok writes is = let same : Read x bytes true ≡ call = cc in let both = ap is_read same in absurd cc
call_there s (Harms w x bytes fault ∷ t) (m ∷ newer) call older right ok writes is = one_more (Harms w x bytes fault) t call older (call_there s t newer call older right.2 ok writes cc)
call_there s (other ∷ t) newer call older right ok writes is = one_more (other) t call older (call_there s t newer call older right.2 ok writes is)

-- the call of a mark: it was begun by then and not answered, and has its answer
pub record HasMark (t : Trace) (f : FlushMark) : Type 0 where
  pub later : Trace
  pub older : Trace
  pub parts : t ≡ later ++ (Calls (Flush true) ∷ older)
  pub count : f.calls ≡ successes (calls older) + 1
  pub begun_by_then : f.request.number < begun f.request.stream (lines older)
  pub not_answered : IsNone (answer_of (lines older) f.request)
  pub answers : IsSome (answer_of (lines t) f.request)

has_mark : (s : Session) (t : Trace) (f : FlushMark) → RightTrace s t → IsMark (moments t) f → answer_of (lines t) f.request ≡ Some Ok → HasMark t f
has_mark s t f right is answer =
    let has = call_there s t is.later (Flush true) is.older right refl refl is.at in record {
      later = has.later;
      older = has.older;
      parts = has.parts;
      count = subst (λ (ms : List Moment). f.calls ≡ successes (calls_of ms) + 1) (sym has.moments_are) is.calls;
      begun_by_then = subst (λ (ms : List Moment). f.request.number < begun f.request.stream (lines_of ms)) (sym has.moments_are) is.begun_by_then;
      not_answered = subst (λ (ms : List Moment). IsNone (answer_of (lines_of ms) f.request)) (sym has.moments_are) is.not_answered;
      answers = some_is (answer_of (lines t) f.request) Ok answer;
    }

-- Each mark of a right trace has its call.
pub all_marks : (s : Session) (t : Trace) → IsSession s → RightTrace s t → AllByRecursion (HasMark t) (marks t)
all_marks s t session right =
    let are = marks_right s t session right in
    every-map {P = λ (f : FlushMark). IsMark (moments t) f × IsOfFlush s t f} {Q = HasMark t} (λ f is. has_mark s t f right is.0 is.1.1) (marks t) (each_both (IsMark (moments t)) (IsOfFlush s t) (marks t) are.each are.only)
