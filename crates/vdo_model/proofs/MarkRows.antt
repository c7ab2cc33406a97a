-- Flush marks: for each clause a mark or marks that it accepts, and one that it refuses.
use Rattle.std.proofs.Common.{◌≡◌, ◌+◌, ◌<◌, ◌++◌, true, false, List, [], ◌∷◌, Some, None, IsSome, IsNone, refl, arith}
use Rattle.std.specs.List.{AllByRecursion}
use Rattle.blk_base.specs.declared.request.Answer.{Answer as Reply}
use Rattle.blk_base.specs.declared.request.Answer.TheVariants as reply
use Rattle.blk_base.specs.declared.request.Request.TheVariants as request
use Rattle.blk_base.specs.declared.request.Writer.{Writer}
use Rattle.blk_base.specs.Sectors.{filled_block as block}
use Rattle.disk_model.specs.declared.call.Call.TheVariants.{Read, Write, Flush}
use Rattle.vdo_model.specs.declared.report.DeskLine.TheVariants.{Begin, Answer}
use Rattle.vdo_model.specs.declared.report.FlushMark.{FlushMark}
use Rattle.vdo_model.specs.Scripts.{request_at}
use Rattle.vdo_model.specs.DeskLog.{begun, answer_of}
use Rattle.vdo_model.specs.FlushMarks.{successes, Moment, Desk, Device, lines_of, calls_of, IsMark, mark_of_flush, AreApart, AreFlushMarks}
use Rattle.vdo_model.proofs.Example.{of_a, of_b, script, desk, writes, before_flush, first_moments, later_moments, moments, calls, mark_a, mark_b, marks, each_request, mark}

-- successes: each call that succeeded, and none that failed
all_succeed : successes calls ≡ 5
all_succeed = refl

read_succeeds : successes (Read (record { 0 = 0 }) (block 1) true ∷ []) ≡ 1
read_succeeds = refl

read_fails : successes (Read (record { 0 = 0 }) (block 1) false ∷ Flush true ∷ []) ≡ 1
read_fails = refl

write_fails : successes (Write (record { 0 = 0 }) (block 1) false ∷ Flush true ∷ []) ≡ 1
write_fails = refl

flush_fails : successes (Flush false ∷ Flush true ∷ []) ≡ 1
flush_fails = refl

-- lines_of, calls_of: what happened on the desk, and what on the device
lines_are : lines_of moments ≡ desk
lines_are = refl

calls_are : calls_of moments ≡ calls
calls_are = refl

-- A mark: the flush of a has the device's flush that came last.
flush_is_mark : IsMark first_moments mark_a
flush_is_mark = record { later = []; older = before_flush; at = refl; calls = refl; begun_by_then = omega arith; not_answered = refl }

-- where the newest moment isn't the mark, an older one is
not_this : (moment : Moment) (older : List Moment) (mark : FlushMark)
    → (moment ≡ Device (Flush true) → mark.calls ≡ successes (calls_of older) + 1 → mark.request.number < begun mark.request.stream (lines_of older)
    → IsNone (answer_of (lines_of older) mark.request) → ⊥)
    → IsMark (moment ∷ older) mark → IsMark older mark
not_this moment older mark other is = walk is.later is.older is.at is.calls is.begun_by_then is.not_answered
  where
    walk : (later rest : List Moment) → moment ∷ older ≡ later ++ (Device (Flush true) ∷ rest)
        → mark.calls ≡ successes (calls_of rest) + 1 → mark.request.number < begun mark.request.stream (lines_of rest)
        → IsNone (answer_of (lines_of rest) mark.request) → IsMark older mark
    walk [] rest at counted by_then none =
        let older_is : older ≡ rest = cc in
        let flush : moment ≡ Device (Flush true) = cc in
        absurd (other flush (rw older_is counted) (rw older_is by_then) (rw older_is none))
    walk (first ∷ later) rest at counted by_then none =
        record { later = later; older = rest; at = cc; calls = counted; begun_by_then = by_then; not_answered = none }

-- and before all moments there is none
not_in_none : (mark : FlushMark) → IsMark [] mark → ⊥
not_in_none mark is = walk is.later is.at
  where
    walk : (later : List Moment) → ◌≡◌ {A = List Moment} [] (later ++ (Device (Flush true) ∷ is.older)) → ⊥
    walk [] at = absurd cc
    walk (first ∷ later) at = absurd cc

-- before the flush of the device there is no other one
none_before : (mark : FlushMark) → IsMark before_flush mark → ⊥
none_before mark is =
    not_in_none mark
    (not_this _ _ mark (λ flush counted by_then none. absurd cc)
    (not_this _ _ mark (λ flush counted by_then none. absurd cc)
    (not_this _ _ mark (λ flush counted by_then none. absurd cc) (not_this _ _ mark (λ flush counted by_then none. absurd cc) is))))

-- at: not a flush of the device that failed, nor a write
failed_flush : IsMark (Device (Flush false) ∷ before_flush) mark_a → ⊥
failed_flush is = none_before mark_a (not_this _ _ mark_a (λ flush counted by_then none. absurd cc) is)

write_of_device : IsMark (Device (writes 1 (block 3)) ∷ before_flush) mark_a → ⊥
write_of_device is = none_before mark_a (not_this _ _ mark_a (λ flush counted by_then none. absurd cc) is)

at_alone : (2 ≡ successes (calls_of before_flush) + 1) × (1 < begun 0 (lines_of before_flush)) × IsNone (answer_of (lines_of before_flush) (of_a 1))
at_alone = (refl, omega arith, refl)

-- calls: the flush itself counts, and nothing later
one_too_few : IsMark first_moments (mark 1) → ⊥
one_too_few is = none_before _ (not_this _ _ (mark 1) (λ flush counted by_then none. omega (arith, counted)) is)

one_too_many : IsMark (Device (writes 1 (block 3)) ∷ first_moments) (mark 3) → ⊥
one_too_many is =
    none_before _ (not_this _ _ (mark 3) (λ flush counted by_then none. omega (arith, counted))
    (not_this _ _ (mark 3) (λ flush counted by_then none. absurd cc) is))

calls_alone : (first_moments ≡ [] ++ (Device (Flush true) ∷ before_flush)) × (1 < begun 0 (lines_of before_flush)) × IsNone (answer_of (lines_of before_flush) (of_a 1))
calls_alone = (refl, omega arith, refl)

-- begun by then: the device's flush came before the request was begun
abbrev not_yet_begun : List Moment
not_yet_begun = Desk (Answer (of_a 0) reply.Ok) ∷ Device (writes 0 (block 1)) ∷ Desk (Begin (of_a 0)) ∷ []

begun_too_late : IsMark (Desk (Begin (of_a 1)) ∷ Device (Flush true) ∷ not_yet_begun) mark_a → ⊥
begun_too_late is =
    not_in_none mark_a
    (not_this _ _ mark_a (λ flush counted by_then none. absurd cc)
    (not_this _ _ mark_a (λ flush counted by_then none. absurd cc)
    (not_this _ _ mark_a (λ flush counted by_then none. absurd cc)
    (not_this _ _ mark_a (λ flush counted by_then none. omega (arith, by_then)) (not_this _ _ mark_a (λ flush counted by_then none. absurd cc) is)))))

begun_too_late_alone : (2 ≡ successes (calls_of not_yet_begun) + 1) × IsNone (answer_of (lines_of not_yet_begun) (of_a 1))
begun_too_late_alone = (refl, refl)

-- not answered: the device's flush came after the request was answered
abbrev answered_before : List Moment
answered_before = Desk (Answer (of_a 1) reply.Ok) ∷ before_flush

answered_too_early : IsMark (Device (Flush true) ∷ answered_before) mark_a → ⊥
answered_too_early is =
    none_before mark_a (not_this _ _ mark_a (λ flush counted by_then none. absurd cc)
    (not_this _ _ mark_a (λ flush counted by_then none. absurd cc) is))

answered_too_early_alone : (2 ≡ successes (calls_of answered_before) + 1) × (1 < begun 0 (lines_of answered_before))
answered_too_early_alone = (refl, omega arith)

-- mark_of_flush: the flush's own mark
own_mark : mark_of_flush marks (of_a 1) ≡ Some mark_a
own_mark = refl

no_mark : mark_of_flush marks (of_a 0) ≡ None
no_mark = refl

-- apart: two flushes have a mark each; and one flush hasn't two, next to each other or not, the newest or not
are_apart : AreApart marks
are_apart = (refl, (refl, tt))

two_marks : AreApart (mark_a ∷ mark_b ∷ mark_a ∷ []) → ⊥
two_marks apart = absurd (let none = apart.0 in cc)

two_older_marks : AreApart (mark_b ∷ mark_a ∷ mark_a ∷ []) → ⊥
two_older_marks apart = absurd (let none = apart.1.0 in cc)

-- The marks of the run: both flushes are answered Ok, and have one mark each.
abbrev HasMark : List Moment → List FlushMark → Writer → Type 0
HasMark moments marks w = request_at script w ≡ Some request.Flush → answer_of (lines_of moments) w ≡ Some reply.Ok → IsSome (mark_of_flush marks w)

all_have : (moments : List Moment) (marks : List FlushMark) → HasMark moments marks (of_a 1) → HasMark moments marks (of_b 2) → (w : Writer) → HasMark moments marks w
all_have moments marks a b w is =
    each_request (HasMark moments marks) (λ is ok. absurd cc) a (λ is ok. absurd cc) (λ is ok. absurd cc) (λ is ok. absurd cc) b w (rw is refl) is

pub run_has_marks : AreFlushMarks script moments marks
run_has_marks = record {
  each = (mark_of_b, (mark_of_a, tt));
  apart = are_apart;
  all = all_have moments marks (λ is ok. refl) (λ is ok. refl);
  only = ((refl, refl), ((refl, refl), tt));
}
  where
    mark_of_b : IsMark moments mark_b
    mark_of_b = record { later = Desk (Answer (of_b 2) reply.Ok) ∷ []; older = later_moments ++ first_moments; at = refl; calls = refl; begun_by_then = omega arith; not_answered = refl }

    mark_of_a : IsMark moments mark_a
    mark_of_a = record {
      later = Desk (Answer (of_b 2) reply.Ok) ∷ Device (Flush true) ∷ later_moments;
      older = before_flush;
      at = refl;
      calls = refl;
      begun_by_then = omega arith;
      not_answered = refl;
    }

-- The marks of a alone, with this answer of its flush.
abbrev answered : Reply → List Moment
answered answer = Desk (Answer (of_a 1) answer) ∷ first_moments

mark_stays : (answer : Reply) → IsMark (answered answer) mark_a
mark_stays answer = record { later = Desk (Answer (of_a 1) answer) ∷ []; older = before_flush; at = refl; calls = refl; begun_by_then = omega arith; not_answered = refl }

abbrev IsOnly : List Moment → List FlushMark → Type 0
IsOnly moments marks = AllByRecursion (λ mark. (request_at script mark.request ≡ Some request.Flush) × (answer_of (lines_of moments) mark.request ≡ Some reply.Ok)) marks

a_has_mark : AreFlushMarks script (answered reply.Ok) (mark_a ∷ [])
a_has_mark = record {
  each = (mark_stays reply.Ok, tt);
  apart = (refl, tt);
  all = all_have (answered reply.Ok) (mark_a ∷ []) (λ is ok. refl) (λ is ok. absurd cc);
  only = ((refl, refl), tt);
}

-- each: a mark that counts a call too few
wrong_mark : AreFlushMarks script (answered reply.Ok) (mark 1 ∷ []) → ⊥
wrong_mark are = one_too_few (not_this _ _ (mark 1) (λ flush counted by_then none. absurd cc) are.each.0)

wrong_mark_alone : AreApart (mark 1 ∷ []) × ((w : Writer) → HasMark (answered reply.Ok) (mark 1 ∷ []) w) × IsOnly (answered reply.Ok) (mark 1 ∷ [])
wrong_mark_alone = ((refl, tt), all_have (answered reply.Ok) (mark 1 ∷ []) (λ is ok. refl) (λ is ok. absurd cc), ((refl, refl), tt))

-- each, all of them: beside a right mark one of the flush of b, which hadn't begun when the device flushed
abbrev mark_too_early : FlushMark
mark_too_early = record { request = of_b 2; calls = 2 }

abbrev both_answered : List Moment
both_answered = Desk (Answer (of_b 2) reply.Ok) ∷ answered reply.Ok

not_begun : IsMark both_answered mark_too_early → ⊥
not_begun is =
    none_before _
    (not_this _ _ mark_too_early (λ flush counted by_then none. omega (arith, by_then))
    (not_this _ _ mark_too_early (λ flush counted by_then none. absurd cc) (not_this _ _ mark_too_early (λ flush counted by_then none. absurd cc) is)))

older_mark_wrong : AreFlushMarks script both_answered (mark_a ∷ mark_too_early ∷ []) → ⊥
older_mark_wrong are = not_begun are.each.1.0

newest_mark_wrong : AreFlushMarks script both_answered (mark_too_early ∷ mark_a ∷ []) → ⊥
newest_mark_wrong are = not_begun are.each.0

older_mark_wrong_alone : AreApart (mark_a ∷ mark_too_early ∷ []) × ((w : Writer) → HasMark both_answered (mark_a ∷ mark_too_early ∷ []) w) × IsOnly both_answered (mark_a ∷ mark_too_early ∷ [])
older_mark_wrong_alone = ((refl, (refl, tt)), all_have both_answered (mark_a ∷ mark_too_early ∷ []) (λ is ok. refl) (λ is ok. refl), ((refl, refl), ((refl, refl), tt)))

-- apart: the same mark twice
mark_twice : AreFlushMarks script (answered reply.Ok) (mark_a ∷ mark_a ∷ []) → ⊥
mark_twice are = absurd (let none = are.apart.0 in cc)

mark_twice_alone : AllByRecursion (IsMark (answered reply.Ok)) (mark_a ∷ mark_a ∷ []) × ((w : Writer) → HasMark (answered reply.Ok) (mark_a ∷ mark_a ∷ []) w) × IsOnly (answered reply.Ok) (mark_a ∷ mark_a ∷ [])
mark_twice_alone = (
  (mark_stays reply.Ok, (mark_stays reply.Ok, tt)),
  all_have (answered reply.Ok) (mark_a ∷ mark_a ∷ []) (λ is ok. refl) (λ is ok. absurd cc),
  ((refl, refl), ((refl, refl), tt)),
)

-- all: a flush that was stopped needs no mark, and one that was answered Ok does
stopped_without_mark : AreFlushMarks script (answered reply.Stopped) []
stopped_without_mark = record { each = tt; apart = tt; all = all_have (answered reply.Stopped) [] (λ is ok. absurd cc) (λ is ok. absurd cc); only = tt }

ok_without_mark : AreFlushMarks script (answered reply.Ok) [] → ⊥
ok_without_mark are = absurd (let has = are.all (of_a 1) refl refl in cc)

ok_without_mark_alone : AllByRecursion (IsMark (answered reply.Ok)) [] × AreApart [] × IsOnly (answered reply.Ok) []
ok_without_mark_alone = (tt, tt, tt)

-- only, its answer: a flush that was stopped, or has no answer yet, has no mark
stopped_with_mark : AreFlushMarks script (answered reply.Stopped) (mark_a ∷ []) → ⊥
stopped_with_mark are = absurd (let ok = are.only.0.1 in cc)

stopped_with_mark_alone : IsMark (answered reply.Stopped) mark_a × AreApart (mark_a ∷ []) × ((w : Writer) → HasMark (answered reply.Stopped) (mark_a ∷ []) w) × (request_at script (of_a 1) ≡ Some request.Flush)
stopped_with_mark_alone = (mark_stays reply.Stopped, (refl, tt), all_have (answered reply.Stopped) (mark_a ∷ []) (λ is ok. absurd cc) (λ is ok. absurd cc), refl)

unanswered_with_mark : AreFlushMarks script first_moments (mark_a ∷ []) → ⊥
unanswered_with_mark are = absurd (let ok = are.only.0.1 in cc)

-- only, its request: a write that was answered Ok behind a flush of the device has no mark
abbrev written : List Moment
written = Desk (Answer (of_a 0) reply.Ok) ∷ Device (Flush true) ∷ Device (writes 0 (block 1)) ∷ Desk (Begin (of_a 0)) ∷ []

abbrev mark_of_write : FlushMark
mark_of_write = record { request = of_a 0; calls = 2 }

write_with_mark : AreFlushMarks script written (mark_of_write ∷ []) → ⊥
write_with_mark are = absurd (let is = are.only.0.0 in cc)

write_with_mark_alone : IsMark written mark_of_write × AreApart (mark_of_write ∷ []) × ((w : Writer) → HasMark written (mark_of_write ∷ []) w) × (answer_of (lines_of written) (of_a 0) ≡ Some reply.Ok)
write_with_mark_alone = (
  record { later = Desk (Answer (of_a 0) reply.Ok) ∷ []; older = Device (writes 0 (block 1)) ∷ Desk (Begin (of_a 0)) ∷ []; at = refl; calls = refl; begun_by_then = omega arith; not_answered = refl },
  (refl, tt),
  all_have written (mark_of_write ∷ []) (λ is ok. absurd cc) (λ is ok. absurd cc),
  refl,
)

-- only, all of them: behind the mark of a one of the write
older_mark_of_write : AreFlushMarks script (answered reply.Ok) (mark_a ∷ mark_of_write ∷ []) → ⊥
older_mark_of_write are = absurd (let is = are.only.1.0.0 in cc)

newest_mark_of_write : AreFlushMarks script (answered reply.Ok) (mark_of_write ∷ mark_a ∷ []) → ⊥
newest_mark_of_write are = absurd (let is = are.only.0.0 in cc)
