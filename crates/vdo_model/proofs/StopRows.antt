-- What a stop may show: for each clause a value that an address may have, and one that it may not.
use Rattle.std.proofs.Common.{ℕ, ◌≡◌, ◌⊎◌, ◌≤◌, ◌++◌, true, false, zero, suc, List, [], ◌∷◌, length, Some, None, refl, sym, ap, inl, inr, arith, if◌then◌else◌, ◌==◌}
use Rattle.std.specs.List.{AllByRecursion}
use Rattle.blk_base.specs.declared.request.Answer.TheVariants as reply
use Rattle.blk_base.specs.Sectors.{filled_block as block}
use Rattle.disk_model.specs.declared.call.Call.{Call}
use Rattle.disk_model.specs.declared.call.Call.TheVariants.{Flush}
use Rattle.vdo_model.specs.declared.report.DeskLine.{DeskLine}
use Rattle.vdo_model.specs.declared.report.DeskLine.TheVariants.{Begin, Answer}
use Rattle.vdo_model.specs.declared.report.FlushMark.{FlushMark}
use Rattle.vdo_model.specs.declared.report.HistoryEntry.{HistoryEntry}
use Rattle.vdo_model.specs.declared.report.Mark.{Mark}
use Rattle.vdo_model.specs.declared.report.Mark.TheVariants.{Settled, Unsettled, Refused}
use Rattle.vdo_model.specs.declared.report.RunReport.{RunReport}
use Rattle.vdo_model.specs.Histories.{history_of}
use Rattle.vdo_model.specs.Stops.{length_at, is_answered, is_covered, covered, before_answer, MayLast, last_value, IsBegunBefore, MayShow, ShowsRight}
use Rattle.vdo_model.proofs.Example.{of_a, of_b, blocks_tell, script, first_lines, desk, places, entry, histories, calls, mark_a, mark_b, marks, openings}

-- length_at: the flush of a is the second call of the device, that of b the fifth
first_flush : length_at calls 2 ≡ 2
first_flush = refl

second_flush : length_at calls 5 ≡ 5
second_flush = refl

no_call_yet : length_at calls 0 ≡ 0
no_call_yet = refl

-- length_at: a call that failed doesn't count, and lengthens the log
failed_call : length_at (Flush false ∷ Flush true ∷ Flush false ∷ []) 1 ≡ 2
failed_call = refl

-- is_answered: any answer
any_answer : is_answered (Some reply.Stopped) ≡ true
any_answer = refl

no_answer : is_answered None ≡ false
no_answer = refl

-- is_covered: a settled entry that was answered before the flush was begun
settled_before : is_covered desk mark_a (entry 1 (of_a 0) Settled) ≡ true
settled_before = refl

unsettled_before : is_covered desk mark_a (entry 1 (of_a 0) Unsettled) ≡ false
unsettled_before = refl

refused_before : is_covered desk mark_a (entry 1 (of_a 0) Refused) ≡ false
refused_before = refl

-- is_covered: not one that is answered later, though its request was begun before the flush was answered
begun_under_flush : is_covered desk mark_a (entry 812 (of_b 0) Settled) ≡ false
begun_under_flush = refl

-- is_covered: nor one that is answered while the flush is under way
abbrev under_flush : List DeskLine
under_flush = Answer (of_a 1) reply.Ok ∷ Answer (of_b 0) reply.Ok ∷ Begin (of_a 1) ∷ Begin (of_b 0) ∷ []

answered_under_flush : is_covered under_flush mark_a (entry 812 (of_b 0) Settled) ≡ false
answered_under_flush = refl

-- is_covered: nor one that is begun behind the flush
begun_behind_flush : is_covered desk mark_a (entry 1 (of_a 2) Settled) ≡ false
begun_behind_flush = refl

-- covered: the history from its last covered entry back; of address 812 the flush of a covers the opening value
from_second_write : covered desk mark_b (history_of histories 1) ≡ entry 1 (of_a 2) Settled ∷ entry 1 (of_a 0) Settled ∷ []
from_second_write = refl

from_first_write : covered desk mark_a (history_of histories 1) ≡ entry 1 (of_a 0) Settled ∷ []
from_first_write = refl

opening_covered : covered desk mark_a (history_of histories 812) ≡ []
opening_covered = refl

-- before_answer: the lines before the request's own answer
before_flush_ended : before_answer desk (of_a 1) ≡ Begin (of_b 0) ∷ Begin (of_a 1) ∷ Answer (of_a 0) reply.Ok ∷ Begin (of_a 0) ∷ []
before_flush_ended = refl

never_answered : before_answer first_lines (of_b 0) ≡ []
never_answered = refl

-- MayLast: a settled and an unsettled entry, and the opening value; not a refused one
settled_lasts : MayLast (entry 1 (of_a 0) Settled ∷ [])
settled_lasts = tt

unsettled_lasts : MayLast (entry 1 (of_a 0) Unsettled ∷ [])
unsettled_lasts = tt

opening_lasts : MayLast []
opening_lasts = tt

refused_lasts : MayLast (entry 1 (of_a 0) Refused ∷ entry 1 (of_a 0) Settled ∷ []) → ⊥
refused_lasts lasts = lasts

-- last_value: what the last entry's request wrote, or the opening value
last_written : last_value script (block 0) (history_of histories 1) ≡ block 2
last_written = refl

nothing_written : last_value script (block 0) [] ≡ block 0
nothing_written = refl

-- IsBegunBefore: the write of b was begun before the flush of a was answered, and the second write of a wasn't
begun_in_time : IsBegunBefore desk mark_a (entry 812 (of_b 0) Settled ∷ [])
begun_in_time = omega arith

opening_in_time : IsBegunBefore desk mark_a []
opening_in_time = tt

begun_later : IsBegunBefore desk mark_a (entry 1 (of_a 2) Settled ∷ entry 1 (of_a 0) Settled ∷ []) → ⊥
begun_later by_then = omega (arith, by_then)

-- What address 1 may show. Its opening value is block 0; a writes block 1 before its flush, and block 2, with this mark, behind
-- it. The mark of a is at length 2, that of b at length 5. Where the second write is settled, the rows say:
--
--   length     1     2     3     4     5
--   block 0    may   no    no    no    no
--   block 1    may   may   may   may   no
--   block 2    no    no    may   may   may

abbrev history : Mark → List HistoryEntry
history mark = entry 1 (of_a 2) mark ∷ entry 1 (of_a 0) Settled ∷ []

-- it may show the block of this byte after a stop at this length
abbrev MayWith : List FlushMark → List Call → Mark → ℕ → ℕ → Type 0
MayWith marks calls mark size byte = MayShow script desk marks calls size (history mark) (block 0) (block byte)

abbrev May : Mark → ℕ → ℕ → Type 0
May mark size byte = MayWith marks calls mark size byte

-- the clauses flushed and begun of a part that is shown
abbrev IsFlushed : Mark → ℕ → List HistoryEntry → Type 0
IsFlushed last size shown = AllByRecursion (λ mark. length_at calls mark.calls ≤ size → length (covered desk mark (history last)) ≤ length shown) marks

abbrev IsBegun : ℕ → List HistoryEntry → Type 0
IsBegun size shown = AllByRecursion (λ mark. size ≤ length_at calls mark.calls → IsBegunBefore desk mark shown) marks

-- which part of the history is shown
which : (last : Mark) (newer shown : List HistoryEntry) → history last ≡ newer ++ shown
    → (shown ≡ history last) ⊎ ((shown ≡ entry 1 (of_a 0) Settled ∷ []) ⊎ (shown ≡ []))
which last [] shown is = inl (sym is)
which last (e ∷ []) shown is = inr (inl (let rest : entry 1 (of_a 0) Settled ∷ [] ≡ shown = cc in sym rest))
which last (e ∷ e' ∷ []) shown is = inr (inr (let rest : [] ≡ shown = cc in sym rest))
which last (e ∷ e' ∷ e'' ∷ rest) shown is = absurd cc

-- a value tells which part is shown
shows : (marks : List FlushMark) (calls : List Call) (last : Mark) (size byte : ℕ) (may : MayWith marks calls last size byte)
    → ((byte ≡ 2) × (may.shown ≡ history last)) ⊎ (((byte ≡ 1) × (may.shown ≡ entry 1 (of_a 0) Settled ∷ [])) ⊎ ((byte ≡ 0) × (may.shown ≡ [])))
shows marks calls last size byte may =
    let value = may.value_is in
    elim (which last may.newer may.shown may.part) [
      | inl whole ↦ inl (blocks_tell byte 2 (rw whole at value), whole)
      | inr (inl first) ↦ inr (inl (blocks_tell byte 1 (rw first at value), first))
      | inr (inr none) ↦ inr (inr (blocks_tell byte 0 (rw none at value), none))
    ]

-- these hold of a part at this size
shown_whole : (last : Mark) (size : ℕ) → MayLast (history last) → IsFlushed last size (history last) → IsBegun size (history last) → May last size 2
shown_whole last size lasts flushed begun = record { newer = []; shown = history last; part = refl; lasts = lasts; value_is = refl; flushed = flushed; begun = begun }

shown_first : (last : Mark) (size : ℕ) → IsFlushed last size (entry 1 (of_a 0) Settled ∷ []) → May last size 1
shown_first last size flushed = record {
  newer = entry 1 (of_a 2) last ∷ [];
  shown = entry 1 (of_a 0) Settled ∷ [];
  part = refl;
  lasts = tt;
  value_is = refl;
  flushed = flushed;
  begun = ((λ by_then. omega arith), ((λ by_then. omega arith), tt));
}

shown_opening : (last : Mark) (size : ℕ) → IsFlushed last size [] → May last size 0
shown_opening last size flushed = record {
  newer = history last;
  shown = [];
  part = refl;
  lasts = tt;
  value_is = refl;
  flushed = flushed;
  begun = ((λ by_then. tt), ((λ by_then. tt), tt));
}

-- flushed, the flush of a: the opening value before its mark, and not at it or behind it
opening_before_mark : May Settled 1 0
opening_before_mark = shown_opening Settled 1 ((λ late. absurd (omega (arith, late))), ((λ late. absurd (omega (arith, late))), tt))

opening_too_old : (size : ℕ) → 2 ≤ size → May Settled size 0 → ⊥
opening_too_old size marked may = elim (shows marks calls Settled size 0 may) [
  | inl whole ↦ let byte = whole.0 in omega (arith, byte)
  | inr (inl first) ↦ let byte = first.0 in omega (arith, byte)
  | inr (inr none) ↦
      let long : 1 ≤ length may.shown = may.flushed.1.0 marked in
      let short : length may.shown ≡ 0 = ap length none.1 in
      omega (arith, long, short)
]

opening_at_mark : May Settled 2 0 → ⊥
opening_at_mark may = opening_too_old 2 (omega arith) may

opening_behind_mark : May Settled 3 0 → ⊥
opening_behind_mark may = opening_too_old 3 (omega arith) may

opening_alone : (size : ℕ) → (history Settled ≡ history Settled ++ []) × MayLast [] × (block 0 ≡ last_value script (block 0) []) × IsBegun size []
opening_alone size = (refl, tt, refl, ((λ by_then. tt), ((λ by_then. tt), tt)))

-- flushed, the flush of b: the first write before its mark, and not at it
first_before_last_mark : May Settled 4 1
first_before_last_mark = shown_first Settled 4 ((λ late. absurd (omega (arith, late))), ((λ late. omega arith), tt))

first_at_last_mark : May Settled 5 1 → ⊥
first_at_last_mark may = elim (shows marks calls Settled 5 1 may) [
  | inl whole ↦ let byte = whole.0 in omega (arith, byte)
  | inr (inl first) ↦
      let long : 2 ≤ length may.shown = may.flushed.0 (omega arith) in
      let short : length may.shown ≡ 1 = ap length first.1 in
      omega (arith, long, short)
  | inr (inr none) ↦ let byte = none.0 in omega (arith, byte)
]

first_at_last_mark_alone : IsBegun 5 (entry 1 (of_a 0) Settled ∷ [])
first_at_last_mark_alone = ((λ by_then. omega arith), ((λ by_then. omega arith), tt))

second_at_last_mark : May Settled 5 2
second_at_last_mark = shown_whole Settled 5 tt ((λ late. omega arith), ((λ late. omega arith), tt)) ((λ by_then. omega arith), ((λ by_then. absurd (omega (arith, by_then))), tt))

-- begun: the second write behind the mark of a, and not at it or before it, since it was begun after that flush was answered
second_behind_mark : May Settled 3 2
second_behind_mark = shown_whole Settled 3 tt ((λ late. omega arith), ((λ late. omega arith), tt)) ((λ by_then. omega arith), ((λ by_then. absurd (omega (arith, by_then))), tt))

second_too_new : (size : ℕ) → size ≤ 2 → May Settled size 2 → ⊥
second_too_new size before may = elim (shows marks calls Settled size 2 may) [
  | inl whole ↦ let begun = may.begun.1.0 before in let by_then = rw whole.1 at begun in omega (arith, by_then)
  | inr (inl first) ↦ let byte = first.0 in omega (arith, byte)
  | inr (inr none) ↦ let byte = none.0 in omega (arith, byte)
]

second_at_mark : May Settled 2 2 → ⊥
second_at_mark may = second_too_new 2 (omega arith) may

second_before_mark : May Settled 1 2 → ⊥
second_before_mark may = second_too_new 1 (omega arith) may

second_alone : (size : ℕ) → (history Settled ≡ [] ++ history Settled) × MayLast (history Settled) × (block 2 ≡ last_value script (block 0) (history Settled)) × IsFlushed Settled size (history Settled)
second_alone size = (refl, tt, refl, ((λ late. omega arith), ((λ late. omega arith), tt)))

-- begun, in time: the first write may be there before the mark of a already
first_before_mark : May Settled 1 1
first_before_mark = shown_first Settled 1 ((λ late. absurd (omega (arith, late))), ((λ late. omega arith), tt))

first_at_mark : May Settled 2 1
first_at_mark = shown_first Settled 2 ((λ late. absurd (omega (arith, late))), ((λ late. omega arith), tt))

-- begun, each mark: it makes no difference which mark stands first
second_at_older_mark : MayWith (mark_a ∷ mark_b ∷ []) calls Settled 2 2 → ⊥
second_at_older_mark may = elim (shows (mark_a ∷ mark_b ∷ []) calls Settled 2 2 may) [
  | inl whole ↦ let begun = may.begun.0 (omega arith) in let by_then = rw whole.1 at begun in omega (arith, by_then)
  | inr (inl first) ↦ let byte = first.0 in omega (arith, byte)
  | inr (inr none) ↦ let byte = none.0 in omega (arith, byte)
]

-- flushed, begun, the length: where one call failed before all these, the mark of a is at length 3
abbrev one_failed : List Call
one_failed = calls ++ (Flush false ∷ [])

opening_before_longer : MayWith marks one_failed Settled 2 0
opening_before_longer = record {
  newer = history Settled;
  shown = [];
  part = refl;
  lasts = tt;
  value_is = refl;
  flushed = ((λ late. absurd (omega (arith, late))), ((λ late. absurd (omega (arith, late))), tt));
  begun = ((λ by_then. tt), ((λ by_then. tt), tt));
}

second_at_longer : MayWith marks one_failed Settled 3 2 → ⊥
second_at_longer may = elim (shows marks one_failed Settled 3 2 may) [
  | inl whole ↦ let begun = may.begun.1.0 (omega arith) in let by_then = rw whole.1 at begun in omega (arith, by_then)
  | inr (inl first) ↦ let byte = first.0 in omega (arith, byte)
  | inr (inr none) ↦ let byte = none.0 in omega (arith, byte)
]

-- lasts: an unsettled second write may be there, and a refused one may not
unsettled_shows : May Unsettled 3 2
unsettled_shows = shown_whole Unsettled 3 tt ((λ late. omega arith), ((λ late. omega arith), tt)) ((λ by_then. omega arith), ((λ by_then. absurd (omega (arith, by_then))), tt))

refused_shows : May Refused 3 2 → ⊥
refused_shows may = elim (shows marks calls Refused 3 2 may) [
  | inl whole ↦ let lasts = may.lasts in rw whole.1 at lasts
  | inr (inl first) ↦ let byte = first.0 in omega (arith, byte)
  | inr (inr none) ↦ let byte = none.0 in omega (arith, byte)
]

refused_alone : (block 2 ≡ last_value script (block 0) (history Refused)) × IsFlushed Refused 3 (history Refused) × IsBegun 3 (history Refused)
refused_alone = (refl, ((λ late. omega arith), ((λ late. omega arith), tt)), ((λ by_then. omega arith), ((λ by_then. absurd (omega (arith, by_then))), tt)))

-- and no flush covers either: the first write stays right behind the mark of b
unsettled_not_covered : May Unsettled 5 1
unsettled_not_covered = shown_first Unsettled 5 ((λ late. omega arith), ((λ late. omega arith), tt))

refused_not_covered : May Refused 5 1
refused_not_covered = shown_first Refused 5 ((λ late. omega arith), ((λ late. omega arith), tt))

-- value_is: no value that nobody wrote there
never_written : May Settled 3 9 → ⊥
never_written may = elim (shows marks calls Settled 3 9 may) [
  | inl whole ↦ let byte = whole.0 in omega (arith, byte)
  | inr (inl first) ↦ let byte = first.0 in omega (arith, byte)
  | inr (inr none) ↦ let byte = none.0 in omega (arith, byte)
]

-- part: what b wrote to the other address is no value of this one, though it may last, was begun and is as long as what is covered
written_elsewhere : May Settled 3 3 → ⊥
written_elsewhere may = elim (shows marks calls Settled 3 3 may) [
  | inl whole ↦ let byte = whole.0 in omega (arith, byte)
  | inr (inl first) ↦ let byte = first.0 in omega (arith, byte)
  | inr (inr none) ↦ let byte = none.0 in omega (arith, byte)
]

written_elsewhere_alone : MayLast (entry 812 (of_b 0) Settled ∷ []) × (block 3 ≡ last_value script (block 0) (entry 812 (of_b 0) Settled ∷ [])) × IsFlushed Settled 3 (entry 812 (of_b 0) Settled ∷ []) × IsBegun 3 (entry 812 (of_b 0) Settled ∷ [])
written_elsewhere_alone =
    (tt, refl, ((λ late. absurd (omega (arith, late))), ((λ late. omega arith), tt)), ((λ by_then. omega arith), ((λ by_then. omega arith), tt)))

-- ShowsRight: the values of all addresses below the logical size, behind the mark of b.

abbrev report : RunReport
report = record { requests = script; desk = desk; marks = marks; receipts = []; places = places; histories = histories; damage = None; used = 0; total = 0 }

-- addresses 1 and 2 have these values, and each other one its opening value
abbrev values : List ℕ → List ℕ → ℕ → List ℕ
values one two a = if a == 1 then one else if a == 2 then two else openings a

abbrev Shows : ℕ → List ℕ → List ℕ → Type 0
Shows logical one two = ShowsRight logical openings report calls 5 (values one two)

opening_of_none : (opening : List ℕ) → MayShow script desk marks calls 5 [] opening opening
opening_of_none opening = record {
  newer = [];
  shown = [];
  part = refl;
  lasts = tt;
  value_is = refl;
  flushed = ((λ late. omega arith), ((λ late. omega arith), tt));
  begun = ((λ by_then. tt), ((λ by_then. tt), tt));
}

shows_right : Shows 3 (block 2) (block 12)
shows_right zero below = opening_of_none (block 10)
shows_right (suc zero) below = record {
  newer = [];
  shown = history Settled;
  part = refl;
  lasts = tt;
  value_is = refl;
  flushed = ((λ late. omega arith), ((λ late. omega arith), tt));
  begun = ((λ by_then. omega arith), ((λ by_then. absurd (omega (arith, by_then))), tt));
}
shows_right (suc (suc zero)) below = opening_of_none (block 12)
shows_right (suc (suc (suc a))) below = absurd (omega (arith, below))

-- each address: address 2 doesn't have the opening value of address 1
wrong_address : Shows 3 (block 2) (block 11) → ⊥
wrong_address right =
    let may = right 2 (omega arith) in
    let none : may.shown ≡ [] = nothing may.newer may.shown may.part in
    let value = may.value_is in
    let same = blocks_tell 11 12 (rw none at value) in
    omega (arith, same)
  where
    nothing : (newer shown : List HistoryEntry) → [] ≡ newer ++ shown → shown ≡ []
    nothing [] shown is = sym is
    nothing (e ∷ newer) shown is = absurd cc

-- below the logical size: there it isn't looked at
beyond_size : Shows 2 (block 2) (block 11)
beyond_size zero below = shows_right zero (omega arith)
beyond_size (suc zero) below = shows_right (suc zero) (omega arith)
beyond_size (suc (suc a)) below = absurd (omega (arith, below))
