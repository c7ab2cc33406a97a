-- The entries of a history that a stop may show, and the lengths of a log.
use Rattle.std.proofs.Common.{ℕ, suc, ◌≡◌, ◌+◌, ◌<◌, ◌≤◌, ◌++◌, ◌&&◌, Bool, true, false, List, [], ◌∷◌, length, refl, ap, inl, inr, arith, length-append}
use Rattle.std.proofs.lemmas.Bool.{lt-ltb, le-ltb, cases_lt, cases_Bool}
use Rattle.disk_model.specs.declared.call.Call.{Call}
use Rattle.disk_model.specs.declared.call.Call.TheVariants.{Read, Write, Flush}
use Rattle.vdo_model.specs.declared.report.DeskLine.{DeskLine}
use Rattle.vdo_model.specs.declared.report.FlushMark.{FlushMark}
use Rattle.vdo_model.specs.declared.report.HistoryEntry.{HistoryEntry}
use Rattle.vdo_model.specs.declared.report.Mark.{Mark}
use Rattle.vdo_model.specs.declared.report.Mark.TheVariants.{Settled, Unsettled, Refused}
use Rattle.vdo_model.specs.Histories.{is_settled}
use Rattle.vdo_model.specs.FlushMarks.{successes}
use Rattle.vdo_model.specs.Stops.{length_at, is_covered, covered, MayLast}
use Rattle.vdo_model.specs.LastParts.{is_lasting, last_part}

-- Entries that last.

pub part_of : (unsettled : Bool) (history : List HistoryEntry) → (newer : List HistoryEntry) × (history ≡ newer ++ last_part unsettled history)
part_of unsettled [] = ([], refl)
part_of unsettled (entry ∷ older) = elim (cases_Bool (is_lasting unsettled entry.mark)) [
  | inl taken ↦ rw taken ([], refl)
  | inr passed ↦ let rest = part_of unsettled older in rw passed (entry ∷ rest.0, ap (λ (h : List HistoryEntry). entry ∷ h) rest.1)
]

mark_lasts : (unsettled : Bool) (entry : HistoryEntry) (older : List HistoryEntry) (mark : Mark) → entry.mark ≡ mark → is_lasting unsettled mark ≡ true → MayLast (entry ∷ older)
mark_lasts unsettled entry older Settled is lasts = rw is tt
mark_lasts unsettled entry older Unsettled is lasts = rw is tt
mark_lasts true entry older Refused is lasts = absurd cc
mark_lasts false entry older Refused is lasts = absurd cc

pub part_lasts : (unsettled : Bool) (history : List HistoryEntry) → MayLast (last_part unsettled history)
part_lasts unsettled [] = tt
part_lasts unsettled (entry ∷ older) = elim (cases_Bool (is_lasting unsettled entry.mark)) [
  | inl taken ↦ rw taken (mark_lasts unsettled entry older entry.mark refl taken)
  | inr passed ↦ rw passed (part_lasts unsettled older)
]

-- No covered entry is later than the last one that lasts.
settled_lasts : (unsettled : Bool) (mark : Mark) → is_settled mark ≡ true → is_lasting unsettled mark ≡ true
settled_lasts true Settled is = refl
settled_lasts false Settled is = refl
settled_lasts true Unsettled is = refl
settled_lasts false Unsettled is = absurd cc
settled_lasts unsettled Refused is = absurd cc

left_true : (p q : Bool) → (p && q) ≡ true → p ≡ true
left_true true q is = refl
left_true false q is = is

pub covered_within : (desk : List DeskLine) (mark : FlushMark) (history : List HistoryEntry) → length (covered desk mark history) ≤ length history
covered_within desk mark [] = omega arith
covered_within desk mark (entry ∷ older) = elim (cases_Bool (is_covered desk mark entry)) [
  | inl taken ↦ rw taken (omega arith)
  | inr passed ↦ let rest = covered_within desk mark older in rw passed (omega (arith, rest))
]

pub covered_lasts : (unsettled : Bool) (desk : List DeskLine) (mark : FlushMark) (history : List HistoryEntry)
    → length (covered desk mark history) ≤ length (last_part unsettled history)
covered_lasts unsettled desk mark [] = omega arith
covered_lasts unsettled desk mark (entry ∷ older) = elim (cases_Bool (is_lasting unsettled entry.mark)) [
  | inl taken ↦ let all = covered_within desk mark (entry ∷ older) in rw taken all
  | inr passed ↦
      elim (cases_Bool (is_covered desk mark entry)) [
        | inl taken ↦ absurd (cc (passed, settled_lasts unsettled entry.mark (left_true (is_settled entry.mark) _ taken)))
        | inr over ↦ rw (passed, over) (covered_lasts unsettled desk mark older)
      ]
]

-- Lengths of a log.

pub length_at_within : (log : List Call) (n : ℕ) → length_at log n ≤ length log
length_at_within [] n = omega arith
length_at_within (call ∷ older) n = elim (cases_lt (successes older) n) [
  | inl more ↦ rw (lt-ltb (successes older) n more) (omega arith)
  | inr not_more ↦ let rest = length_at_within older n in rw (le-ltb (successes older) n not_more) (omega (arith, rest))
]

successes_grow : (call : Call) (older : List Call) → successes older ≤ successes (call ∷ older)
successes_grow (Read at bytes true) older = omega arith
successes_grow (Read at bytes false) older = omega arith
successes_grow (Write at bytes true) older = omega arith
successes_grow (Write at bytes false) older = omega arith
successes_grow (Flush true) older = omega arith
successes_grow (Flush false) older = omega arith

pub successes_later : (later older : List Call) → successes older ≤ successes (later ++ older)
successes_later [] older = omega arith
successes_later (call ∷ later) older = let rest = successes_later later older in let step = successes_grow call (later ++ older) in omega (arith, rest, step)

-- Later calls don't change when so many had succeeded.
pub length_at_later : (later older : List Call) (n : ℕ) → n ≤ successes older → length_at (later ++ older) n ≡ length_at older n
length_at_later [] older n few = refl
length_at_later (call ∷ later) older n few =
    let more = successes_later later older in rw (le-ltb (successes (later ++ older)) n (omega (arith, few, more))) (length_at_later later older n few)

-- And it is later, where more had to succeed.
pub length_at_after : (later older : List Call) (n : ℕ) → successes older < n → n ≤ successes (later ++ older) → length older < length_at (later ++ older) n
length_at_after [] older n more few = absurd (omega arith)
length_at_after (call ∷ later) older n more few = elim (cases_lt (successes (later ++ older)) n) [
  | inl not_yet ↦ let size = length-append later older in rw (lt-ltb (successes (later ++ older)) n not_yet) (omega (arith, size))
  | inr by_then ↦ rw (le-ltb (successes (later ++ older)) n by_then) (length_at_after later older n more by_then)
]

-- The call that was the next to succeed.
pub length_at_next : (call : Call) (older : List Call) (n : ℕ) → n ≡ successes older + 1 → length_at (call ∷ older) n ≡ suc (length older)
length_at_next call older n is = rw (lt-ltb (successes older) n (omega (arith, is))) refl

pub successes_append : (later older : List Call) → successes (later ++ older) ≡ successes later + successes older
successes_append [] older = omega arith
successes_append (Read at bytes true ∷ later) older = let rest = successes_append later older in omega (arith, rest)
successes_append (Read at bytes false ∷ later) older = successes_append later older
successes_append (Write at bytes true ∷ later) older = let rest = successes_append later older in omega (arith, rest)
successes_append (Write at bytes false ∷ later) older = successes_append later older
successes_append (Flush true ∷ later) older = let rest = successes_append later older in omega (arith, rest)
successes_append (Flush false ∷ later) older = successes_append later older
