-- The points of a block's updates, taken from a list that is in order.
use Rattle.std.proofs.Common.{ℕ, suc, ◌≡◌, ◌⊎◌, ◌+◌, ◌<◌, ◌≤◌, ◌==◌, ◌&&◌, nat_lt, Bool, true, false, if◌then◌else◌, List, [], ◌∷◌, length, get_or, drop, Contains, Result, Ok, Err, refl, sym, ◌∙◌, ap, ap₂, subst, inl, inr, arith}
use Rattle.std.specs.List.{AllByRecursion}
use Rattle.std.proofs.Math.Seq.{drop-cons}
use Rattle.std.proofs.lemmas.Bool.{cases_lt, eqb-true, lt-ltb, le-ltb, le-leb, lt-leb}
use Rattle.std.proofs.lemmas.Bool.Decides.{eqb_tells}
use Rattle.blk_base.specs.declared.journal_entry.Update.{Update}
use Rattle.image_model.specs.Counts.{AreRising, count_after, count_from}
use Rattle.image_model.proofs.CountLaws.{is_first_or_behind, is_first, is_behind, none_in_nothing}
use Rattle.count_updates.specs.Listed.{Lists, IsUpTo, AreInOrder, ArePoints, IsCounted}

-- whether an update is one of the block, above a point
abbrev pub is_taken : ℕ → ℕ → Update → Bool
is_taken at above update = (update.at.0 == at) && nat_lt above update.point.0

-- those above a point, each above the one taken before
abbrev pub points_above : ℕ → ℕ → List Update → List ℕ
points_above at above [] = []
points_above at above (update ∷ later) =
    if is_taken at above update then update.point.0 ∷ points_above at update.point.0 later else points_above at above later

-- which of both it is
abbrev IsOne : ℕ → ℕ → Update → Type 0
IsOne at above update =
    ((update.at.0 ≡ at) × (above < update.point.0) × (is_taken at above update ≡ true))
    ⊎ ((update.at.0 ≡ at → above < update.point.0 → ⊥) × (is_taken at above update ≡ false))

pub sort_out : (at above : ℕ) (update : Update) → IsOne at above update
sort_out at above update = elim (eqb_tells update.at.0 at) [
  | inr other ↦ inr ((λ same more. other.1 same), rw other.0 refl)
  | inl same ↦ elim (cases_lt above update.point.0) [
    | inl below ↦ inl (same.1, below, rw (same.0, lt-ltb above update.point.0 below) refl)
    | inr none ↦ inr ((λ same more. omega (arith, more, none)), rw (same.0, le-ltb above update.point.0 none) refl)
  ]
]

pub taken_is : (at above : ℕ) (update : Update) (later : List Update) → is_taken at above update ≡ true
    → points_above at above (update ∷ later) ≡ update.point.0 ∷ points_above at update.point.0 later
taken_is at above update later taken = rw taken refl

pub passed_is : (at above : ℕ) (update : Update) (later : List Update) → is_taken at above update ≡ false
    → points_above at above (update ∷ later) ≡ points_above at above later
passed_is at above update later passed = rw passed refl

-- They rise.

weaken : (low high : ℕ) (points : List ℕ) → low < high → AllByRecursion (λ p. high < p) points → AllByRecursion (λ p. low < p) points
weaken low high [] less all = tt
weaken low high (p ∷ points) less all = (let more = all.0 in omega (arith, less, more), weaken low high points less all.1)

all_above : (at above : ℕ) (updates : List Update) → AllByRecursion (λ p. above < p) (points_above at above updates)
all_above at above [] = tt
all_above at above (update ∷ later) = elim (sort_out at above update) [
  | inl (same, more, taken) ↦ subst (λ (ps : List ℕ). AllByRecursion (λ p. above < p) ps) (sym (taken_is at above update later taken))
      (more, weaken above update.point.0 (points_above at update.point.0 later) more (all_above at update.point.0 later))
  | inr (not_one, passed) ↦ subst (λ (ps : List ℕ). AllByRecursion (λ p. above < p) ps) (sym (passed_is at above update later passed)) (all_above at above later)
]

are_rising : (at above : ℕ) (updates : List Update) → AreRising (points_above at above updates)
are_rising at above [] = tt
are_rising at above (update ∷ later) = elim (sort_out at above update) [
  | inl (same, more, taken) ↦ subst (λ (ps : List ℕ). AreRising ps) (sym (taken_is at above update later taken))
      (all_above at update.point.0 later, are_rising at update.point.0 later)
  | inr (not_one, passed) ↦ subst (λ (ps : List ℕ). AreRising ps) (sym (passed_is at above update later passed)) (are_rising at above later)
]

-- They are the block's points, and all of them.

abbrev pub made : ℕ → ℕ → Update
made at point = record { at = record { 0 = at }; point = record { 0 = point } }

from_list : (at above : ℕ) (updates : List Update) (point : ℕ) → Contains (points_above at above updates) point → (above < point) × Lists updates at point
from_list at above [] point has = absurd (none_in_nothing point has)
from_list at above (update ∷ later) point has = elim (sort_out at above update) [
  | inl (same, more, taken) ↦
      elim (is_first_or_behind update.point.0 (points_above at update.point.0 later) point (subst (λ (ps : List ℕ). Contains ps point) (taken_is at above update later taken) has)) [
        | inl first ↦ (
          omega (arith, more, first),
          subst (λ (one : Update). Contains (update ∷ later) one) (ap₂ (λ (a p : ℕ). made a p) same first) (is_first update later),
        )
        | inr behind ↦ let rest = from_list at update.point.0 later point behind in (let less = rest.0 in omega (arith, more, less), is_behind update later (made at point) rest.1)
      ]
  | inr (not_one, passed) ↦
      let rest = from_list at above later point (subst (λ (ps : List ℕ). Contains ps point) (passed_is at above update later passed) has) in
      (rest.0, is_behind update later (made at point) rest.1)
]

-- an update behind another one of its block has no lower point
not_below : (update : Update) (later : List Update) (at point : ℕ) → AllByRecursion (λ other. IsUpTo update other) later → update.at.0 ≡ at → Lists later at point → update.point.0 ≤ point
not_below update [] at point all same has = absurd (none_in_nothing (made at point) has)
not_below update (other ∷ later) at point all same has = elim (is_first_or_behind other later (made at point) has) [
  | inl first ↦
      let block = ap (λ (u : Update). u.at.0) first in
      let here = ap (λ (u : Update). u.point.0) first in
      elim all.0 [ inl less ↦ absurd (omega (arith, less, block, same)) | inr (equal, most) ↦ omega (arith, most, here) ]
  | inr behind ↦ not_below update later at point all.1 same behind
]

to_list : (at above : ℕ) (updates : List Update) (point : ℕ) → AreInOrder updates → above < point → Lists updates at point → Contains (points_above at above updates) point
to_list at above [] point order more has = absurd (none_in_nothing (made at point) has)
to_list at above (update ∷ later) point order more has = elim (sort_out at above update) [
  | inl (same, above_it, taken) ↦ subst (λ (ps : List ℕ). Contains ps point) (sym (taken_is at above update later taken))
      (elim (is_first_or_behind update later (made at point) has) [
        | inl first ↦ let here : update.point.0 ≡ point = ap (λ (u : Update). u.point.0) first in
            subst (λ (p : ℕ). Contains (update.point.0 ∷ points_above at update.point.0 later) p) here (is_first update.point.0 (points_above at update.point.0 later))
        | inr behind ↦ elim (cases_lt update.point.0 point) [
          | inl less ↦ is_behind update.point.0 (points_above at update.point.0 later) point (to_list at update.point.0 later point order.1 less behind)
          | inr most ↦
              let least = not_below update later at point order.0 same behind in
              let here : update.point.0 ≡ point = omega (arith, least, most) in
              subst (λ (p : ℕ). Contains (update.point.0 ∷ points_above at update.point.0 later) p) here (is_first update.point.0 (points_above at update.point.0 later))
        ]
      ])
  | inr (not_one, passed) ↦ subst (λ (ps : List ℕ). Contains ps point) (sym (passed_is at above update later passed))
      (elim (is_first_or_behind update later (made at point) has) [
        | inl first ↦ absurd (not_one (ap (λ (u : Update). u.at.0) first) (subst (λ (p : ℕ). above < p) (sym (ap (λ (u : Update). u.point.0) first)) more))
        | inr behind ↦ to_list at above later point order.1 more behind
      ])
]

pub are_points : (at commit : ℕ) (updates : List Update) → AreInOrder updates → ArePoints updates at commit (points_above at commit updates)
are_points at commit updates order = record {
  rising = are_rising at commit updates;
  each = λ point. (from_list at commit updates point, λ is. to_list at commit updates point order is.0 is.1);
}

pub is_counted : (limit at commit counter : ℕ) (updates : List Update) (result : Result ℕ ℕ) → AreInOrder updates
    → count_from limit commit counter (points_above at commit updates) ≡ result → IsCounted limit updates at commit counter result
is_counted limit at commit counter updates result order counted =
    record { points = points_above at commit updates; are = are_points at commit updates order; counted = counted }

-- One update after another.

taken_true : (at above : ℕ) (update : Update) → update.at.0 ≡ at → above < update.point.0 → is_taken at above update ≡ true
taken_true at above update same more = elim (sort_out at above update) [
  | inl one ↦ one.2
  | inr other ↦ absurd (other.0 same more)
]

passed_false : (at above : ℕ) (update : Update) → (update.at.0 ≡ at → above < update.point.0 → ⊥) → is_taken at above update ≡ false
passed_false at above update not_one = elim (sort_out at above update) [
  | inl one ↦ absurd (not_one one.0 one.1)
  | inr other ↦ other.1
]

is_rest : (i : ℕ) (updates : List Update) (d : Update) → i < length updates → drop i updates ≡ get_or updates i d ∷ drop (i + 1) updates
is_rest i updates d inside = let next : i + 1 ≡ suc i = omega arith in rw next (drop-cons updates i d inside)

module _ (limit at above i count : ℕ) (updates : List Update) (d : Update) (inside : i < length updates) (result : Result ℕ ℕ)
    (so_far : count_after limit count (points_above at above (drop i updates)) ≡ result) where
  rest_taken : (get_or updates i d).at.0 ≡ at → above < (get_or updates i d).point.0
      → points_above at above (drop i updates) ≡ (get_or updates i d).point.0 ∷ points_above at (get_or updates i d).point.0 (drop (i + 1) updates)
  rest_taken same more =
      ap (points_above at above) (is_rest i updates d inside) ∙ taken_is at above (get_or updates i d) (drop (i + 1) updates) (taken_true at above (get_or updates i d) same more)

  pub one_taken : (next : ℕ) → (get_or updates i d).at.0 ≡ at → above < (get_or updates i d).point.0
      → ((later : List ℕ) → count_after limit count ((get_or updates i d).point.0 ∷ later) ≡ count_after limit next later)
      → count_after limit next (points_above at (get_or updates i d).point.0 (drop (i + 1) updates)) ≡ result
  one_taken next same more some =
      sym (some (points_above at (get_or updates i d).point.0 (drop (i + 1) updates))) ∙ sym (ap (count_after limit count) (rest_taken same more)) ∙ so_far

  pub one_leaves : (get_or updates i d).at.0 ≡ at → above < (get_or updates i d).point.0
      → ((later : List ℕ) → count_after limit count ((get_or updates i d).point.0 ∷ later) ≡ Err (get_or updates i d).point.0)
      → result ≡ Err (get_or updates i d).point.0
  one_leaves same more none =
      sym so_far ∙ ap (count_after limit count) (rest_taken same more) ∙ none (points_above at (get_or updates i d).point.0 (drop (i + 1) updates))

  pub one_passed : ((get_or updates i d).at.0 ≡ at → above < (get_or updates i d).point.0 → ⊥)
      → count_after limit count (points_above at above (drop (i + 1) updates)) ≡ result
  one_passed not_one =
      sym (ap (λ (us : List Update). count_after limit count (points_above at above us)) (is_rest i updates d inside)
      ∙ ap (count_after limit count) (passed_is at above (get_or updates i d) (drop (i + 1) updates) (passed_false at above (get_or updates i d) not_one))) ∙ so_far

pub from_fits : (limit commit counter : ℕ) (points : List ℕ) → counter ≤ limit → count_from limit commit counter points ≡ count_after limit counter points
from_fits limit commit counter points fits = rw (le-leb counter limit fits) refl

pub from_past : (limit commit counter : ℕ) (points : List ℕ) → limit < counter → count_from limit commit counter points ≡ Err commit
from_past limit commit counter points past = rw (lt-leb counter limit past) refl

-- without updates it is the counter
pub none_of : (updates : List Update) → (length updates == 0) ≡ true → updates ≡ []
none_of [] is = refl
none_of (update ∷ later) is = absurd (let none = eqb-true (length (update ∷ later)) 0 is in omega (arith, none))

pub without_updates : (limit at commit counter : ℕ) (updates : List Update) → updates ≡ [] → counter ≤ limit → IsCounted limit updates at commit counter (Ok counter)
without_updates limit at commit counter updates none fits =
    subst (λ (us : List Update). IsCounted limit us at commit counter (Ok counter)) (sym none)
    (is_counted limit at commit counter [] (Ok counter) tt (from_fits limit commit counter [] fits))

pub not_both : (n m : ℕ) → n ≤ m → m < n → ⊥
not_both n m most more = omega (arith, most, more)
