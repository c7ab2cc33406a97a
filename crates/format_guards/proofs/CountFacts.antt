-- What lists of updates make of counts and points, in the cases of the guards.
use Rattle.std.proofs.Common.{ℕ, ◌≡◌, ◌<◌, ◌≤◌, ◌%◌, List, [], ◌∷◌, length, slice_index, Contains, Result, Ok, Err, IfOk, OnOk, refl, sym, ◌∙◌, ap, ap₂, inl, inr, arith}
use Rattle.std.proofs.lemmas.Bool.{cases_lt, le-leb, lt-leb, le-ltb, eq-eqb}
use Rattle.std.specs.List.Sorted.{IsPermutation}
use Rattle.std.proofs.lemmas.List.Sorted.{length_permutation, Contains-permutation}
use Rattle.blk_base.specs.Counters.{limit_of}
use Rattle.blk_base.specs.declared.geometry.Geometry.{Geometry}
use Rattle.blk_base.specs.declared.journal_entry.Update.{Update}
use Rattle.blk_base.specs.declared.layout.DataPlace.{DataPlace}
use Rattle.blk_base.specs.declared.point.Point.{Point}
use Rattle.image_model.specs.Counts.{block_of_data, count_from}
use Rattle.image_model.specs.Sound.{IsDataPlace}
use Rattle.image_model.proofs.CountLaws.{is_first, is_behind, is_first_or_behind, none_in_nothing}
use Rattle.count_updates.specs.Applied.{AreApplied, IsOfSector}
use Rattle.count_updates.specs.Counted.{AreCounted, commit_in}
use Rattle.count_updates.specs.FoundLists.{FoundLists}
use Rattle.count_updates.specs.Listed.{AreInOrder, IsCounted, Lists}
use Rattle.count_updates.specs.Numbers.{all_sectors, block_number, sector_number}
use Rattle.count_updates.proofs.NumberLaws.{sector_inside}

-- what each value gives, without naming it
pub if_ok_never : {X Y : Type 0} (r : Result X Y) (P : X → Type 0) (Q : Type 0) → ((x : X) → P x → Q) → IfOk r P → OnOk r Q
if_ok_never (Ok x) P Q so is = so x is
if_ok_never (Err y) P Q so is = tt

-- Counts.

without_points : (limit commit counter count : ℕ) (points : List ℕ) → ((p : ℕ) → Contains points p → ⊥) → count_from limit commit counter points ≡ Ok count → count ≡ counter
without_points limit commit counter count [] none counted = elim (cases_lt limit counter) [
  | inl more ↦ absurd (let wrong = rw (lt-leb counter limit more) at counted in cc wrong)
  | inr most ↦ let same = rw (le-leb counter limit most) at counted in cc same
]
without_points limit commit counter count (p ∷ points) none counted = absurd (none p (is_first p points))

-- where no update is above the commit point, the count is the counter
counted_of_none : (limit : ℕ) (updates : List Update) (at commit counter count : ℕ) → IsCounted limit updates at commit counter (Ok count)
    → ((point : ℕ) → Lists updates at point → point ≤ commit) → count ≡ counter
counted_of_none limit updates at commit counter count is most =
    without_points limit commit counter count is.points
    (λ p has. let more = (is.are.each p).0 has in let less = most p more.1 in let above = more.0 in omega (arith, above, less)) is.counted

past_limit : (limit commit count : ℕ) (points : List ℕ) (point : ℕ) → ((p : ℕ) → Contains points p → p % 2 ≡ 0) → Contains points point
    → count_from limit commit limit points ≡ Ok count → ⊥
past_limit limit commit count [] point even has counted = none_in_nothing point has
past_limit limit commit count (p ∷ points) point even has counted =
    let first = even p (is_first p points) in
    let wrong = rw (le-leb limit limit (omega arith), eq-eqb (p % 2) 0 first, le-ltb limit limit (omega arith)) at counted in
    absurd (cc wrong)

-- a counter at the limit has no count where an update above the commit point adds one, and none takes one away
counted_past_limit : (limit : ℕ) (updates : List Update) (at commit counter count point : ℕ) → IsCounted limit updates at commit counter (Ok count)
    → counter ≡ limit → ((other : ℕ) → Lists updates at other → other % 2 ≡ 0) → Lists updates at point → commit < point → ⊥
counted_past_limit limit updates at commit counter count point is full even listed above =
    let counted : count_from limit commit limit is.points ≡ Ok count = ap (λ (n : ℕ). count_from limit commit n is.points) (sym full) ∙ is.counted in
    past_limit limit commit count is.points point (λ p has. even p ((is.are.each p).0 has).1) ((is.are.each point).1 (above, listed)) counted

-- the same of all counts
module _ (g : Geometry) (found : FoundLists) (counts : List ℕ) (are : AreCounted g found counts) where
  pub already_counted : (place : DataPlace) → IsDataPlace g place
      → ((point : ℕ) → Lists found.updates (block_of_data g place).0 point → point ≤ commit_in found.commits (sector_number g place))
      → slice_index counts (block_number g place) ≡ slice_index found.counters (block_number g place)
  already_counted place inside most =
      counted_of_none (limit_of g) found.updates (block_of_data g place).0 (commit_in found.commits (sector_number g place)) (slice_index found.counters (block_number g place))
      (slice_index counts (block_number g place)) (are.each place inside) most

  pub past_no_limit : (place : DataPlace) (point : ℕ) → IsDataPlace g place → slice_index found.counters (block_number g place) ≡ limit_of g
      → ((other : ℕ) → Lists found.updates (block_of_data g place).0 other → other % 2 ≡ 0) → Lists found.updates (block_of_data g place).0 point
      → commit_in found.commits (sector_number g place) < point → ⊥
  past_no_limit place point inside full even listed above =
      counted_past_limit (limit_of g) found.updates (block_of_data g place).0 (commit_in found.commits (sector_number g place))
      (slice_index found.counters (block_number g place)) (slice_index counts (block_number g place)) point (are.each place inside) full even listed above

-- Points of sectors.

module _ (g : Geometry) (updates : List Update) (commits applied : List Point) (are : AreApplied g updates commits applied) (all : length commits ≡ all_sectors g) where
  pub applied_upto : (place : DataPlace) (point : ℕ) → IsDataPlace g place → Lists updates (block_of_data g place).0 point
      → commit_in commits (sector_number g place) < point → point ≤ commit_in applied (sector_number g place)
  applied_upto place point inside listed above =
      let within = sector_inside g place inside in
      let there : sector_number g place < length commits = omega (arith, within, all) in
      (are.each (sector_number g place) there).most point above (place, inside, refl, listed)

  pub applied_none : (number : ℕ) → number < all_sectors g → ((point : ℕ) → IsOfSector g updates number point → ⊥) → commit_in applied number ≡ commit_in commits number
  applied_none number inside none =
      let there : number < length commits = omega (arith, inside, all) in
      elim ((are.each number there).reached) [
        | inl same ↦ same
        | inr raised ↦ absurd (none (commit_in applied number) raised.1)
      ]

-- Order.

two_in_order : (one other : Update) (updates : List Update) → length updates ≡ 2 → Contains updates one → Contains updates other → AreInOrder updates
    → one.at.0 < other.at.0 → updates ≡ one ∷ other ∷ []
two_in_order one other [] size has has' order less = absurd (omega (arith, size))
two_in_order one other (x ∷ []) size has has' order less = absurd (omega (arith, size))
two_in_order one other (x ∷ y ∷ z ∷ more) size has has' order less = absurd (omega (arith, size))
two_in_order one other (x ∷ y ∷ []) size has has' order less = elim (is_first_or_behind x (y ∷ []) one has) [
  | inl first ↦ elim (is_first_or_behind x (y ∷ []) other has') [
    | inl same ↦ let both = ap (λ (u : Update). u.at.0) (sym first ∙ same) in absurd (omega (arith, both, less))
    | inr behind ↦ elim (is_first_or_behind y [] other behind) [
      | inl last ↦ ap₂ (λ (u v : Update). u ∷ v ∷ []) first last
      | inr none ↦ absurd (none_in_nothing other none)
    ]
  ]
  | inr behind ↦ elim (is_first_or_behind y [] one behind) [
    | inr none ↦ absurd (none_in_nothing one none)
    | inl last ↦ elim (is_first_or_behind x (y ∷ []) other has') [
      | inr behind' ↦ elim (is_first_or_behind y [] other behind') [
        | inl same ↦ let both = ap (λ (u : Update). u.at.0) (sym last ∙ same) in absurd (omega (arith, both, less))
        | inr none ↦ absurd (none_in_nothing other none)
      ]
      | inl first ↦
          let ahead = ap (λ (u : Update). u.at.0) first in
          let after = ap (λ (u : Update). u.at.0) last in
          absurd (elim order.0.0 [ inl before ↦ omega (arith, before, ahead, after, less) | inr same ↦ let at_one = same.0 in omega (arith, at_one, ahead, after, less) ])
    ]
  ]
]

-- two updates, once they were put in order
pub lesser_first : (old new : List Update) → IsPermutation old new → AreInOrder new → (one other : Update) → old ≡ other ∷ one ∷ [] → one.at.0 < other.at.0
    → new ≡ one ∷ other ∷ []
lesser_first old new same order one other is less =
    let both : IsPermutation (other ∷ one ∷ []) new = rw is at same in
    let size : length new ≡ 2 = length_permutation (other ∷ one ∷ []) new both in
    let has = Contains-permutation (other ∷ one ∷ []) new one both (is_behind other (one ∷ []) one (is_first one [])) in
    let has' = Contains-permutation (other ∷ one ∷ []) new other both (is_first other (one ∷ [])) in
    two_in_order one other new size has has' order less
