-- The updates of one block as a part of a list that is in order.
use Rattle.std.proofs.Common.{ℕ, zero, suc, ◌≡◌, ◌+◌, ◌-◌, ◌<◌, ◌≤◌, List, [], ◌∷◌, length, get_or, take, drop, Result, sym, ◌∙◌, ap, subst, inl, inr, arith}
use Rattle.std.specs.List.{AllByRecursion}
use Rattle.std.proofs.lemmas.Bool.{cases_lt}
use Rattle.std.proofs.lemmas.List.{get_or-take, get_or-drop, length-take, length-drop}
use Rattle.std.proofs.lemmas.List.Elements.{All-from_recursion}
use Rattle.blk_base.specs.declared.journal_entry.Update.{Update}
use Rattle.count_updates.specs.Listed.{Lists, IsUpTo, AreInOrder, IsCounted, IsPassed}

in_order_drop : (n : ℕ) (updates : List Update) → AreInOrder updates → AreInOrder (drop n updates)
in_order_drop zero updates order = order
in_order_drop (suc n) [] order = tt
in_order_drop (suc n) (update ∷ later) order = in_order_drop n later order.1

all_take : (update : Update) (n : ℕ) (later : List Update) → AllByRecursion (λ other. IsUpTo update other) later → AllByRecursion (λ other. IsUpTo update other) (take n later)
all_take update zero later all = tt
all_take update (suc n) [] all = tt
all_take update (suc n) (other ∷ later) all = (all.0, all_take update n later all.1)

in_order_take : (n : ℕ) (updates : List Update) → AreInOrder updates → AreInOrder (take n updates)
in_order_take zero updates order = tt
in_order_take (suc n) [] order = tt
in_order_take (suc n) (update ∷ later) order = (all_take update n later order.0, in_order_take n later order.1)

pub in_order_part : (from count : ℕ) (updates : List Update) → AreInOrder updates → AreInOrder (take count (drop from updates))
in_order_part from count updates order = in_order_take count (drop from updates) (in_order_drop from updates order)

-- blocks don't fall
far : (updates : List Update) (i j : ℕ) (d : Update) → AreInOrder updates → i ≤ j → j < length updates → (get_or updates i d).at.0 ≤ (get_or updates j d).at.0
far [] i j d order most inside = absurd (omega (arith, inside))
far (update ∷ later) zero zero d order most inside = omega arith
far (update ∷ later) zero (suc j) d order most inside =
    elim (All-from_recursion (λ other. IsUpTo update other) later order.0 j d (omega (arith, inside))) [ inl less ↦ omega (arith, less) | inr (same, points) ↦ omega (arith, same) ]
far (update ∷ later) (suc i) zero d order most inside = absurd (omega (arith, most))
far (update ∷ later) (suc i) (suc j) d order most inside = far later i j d order.1 (omega (arith, most)) (omega (arith, inside))

module _ (updates : List Update) (from end at : ℕ) (order : AreInOrder updates) (passed : IsPassed updates from at) (within : (from ≤ end) × (end ≤ length updates))
    (ended : (d : Update) → end < length updates → at < (get_or updates end d).at.0) where
  lists_part : (point : ℕ) → Lists updates at point → Lists (take (end - from) (drop from updates)) at point
  lists_part point (k, inside, is) =
      let one : Update = record { at = record { 0 = at }; point = record { 0 = point } } in
      let block : (get_or updates k one).at.0 ≡ at = ap (λ (u : Update). u.at.0) is in
      elim (cases_lt k from) [
        | inl early ↦ let less = passed.before k one early in absurd (omega (arith, less, block))
        | inr behind ↦ elim (cases_lt k end) [
          | inr late ↦
              let more = ended one (omega (arith, late, inside)) in
              let most = far updates end k one order late inside in
              absurd (omega (arith, more, most, block))
          | inl before ↦
              let low : k - from < end - from = omega (arith, before, behind) in
              let place : from + (k - from) ≡ k = omega (arith, behind) in (
                k - from,
                omega (arith, length-take (end - from) (drop from updates), length-drop from updates, low, inside),
                get_or-take (end - from) (drop from updates) (k - from) one low ∙ get_or-drop from updates (k - from) one ∙ ap (λ (n : ℕ). get_or updates n one) place ∙ is,
              )
        ]
      ]

  lists_whole : (point : ℕ) → Lists (take (end - from) (drop from updates)) at point → Lists updates at point
  lists_whole point (k, inside, is) =
      let one : Update = record { at = record { 0 = at }; point = record { 0 = point } } in
      let low : k < end - from = omega (arith, length-take (end - from) (drop from updates), inside) in (
        from + k,
        omega (arith, low, within.1),
        sym (get_or-drop from updates k one) ∙ sym (get_or-take (end - from) (drop from updates) k one low) ∙ is,
      )

  -- what is counted from the part is counted from all
  counted_of_part : (limit commit counter : ℕ) (result : Result ℕ ℕ) → IsCounted limit (take (end - from) (drop from updates)) at commit counter result
      → IsCounted limit updates at commit counter result
  counted_of_part limit commit counter result counted = record {
    points = counted.points;
    are = record {
      rising = counted.are.rising;
      each = λ point. (
        (λ has. let is = (counted.are.each point).0 has in (is.0, lists_whole point is.1)),
        (λ is. (counted.are.each point).1 (is.0, lists_part point is.1)),
      );
    };
    counted = counted.counted;
  }

  -- and then those of the block are passed too
  passed_on : (next : ℕ) → at < next → ((k : ℕ) (d : Update) → from ≤ k → k < end → (get_or updates k d).at.0 ≤ at) → IsPassed updates end next
  passed_on next less upto = record {
    within = within.1;
    before = λ k d below. elim (cases_lt k from) [
      | inl early ↦ let before = passed.before k d early in omega (arith, before, less)
      | inr behind ↦ let most = upto k d behind below in omega (arith, most, less)
    ];
  }

pub passed_later : (updates : List Update) (count at next : ℕ) → at ≤ next → IsPassed updates count at → IsPassed updates count next
passed_later updates count at next most passed = record {
  within = passed.within;
  before = λ k d below. let before = passed.before k d below in omega (arith, before, most);
}

-- the same for a list and a block that are known by other names
module _ (all updates : List Update) (same : all ≡ updates) (from end at block : ℕ) (here : at ≡ block) (order : AreInOrder updates) (passed : IsPassed updates from block)
    (within : (from ≤ end) × (end ≤ length all)) (ended : (d : Update) → end < length all → at < (get_or all end d).at.0) where
  in_all : IsPassed all from block
  in_all = subst (λ (us : List Update). IsPassed us from block) (sym same) passed

  pub order_all : AreInOrder all
  order_all = subst AreInOrder (sym same) order

  block_ends : (d : Update) → end < length all → block < (get_or all end d).at.0
  block_ends d low = let more = ended d low in omega (arith, more, here)

  pub part_counted : (limit commit counter : ℕ) (result : Result ℕ ℕ) → IsCounted limit (take (end - from) (drop from all)) block commit counter result
      → IsCounted limit updates block commit counter result
  part_counted limit commit counter result counted =
      subst (λ (us : List Update). IsCounted limit us block commit counter result) same
      (counted_of_part all from end block order_all in_all within block_ends limit commit counter result counted)

  pub part_passed : (next : ℕ) → block < next → ((k : ℕ) (d : Update) → from ≤ k → k < end → (get_or all k d).at.0 ≤ at) → IsPassed updates end next
  part_passed next less upto =
      subst (λ (us : List Update). IsPassed us end next) same
      (passed_on all from end block order_all in_all within block_ends next less (λ k d low high. let most = upto k d low high in omega (arith, most, here)))
