-- Updates that were sorted by their blocks and points.
use Rattle.std.proofs.Common.{ℕ, suc, ◌≡◌, ◌<◌, ◌≤◌, Bool, false, List, [], ◌∷◌, length, get_or, sym, inl, inr, arith}
use Rattle.std.specs.Cmp.{IsTotalOrder}
use Rattle.std.specs.List.Sorted.{IsSortedBy}
use Rattle.std.specs.Ordering.{nat_cmp, ordering_then, is_lt, then_cmp, on}
use Rattle.std.proofs.lemmas.Cmp.{then_total, on_total, nat_cmp_total}
use Rattle.std.proofs.lemmas.List.MinMax.{ranks_by}
use Rattle.std.proofs.lemmas.List.Sorted.{sorted_far}
use Rattle.std.proofs.lemmas.Bool.{cases_lt, lt-ltb, le-ltb, eq-eqb}
use Rattle.std.proofs.lemmas.List.Elements.{recursion_from_All}
use Rattle.blk_base.specs.declared.journal_entry.Update.{Update}
use Rattle.count_updates.specs.Listed.{IsUpTo, AreInOrder}

-- whether an update is to stand before another one
abbrev pub precedes : Update → Update → Bool
precedes one other = is_lt (ordering_then (nat_cmp one.at.0 other.at.0) (nat_cmp one.point.0 other.point.0))

up_to : (one other : Update) → precedes other one ≡ false → IsUpTo one other
up_to one other not_before = elim (cases_lt one.at.0 other.at.0) [
  | inl less ↦ inl less
  | inr most ↦ elim (cases_lt other.at.0 one.at.0) [
    | inl more ↦ absurd (let first = lt-ltb other.at.0 one.at.0 more in let wrong = rw first at not_before in cc wrong)
    | inr least ↦
        let same : other.at.0 ≡ one.at.0 = omega (arith, most, least) in
        let least_too : one.at.0 ≤ other.at.0 = omega (arith, least) in
        elim (cases_lt other.point.0 one.point.0) [
          | inl below ↦ absurd (let wrong = rw (le-ltb other.at.0 one.at.0 least_too, eq-eqb other.at.0 one.at.0 same, lt-ltb other.point.0 one.point.0 below) at not_before in cc wrong)
          | inr upto ↦ inr (sym same, upto)
        ]
  ]
]

from_pairs : (updates : List Update) → ((i j : ℕ) (d : Update) → i < j → j < length updates → precedes (get_or updates j d) (get_or updates i d) ≡ false) → AreInOrder updates
from_pairs [] far = tt
from_pairs (update ∷ later) far = (
  recursion_from_All (λ other. IsUpTo update other) later (λ k d below. up_to update (get_or later k d) (far 0 (suc k) d (omega arith) (omega (arith, below)))),
  from_pairs later (λ i j d less below. far (suc i) (suc j) d (omega (arith, less)) (omega (arith, below))),
)

by_both : IsTotalOrder (then_cmp (on (λ (p : ℕ × ℕ). p.0) nat_cmp) (on (λ (p : ℕ × ℕ). p.1) nat_cmp))
by_both = then_total (on_total (λ (p : ℕ × ℕ). p.0) nat_cmp_total) (on_total (λ (p : ℕ × ℕ). p.1) nat_cmp_total)

pub sorted_order : (updates : List Update) → IsSortedBy precedes updates → AreInOrder updates
sorted_order updates sorted =
    from_pairs updates (λ i j d less below.
    sorted_far precedes (ranks_by by_both (λ (u : Update). (u.at.0, u.point.0))) updates sorted i j d (omega (arith, less)) below)
