-- The first free place, looked for from a cursor on.
use Rattle.std.specs.Prelude.{ℕ, ◌≡◌, ◌+◌, ◌-◌, ◌<◌, ◌≤◌, List, length, take, drop, slice_index}
use Rattle.std.proofs.Common.{sym, ◌∙◌, ap, arith, inl, inr, get_or}
use Rattle.std.proofs.lemmas.Bool.{cases_lt}
use Rattle.std.proofs.lemmas.List.{get_or-drop, length-drop}
use Rattle.std.proofs.lemmas.Slice.{between_to_end}
use Rattle.lane_kernels.specs.Kernels.{IsFreeAt, IsLeastFree}
use Rattle.slab_counts.specs.Kept.{NoneFreeBelow}

module _ (counters claims : List ℕ) (cursor : ℕ) (inside : cursor ≤ length counters) (same : length counters ≡ length claims) (below : NoneFreeBelow counters claims cursor) where
  is_rest : (xs : List ℕ) (k : ℕ) → slice_index (take (length xs - cursor) (drop cursor xs)) k ≡ slice_index xs (cursor + k)
  is_rest xs k = ap (λ (ys : List ℕ). get_or ys k 0) (between_to_end xs cursor (length xs) (omega arith)) ∙ get_or-drop cursor xs k 0

  later : (k : ℕ) → IsFreeAt (take (length counters - cursor) (drop cursor counters)) (take (length claims - cursor) (drop cursor claims)) k → IsFreeAt counters claims (cursor + k)
  later k free = (sym (is_rest counters k) ∙ free.0, sym (is_rest claims k) ∙ free.1)

  earlier : (k : ℕ) → cursor ≤ k → IsFreeAt counters claims k → IsFreeAt (take (length counters - cursor) (drop cursor counters)) (take (length claims - cursor) (drop cursor claims)) (k - cursor)
  earlier k past free =
      let place : cursor + (k - cursor) ≡ k = omega arith in
      (is_rest counters (k - cursor) ∙ ap (λ (n : ℕ). slice_index counters n) place ∙ free.0, is_rest claims (k - cursor) ∙ ap (λ (n : ℕ). slice_index claims n) place ∙ free.1)

  long : length (take (length counters - cursor) (drop cursor counters)) + cursor ≡ length counters
  long = omega (arith, ap (λ (ys : List ℕ). length ys) (between_to_end counters cursor (length counters) (omega arith)), length-drop cursor counters)

  pub least : (behind : ℕ) → IsLeastFree (take (length counters - cursor) (drop cursor counters)) (take (length claims - cursor) (drop cursor claims)) behind → IsLeastFree counters claims (cursor + behind)
  least behind is = record {
    inside = omega (arith, is.inside, long);
    free = later behind is.free;
    least = λ k before free. elim (cases_lt k cursor) [
      | inl early ↦ below k early free
      | inr past ↦ is.least (k - cursor) (omega arith) (earlier k past free)
    ];
  }

  pub none : ((k : ℕ) → k < length (take (length counters - cursor) (drop cursor counters)) → ¬ IsFreeAt (take (length counters - cursor) (drop cursor counters)) (take (length claims - cursor) (drop cursor claims)) k)
      → NoneFreeBelow counters claims (length counters)
  none nowhere k before free = elim (cases_lt k cursor) [
    | inl early ↦ below k early free
    | inr past ↦ nowhere (k - cursor) (omega (arith, long)) (earlier k past free)
  ]
