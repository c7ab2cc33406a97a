use Rattle.std.proofs.Common.{ℕ, ◌≡◌, ◌<◌, ◌≤◌, slice_index}
use Rattle.audit.proofs.comparison.are_bytes.Given as goal

abbrev pub invariant-loop-k : goal.invariant-loop-k
invariant-loop-k l = record {
  few : l.others ≤ l.k;
  same : l.others ≡ 0 → (k : ℕ) → k < l.k → (slice_index l.stored k ≡ slice_index l.low k) × (slice_index l.low k < 255);
}
