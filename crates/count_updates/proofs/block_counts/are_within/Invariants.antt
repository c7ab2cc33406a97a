use Rattle.std.proofs.Common.{ℕ, ◌<◌, ◌≤◌, slice_index}
use Rattle.count_updates.proofs.block_counts.are_within.Given as goal

abbrev pub invariant-loop-counter : goal.invariant-loop-counter
invariant-loop-counter l = (k : ℕ) → k < l.counter-index → slice_index l.counters k ≤ l.greatest
