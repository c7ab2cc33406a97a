use Rattle.std.proofs.Common.{ℕ, ◌≡◌, ◌<◌, length, slice_index}
use Rattle.count_updates.proofs.block_counts.widen.Given as goal

abbrev pub invariant-loop-k : goal.invariant-loop-k
invariant-loop-k l = (length l.wide ≡ length l.bytes) × ((k : ℕ) → k < l.k → slice_index l.wide k ≡ slice_index l.bytes k)
