use Rattle.std.proofs.Common.{ℕ, ◌≡◌, ◌≤◌, ◌<◌, ◌*◌}
use Rattle.recovery_blocks.specs.Counters.{points_of}
use Rattle.recovery_blocks.proofs.counter_blocks.has_updates.Given as goal

abbrev pub invariant-loop-n : goal.invariant-loop-n
invariant-loop-n l = (n : ℕ) → l.i * 8 ≤ n → n < l.n → (points_of l.layout.geometry l.sectors l.slab n).commit.0 ≡ (points_of l.layout.geometry l.sectors l.slab n).applied.0
