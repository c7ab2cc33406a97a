use Rattle.std.proofs.Common.{ℕ, ◌<◌, ◌*◌}
use Rattle.lane_kernels.specs.Kernels.{IsFreeAt}
use Rattle.lane_kernels.proofs.passed_fours.Given as goal

abbrev pub invariant-loop-four : goal.invariant-loop-four
invariant-loop-four l = (k : ℕ) → k < l.four * 256 → ¬ IsFreeAt l.counters l.claims k
