use Rattle.std.proofs.Common.{ℕ, ◌<◌, ◌*◌}
use Rattle.lane_kernels.specs.Kernels.{IsFreeAt}
use Rattle.lane_kernels.proofs.first_free.Given as goal

abbrev pub invariant-loop-load : goal.invariant-loop-load
invariant-loop-load l = (k : ℕ) → k < l.load * 64 → ¬ IsFreeAt l.counters l.claims k

abbrev pub invariant-loop-at : goal.invariant-loop-at
invariant-loop-at l = (k : ℕ) → k < l.at → ¬ IsFreeAt l.counters l.claims k
