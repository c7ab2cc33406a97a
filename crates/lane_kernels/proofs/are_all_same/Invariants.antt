use Rattle.std.proofs.Common.{◌≡◌, ◌<◌, ◌*◌, ℕ}
use Rattle.std.specs.Prelude.{slice_index}
use Rattle.lane_kernels.proofs.are_all_same.Given as goal

abbrev pub invariant-loop-four : goal.invariant-loop-four
invariant-loop-four l = (k : ℕ) → k < l.four * 256 → slice_index l.left k ≡ slice_index l.right k
