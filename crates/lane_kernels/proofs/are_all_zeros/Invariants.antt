use Rattle.std.proofs.Common.{◌≡◌, ◌<◌, ◌*◌, ℕ}
use Rattle.std.specs.Prelude.{slice_index}
use Rattle.lane_kernels.proofs.are_all_zeros.Given as goal

abbrev pub invariant-loop-four : goal.invariant-loop-four
invariant-loop-four l = (k : ℕ) → k < l.four * 256 → slice_index l.bytes k ≡ 0

abbrev pub invariant-loop-load : goal.invariant-loop-load
invariant-loop-load l = (k : ℕ) → k < l.load * 64 → slice_index l.bytes k ≡ 0
