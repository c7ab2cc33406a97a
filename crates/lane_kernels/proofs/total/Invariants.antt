use Rattle.std.proofs.Common.{◌≡◌, ◌≤◌, ◌+◌, ◌*◌, sum, take}
use Rattle.lane_kernels.proofs.total.Given as goal

abbrev pub invariant-loop-load : goal.invariant-loop-load
invariant-loop-load l = (l.sum ≡ sum (take (l.load * 64) l.bytes)) × (l.sum ≤ 255 * 64 * l.load)

abbrev pub invariant-loop-byte : goal.invariant-loop-byte
invariant-loop-byte l = (l.sum ≡ sum (take (l.loads * 64 + l.byte-index) l.bytes)) × (l.sum ≤ 255 * (l.loads * 64 + l.byte-index))
