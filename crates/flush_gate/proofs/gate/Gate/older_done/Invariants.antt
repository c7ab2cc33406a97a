use Rattle.std.proofs.Common.{◌≡◌, ℕ, ◌+◌, ◌<◌, get_or}
use Rattle.flush_gate.proofs.gate.Gate.older_done.Given as goal

abbrev pub invariant-loop-place : goal.invariant-loop-place
invariant-loop-place l = (k : ℕ) → k < l.place → l.self-inside.oldest + k < l.generation → get_or l.self-inside.counts.items k 0 ≡ 0
