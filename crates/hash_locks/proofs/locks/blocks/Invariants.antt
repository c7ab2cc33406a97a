use Rattle.std.proofs.Common.{◌≡◌, ◌≤◌, vec_len, vec_capacity}
use Rattle.hash_locks.proofs.locks.blocks.Given as goal

abbrev pub invariant-loop-made : goal.invariant-loop-made
invariant-loop-made l = (vec_len l.blocks ≡ l._made) × (l.count ≤ vec_capacity l.blocks)
