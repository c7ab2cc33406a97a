use Rattle.std.proofs.Common.{reverse, take}
use Rattle.replay_map.specs.Changes.{AreNewest}
use Rattle.replay_map.proofs.changes.Changes.of.Given as goal

abbrev pub invariant-loop-committed : goal.invariant-loop-committed
invariant-loop-committed l = AreNewest (reverse (take l.committed-index l.window)) l.newest.entries
