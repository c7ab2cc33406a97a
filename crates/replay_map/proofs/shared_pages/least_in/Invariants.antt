use Rattle.std.proofs.Common.{take}
use Rattle.replay_map.specs.Shares.{IsLeastOf, is_marked}
use Rattle.replay_map.proofs.shared_pages.least_in.Given as goal

abbrev pub invariant-loop-at : goal.invariant-loop-at
invariant-loop-at l = IsLeastOf (is_marked l.marks) (take l.at-index l.mapped) l.least
