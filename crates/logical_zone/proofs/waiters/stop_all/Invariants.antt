use Rattle.std.proofs.Common.{◌≡◌, ◌≤◌, ◌+◌, ◌++◌, length}
use Rattle.core_model.specs.LogicalRules.{all_for, all_stopped}
use Rattle.data_vio.specs.declared.limits.TheConstants.{POST_ROOM}
use Rattle.logical_zone.proofs.WaitingLaws.{emptied}
use Rattle.logical_zone.proofs.waiters.stop_all.Given as goal

abbrev pub invariant-loop-vio : goal.invariant-loop-vio
invariant-loop-vio l = record {
  room : length l.posts + length l.zone.waiting ≤ POST_ROOM;
  rest : emptied l.at.0 l.fn.zone ≡ emptied l.at.0 l.zone;
  posts : l.fn.posts ++ all_stopped (all_for l.at.0 l.fn.zone.waiting) ≡ l.posts ++ all_stopped (all_for l.at.0 l.zone.waiting);
}

abbrev pub decreases-loop-vio : goal.decreases-loop-vio
decreases-loop-vio l = length l.zone.waiting
