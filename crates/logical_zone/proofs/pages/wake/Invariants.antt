use Rattle.std.proofs.Common.{◌≡◌, ◌≤◌, ◌+◌, ◌++◌, length}
use Rattle.core_model.specs.LogicalRules.{all_again, woken}
use Rattle.data_vio.specs.declared.limits.TheConstants.{POST_ROOM}
use Rattle.logical_zone.proofs.pages.wake.Given as goal

abbrev pub invariant-loop-vio : goal.invariant-loop-vio
invariant-loop-vio l = record {
  room : length l.posts + length l.zone.lacking ≤ POST_ROOM;
  rest : woken l.fn.zone ≡ woken l.zone;
  posts : l.fn.posts ++ all_again l.fn.zone.lacking ≡ l.posts ++ all_again l.zone.lacking;
}

abbrev pub decreases-loop-vio : goal.decreases-loop-vio
decreases-loop-vio l = length l.zone.lacking
