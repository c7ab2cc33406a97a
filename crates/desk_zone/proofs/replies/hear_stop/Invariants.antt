use Rattle.std.proofs.Common.{◌≡◌, ◌≤◌, ◌+◌, ◌++◌, length}
use Rattle.core_model.specs.DeskRules.{woken}
use Rattle.data_vio.specs.declared.limits.TheConstants.{POST_ROOM}
use Rattle.desk_zone.proofs.replies.hear_stop.Given as goal

abbrev pub invariant-loop-vio : goal.invariant-loop-vio
invariant-loop-vio l = record {
  room : length l.posts + length l.desk.parked ≤ POST_ROOM;
  desk : l.desk ≡ record l.fn.desk { notices = l.fn.desk.notices + 1; parked = l.desk.parked };
  posts : woken l.fn.desk.parked ≡ l.posts ++ woken l.desk.parked;
}

abbrev pub decreases-loop-vio : goal.decreases-loop-vio
decreases-loop-vio l = length l.desk.parked
