use Rattle.std.proofs.Common.{◌≡◌, ◌≤◌, ◌+◌, ◌++◌, length}
use Rattle.core_model.specs.DeviceRules.{stop_notices}
use Rattle.data_vio.specs.Zones.{physical_zones}
use Rattle.data_vio.specs.declared.limits.TheConstants.{POST_ROOM}
use Rattle.device_zone.proofs.stop_notices.notify_physical.Given as goal

abbrev pub invariant-loop-left : goal.invariant-loop-left
invariant-loop-left l = record {
  room : length l.posts + l.left ≤ POST_ROOM;
  count : length l.posts + l.left ≡ length l.initial.posts + l.initial.left;
  posts : l.posts ++ stop_notices (physical_zones l.left) ≡ l.initial.posts ++ stop_notices (physical_zones l.initial.left);
}

abbrev pub decreases-loop-left : goal.decreases-loop-left
decreases-loop-left l = l.left
