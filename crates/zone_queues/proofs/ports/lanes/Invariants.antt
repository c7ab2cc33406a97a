use Rattle.std.proofs.Common.{◌≡◌, take, map}
use Rattle.std.specs.Vec.{vec_capacity}
use Rattle.zone_queues.specs.Queues.{empty}
use Rattle.zone_queues.proofs.ports.lanes.Given as goal

abbrev pub invariant-loop-room : goal.invariant-loop-room
invariant-loop-room g l = record {
  lanes : l.lanes.items ≡ map (empty _) (take l.room-index l.rooms);
  capacity : vec_capacity l.lanes ≡ vec_capacity l.initial.lanes;
}
