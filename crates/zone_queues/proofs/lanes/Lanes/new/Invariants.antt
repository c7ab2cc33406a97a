use Rattle.std.proofs.Common.{◌≡◌, take, map, replicate}
use Rattle.zone_queues.specs.Queues.{empty, network_of}
use Rattle.zone_queues.proofs.lanes.Lanes.new.Given as goal

abbrev pub invariant-loop-own : goal.invariant-loop-own
invariant-loop-own g l =
    network_of l.ports.items ≡ record { inboxes = map (empty _) (take l.own-index l.room); outboxes = replicate l.own-index (map (empty _) l.room) }
