use Rattle.std.proofs.Common.{◌≡◌, ◌≤◌, replicate, vec_len, vec_capacity}
use Rattle.core_model.specs.PortsData.{lane_room}
use Rattle.core_model.proofs.ports.rooms.Given as goal

abbrev pub invariant-loop : goal.invariant-loop
invariant-loop l = (l.rooms.items ≡ replicate l.counter lane_room) × (vec_len l.rooms ≡ l.counter) × (l.count ≤ vec_capacity l.rooms)
