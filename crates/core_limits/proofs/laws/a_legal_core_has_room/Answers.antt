use Rattle.core_limits.proofs.Rooms.{inbox_room, lane_room, queue_room}
use Rattle.core_limits.proofs.laws.a_legal_core_has_room.Goals as goal

pub returns-clause-inbox : goal.returns-clause-inbox
returns-clause-inbox c = λ s core n z legal. inbox_room s core legal n z

pub returns-clause-lanes : goal.returns-clause-lanes
returns-clause-lanes c = λ s core n z to lane legal. lane_room s core legal n z to lane

pub returns-clause-kept : goal.returns-clause-kept
returns-clause-kept c = λ s core n z legal. queue_room s core legal n z
