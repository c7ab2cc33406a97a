use Rattle.std.proofs.Common.{arith}
use Rattle.std.proofs.lemmas.Grind.{common_steps}
use Rattle.vdo_core.proofs.LaneLaws.{other_lane, room_at}
use Rattle.vdo_core.proofs.lanes.send.Goals as goal

pub post-requires-clause-there : goal.post-requires-clause-there
post-requires-clause-there c =
    other_lane c.args.sizes.now c.args.zone.now (c.args.to, c.args.item) c.zone_number-number.result c.from.result c.requires.lane c.zone_number-number.ensures c.from.ensures c.if-number-from.false

pub overflow_cast-number : goal.overflow_cast-number
overflow_cast-number c =
    let below = other_lane c.args.sizes.now c.args.zone.now (c.args.to, c.args.item) c.zone_number-number.result c.from.result c.requires.lane c.zone_number-number.ensures c.from.ensures c.if-number-from.false in
    grind (arith, common_steps)

pub post-requires-clause-room : goal.post-requires-clause-room
post-requires-clause-room c = λ lane got. (let room = room_at c.args.zone.now.ports.outboxes c.zone_number-number.result lane c.requires.room.outboxes got in omega (arith, room))
