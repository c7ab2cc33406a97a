use Rattle.std.proofs.Common.{◌≡◌, length, arith}
use Rattle.zone_queues.proofs.NetworkLaws.{IsFit-made}
use Rattle.zone_queues.proofs.lanes.Lanes.new.Goals as goal

pub invariant_of-result : goal.invariant_of-result
invariant_of-result g c =
    let all : c.loop-own.own-index ≡ length c.args.room.now = omega arith in
    IsFit-made _ c.args.room.now c.loop-own.own-index all c.loop-own.invariant
