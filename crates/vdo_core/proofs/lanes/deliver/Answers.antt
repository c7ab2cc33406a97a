use Rattle.std.proofs.Common.{rules, arith, refl, length}
use Rattle.vdo_core.proofs.LaneLaws.{lanes_stay, room_less, room_sent}
use Rattle.vdo_core.proofs.lanes.deliver.Goals as goal

pub loop-to-init : goal.loop-to-init
loop-to-init c = record {
  delivers = refl;
  lanes = c.requires.lanes;
  room = room_less _ _ _ (omega (arith, c.len-count.ensures.most, c.len-count.ensures.count)) c.requires.room;
}

pub send-requires-clause-lane : goal.send-requires-clause-lane
send-requires-clause-lane c = let left = rw c.in-Some.ensures.some at c.loop-to.invariant.lanes in left.0

pub loop-to-preserved : goal.loop-to-preserved
loop-to-preserved c = record {
  delivers = search rules;
  lanes = (let left = rw c.in-Some.ensures.some at c.loop-to.invariant.lanes in
      rw c.send.ensures (lanes_stay c.args.sizes.now _ _ c.in-Some.item c.loop-to.zone c.pop.new.self left.1));
  room = rw c.send.ensures (room_sent (length c.pop.new.self) _ _ c.in-Some.item c.loop-to.zone (rw c.in-Some.ensures.some at c.loop-to.invariant.room));
}
