use Rattle.std.proofs.Common.{List, ap, arith, inl, inr, length, refl, sym, subst, take}
use Rattle.data_vio.specs.declared.items.Item.{Item}
use Rattle.core_model.specs.PortsData.{Ports}
use Rattle.core_model.specs.Steps.{Act}
use Rattle.vdo_core.proofs.LaneLaws.{room_within, same_lanes}
use Rattle.vdo_core.proofs.ZoneLaws.{begins_none, has_done, has_item, stepped}
use Rattle.vdo_core.proofs.steps.step_device.Goals as goal

pub returns-in-Some-clause-steps : goal.returns-in-Some-clause-steps
returns-in-Some-clause-steps g c =
    let counts = c.has_steps_left.ensures.yes c.if-not-has_steps_left.false in
    has_done _ _ _ _ c.end.ensures.did
    (stepped g.D.Disk.trust c.args.sizes.now c.args.zone.now c.end.new.zone c.act_at_device.new.keeps c.in-Some.item c.take.new.self c.act_at_device.new.posts _ _
    counts c.in-Some.ensures.some c.end.ensures.zone c.act_at_device.ensures.acts)
    (has_item c.args.sizes.now c.args.zone.now c.in-Some.item c.take.new.self.inbox counts (ap (λ (p : Ports). p.inbox) c.in-Some.ensures.some))

pub returns-then-not-has_steps_left-clause-steps : goal.returns-then-not-has_steps_left-clause-steps
returns-then-not-has_steps_left-clause-steps g c = (inr (c.has_steps_left.ensures.no c.if-not-has_steps_left.true), (refl, refl))

pub returns-in-None-clause-steps : goal.returns-in-None-clause-steps
returns-in-None-clause-steps g c = (
  inl (record { inbox = c.in-None.ensures.none.0; none_begins = begins_none c.args.sizes.now c.args.zone.now.keeps c.requires.own }),
  (ap (λ (p : Ports). record c.args.zone.now { ports = p }) c.in-None.ensures.none.1, refl),
)

pub end-requires-clause-room : goal.end-requires-clause-room
end-requires-clause-room g c =
    let inbox = ap (λ (p : Ports). length p.inbox) c.in-Some.ensures.some in
    room_within c.args.zone.now c.act_at_device.new.keeps c.take.new.self c.requires.can.within (omega (arith, inbox)) (sym (ap (λ (p : Ports). p.outboxes) c.in-Some.ensures.some))

pub end-requires-clause-lanes : goal.end-requires-clause-lanes
end-requires-clause-lanes g c =
    let acts = c.act_at_device.ensures.acts in
    same_lanes c.args.sizes.now c.args.zone.now c.act_at_device.new.keeps c.take.new.self c.act_at_device.new.posts (sym (ap (λ (p : Ports). p.outboxes) c.in-Some.ensures.some))
    (c.requires.can.lanes c.act_at_device.new.keeps acts.0 c.act_at_device.new.posts
    (subst (λ (items : List Item). Act c.args.sizes.now c.args.zone.now.keeps items c.act_at_device.new.keeps acts.0 c.act_at_device.new.posts) (sym (ap (λ (p : Ports). take 1 p.inbox) c.in-Some.ensures.some)) acts.1))
