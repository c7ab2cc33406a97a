use Rattle.std.proofs.Common.{List, ap, arith, inr, length, refl, sym, subst, take}
use Rattle.data_vio.specs.declared.items.Item.{Item}
use Rattle.core_model.specs.PortsData.{Ports}
use Rattle.core_model.specs.Steps.{Act}
use Rattle.vdo_core.proofs.LaneLaws.{room_within, same_lanes}
use Rattle.vdo_core.proofs.ZoneLaws.{begun, has_done, has_item, has_request, stepped_alone}
use Rattle.vdo_core.proofs.steps.step_alone.Goals as goal

pub returns-in-Some : goal.returns-in-Some
returns-in-Some c =
    let counts = c.has_steps_left.ensures.yes c.if-not-has_steps_left.false in
    has_done _ _ _ _ c.end.ensures.did
    (stepped_alone c.args.sizes.now c.args.zone.now c.end.new.zone c.act_alone.new.keeps c.in-Some.item c.take.new.self c.act_alone.new.posts counts c.in-Some.ensures.some c.end.ensures.zone c.act_alone.ensures)
    (has_item c.args.sizes.now c.args.zone.now c.in-Some.item c.take.new.self.inbox counts (ap (λ (p : Ports). p.inbox) c.in-Some.ensures.some))

pub returns-else-not-begin : goal.returns-else-not-begin
returns-else-not-begin c =
    let acts = c.begin.ensures.begun c.if-not-begin.false in
    let counts = c.has_steps_left.ensures.yes c.if-not-has_steps_left.false in
    has_done _ _ _ _ c.end-in-None.ensures.did
    (begun c.args.sizes.now c.args.zone.now c.end-in-None.new.zone c.begin.new.keeps c.take.new.self c.begin.new.posts counts c.in-None.ensures.none.0 c.in-None.ensures.none.1 acts c.end-in-None.ensures.zone)
    (has_request c.args.sizes.now c.args.zone.now counts (c.begin.ensures.might c.if-not-begin.false))

pub returns-then-not-has_steps_left : goal.returns-then-not-has_steps_left
returns-then-not-has_steps_left c = (inr (c.has_steps_left.ensures.no c.if-not-has_steps_left.true), refl)

pub end-requires-clause-room : goal.end-requires-clause-room
end-requires-clause-room c =
    let inbox = ap (λ (p : Ports). length p.inbox) c.in-Some.ensures.some in
    room_within c.args.zone.now c.act_alone.new.keeps c.take.new.self c.requires.can.within (omega (arith, inbox)) (sym (ap (λ (p : Ports). p.outboxes) c.in-Some.ensures.some))

pub end-requires-clause-lanes : goal.end-requires-clause-lanes
end-requires-clause-lanes c =
    let acts = c.act_alone.ensures in
    same_lanes c.args.sizes.now c.args.zone.now c.act_alone.new.keeps c.take.new.self c.act_alone.new.posts (sym (ap (λ (p : Ports). p.outboxes) c.in-Some.ensures.some))
    (c.requires.can.lanes c.act_alone.new.keeps acts.0 c.act_alone.new.posts
    (subst (λ (items : List Item). Act c.args.sizes.now c.args.zone.now.keeps items c.act_alone.new.keeps acts.0 c.act_alone.new.posts) (sym (ap (λ (p : Ports). take 1 p.inbox) c.in-Some.ensures.some)) acts.1))

pub end-requires-in-None-clause-room : goal.end-requires-in-None-clause-room
end-requires-in-None-clause-room c =
    room_within c.args.zone.now c.begin.new.keeps c.take.new.self c.requires.can.within (rw c.in-None.ensures.none.1 (omega arith)) (ap (λ (p : Ports). p.outboxes) c.in-None.ensures.none.1)

pub end-requires-in-None-clause-lanes : goal.end-requires-in-None-clause-lanes
end-requires-in-None-clause-lanes c =
    let acts = c.begin.ensures.begun c.if-not-begin.false in
    same_lanes c.args.sizes.now c.args.zone.now c.begin.new.keeps c.take.new.self c.begin.new.posts (ap (λ (p : Ports). p.outboxes) c.in-None.ensures.none.1)
    (c.requires.can.lanes c.begin.new.keeps acts.0 c.begin.new.posts
    (subst (λ (items : List Item). Act c.args.sizes.now c.args.zone.now.keeps items c.begin.new.keeps acts.0 c.begin.new.posts) (sym (ap (take 1) c.in-None.ensures.none.0)) acts.1))
