use Rattle.std.proofs.Common.{◌<◌, ◌∙◌, length, arith, ap, subst, sym}
use Rattle.std.specs.Prelude.{IsTrue, ◌↔◌, not}
use Rattle.zone_queues.specs.Queues.{Network, Queue, HasRoomFor, IsFit, network_of, inbox_at, outbox_at, moved}
use Rattle.zone_queues.proofs.NetworkLaws.{some_items, IsFit-moved, room_for_batch, moved-steps}
use Rattle.zone_queues.proofs.lanes.Lanes.move_all.Goals as goal

pub receive_at-requires-clause-room : goal.receive_at-requires-clause-room
receive_at-requires-clause-room g c =
    let lanes = network_of c.self.inside.ports.items in
    let size = ap (λ (s : Network _). length s.inboxes) c.self.view_is in
    let zones = c.self.invariant.zones in
    let from : c.args.from < length lanes.outboxes = omega (arith, c.requires.sender) in
    let to : c.args.to < length lanes.outboxes = omega (arith, c.requires.receiver) in
    subst (λ (s : Network _). HasRoomFor (inbox_at s c.args.to) c.exchange_at-batch.result.items) (sym c.exchange_at-batch.ensures.kept)
    (subst (λ (q : Queue _). HasRoomFor (inbox_at lanes c.args.to) q.items) (sym c.exchange_at-batch.ensures.out)
    (room_for_batch lanes c.args.from c.args.to c.self.invariant from to))

pub invariant_of-self : goal.invariant_of-self
invariant_of-self g c =
    let lanes = network_of c.self.inside.ports.items in
    let size = ap (λ (s : Network _). length s.inboxes) c.self.view_is in
    let zones = c.self.invariant.zones in
    let from : c.args.from < length lanes.outboxes = omega (arith, c.requires.sender) in
    let to : c.args.to < length lanes.outboxes = omega (arith, c.requires.receiver) in
    subst (λ (s : Network _). IsFit s)
    (sym (moved-steps lanes (network_of c.exchange_at-batch.new.ports.items) (network_of c.receive_at.new.ports.items) (network_of c.exchange_at-none.new.ports.items)
    c.args.from c.args.to c.exchange_at-batch.result c.without_room-none.result c.receive_at.new.batch from c.exchange_at-batch.ensures.out c.exchange_at-batch.ensures.kept
    c.receive_at.ensures.added c.receive_at.ensures.emptied c.exchange_at-none.ensures.kept))
    (IsFit-moved lanes c.args.from c.args.to c.self.invariant from to)

pub returns-clause-moved : goal.returns-clause-moved
returns-clause-moved g c =
    let lanes = network_of c.self.inside.ports.items in
    let size = ap (λ (s : Network _). length s.inboxes) c.self.view_is in
    let zones = c.self.invariant.zones in
    let from : c.args.from < length lanes.outboxes = omega (arith, c.requires.sender) in
    moved-steps lanes (network_of c.exchange_at-batch.new.ports.items) (network_of c.receive_at.new.ports.items) (network_of c.exchange_at-none.new.ports.items)
    c.args.from c.args.to c.exchange_at-batch.result c.without_room-none.result c.receive_at.new.batch from c.exchange_at-batch.ensures.out c.exchange_at-batch.ensures.kept
    c.receive_at.ensures.added c.receive_at.ensures.emptied c.exchange_at-none.ensures.kept
    ∙ ap (λ (s : Network _). moved s c.args.from c.args.to) c.self.view_is

pub returns-clause-some : goal.returns-clause-some
returns-clause-some g c =
    let some = not c.is_empty-some.result in
    subst (λ (s : Network _). IsTrue some ↔ (0 < length (outbox_at s c.args.from c.args.to).items)) c.self.view_is
    (subst (λ (q : Queue _). IsTrue some ↔ (0 < length q.items)) c.exchange_at-batch.ensures.out (some_items (length c.exchange_at-batch.result.items) c.is_empty-some.result c.is_empty-some.ensures))
