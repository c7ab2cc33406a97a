use Rattle.std.proofs.Common.{◌<◌, ◌∷◌, [], length, arith, ap, subst, sym, refl, length-append}
use Rattle.zone_queues.specs.Queues.{Network, HasRoomTo, IsFit, network_of, outbox_at, with_more}
use Rattle.zone_queues.proofs.NetworkLaws.{IsFit-post, room_in_outbox}
use Rattle.zone_queues.proofs.lanes.Lanes.post.Goals as goal

pub post_at-requires-clause-room : goal.post_at-requires-clause-room
post_at-requires-clause-room g c =
    let lanes = network_of c.self.inside.ports.items in
    let size = ap (λ (s : Network _). length s.inboxes) c.self.view_is in
    let zones = c.self.invariant.zones in
    let from : c.args.from < length lanes.outboxes = omega (arith, c.requires.sender) in
    let to : c.args.to < length lanes.outboxes = omega (arith, c.requires.receiver) in
    room_in_outbox lanes c.args.from c.args.to c.self.invariant from to (subst (λ (s : Network _). HasRoomTo s c.args.to) (sym c.self.view_is) c.requires.room)

pub invariant_of-self : goal.invariant_of-self
invariant_of-self g c =
    let lanes = network_of c.self.inside.ports.items in
    let size = ap (λ (s : Network _). length s.inboxes) c.self.view_is in
    let zones = c.self.invariant.zones in
    let from : c.args.from < length lanes.outboxes = omega (arith, c.requires.sender) in
    let to : c.args.to < length lanes.outboxes = omega (arith, c.requires.receiver) in
    let outbox = outbox_at lanes c.args.from c.args.to in
    subst (λ (s : Network _). IsFit s) (sym c.post_at.ensures)
    (IsFit-post lanes c.args.from c.args.to (with_more outbox (c.args.item ∷ [])) c.self.invariant from to refl (length-append outbox.items (c.args.item ∷ []))
    (subst (λ (s : Network _). HasRoomTo s c.args.to) (sym c.self.view_is) c.requires.room))
