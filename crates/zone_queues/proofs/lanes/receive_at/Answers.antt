use Rattle.std.proofs.Common.{◌∙◌, ap, set, arith, length, ◌<◌, sym, subst}
use Rattle.zone_queues.specs.Queues.{Boxes, Queue, HasRoomFor, network_of, with_more}
use Rattle.zone_queues.proofs.NetworkLaws.{network-with_inbox, zones_network, inbox-network}
use Rattle.zone_queues.proofs.lanes.receive_at.Goals as goal

pub returns-clause-added : goal.returns-clause-added
returns-clause-added g c =
    let size = zones_network c.args.ports.now.items in
    let inside : c.args.to < length c.args.ports.now.items = omega (arith, c.requires.receiver) in
    ap (λ (b : Boxes _). network_of (set c.args.ports.now.items c.args.to b)) c.receive.ensures.added
    ∙ network-with_inbox c.args.ports.now.items c.args.to c.index_mut.result.now _ c.index_mut.ensures.value
    ∙ ap (λ (q : Queue _). record (network_of c.args.ports.now.items) { inboxes = set (network_of c.args.ports.now.items).inboxes c.args.to (with_more q c.args.batch.now.items) })
    (sym (inbox-network c.args.ports.now.items c.args.to c.index_mut.result.now inside c.index_mut.ensures.value))

pub receive-requires : goal.receive-requires
receive-requires g c =
    let size = zones_network c.args.ports.now.items in
    let inside : c.args.to < length c.args.ports.now.items = omega (arith, c.requires.receiver) in
    subst (λ (q : Queue _). HasRoomFor q c.args.batch.now.items)
    (inbox-network c.args.ports.now.items c.args.to c.index_mut.result.now inside c.index_mut.ensures.value) c.requires.room
