use Rattle.std.proofs.Common.{◌∙◌, ap, set, subst, arith, length, ◌<◌, ◌∷◌, [], sym, List, get_or}
use Rattle.zone_queues.specs.Queues.{Boxes, Queue, HasRoom, empty, network_of, with_more, set_outbox}
use Rattle.zone_queues.proofs.NetworkLaws.{network-with_outbox, rows_network, row-network}
use Rattle.zone_queues.proofs.lanes.post_at.Goals as goal

pub returns : goal.returns
returns g c =
    let size = rows_network c.args.ports.now.items in
    let inside : c.args.from < length c.args.ports.now.items = omega (arith, c.requires.sender) in
    ap (λ (b : Boxes _). network_of (set c.args.ports.now.items c.args.from b)) c.post.ensures
    ∙ network-with_outbox c.args.ports.now.items c.args.from c.args.to c.index_mut.result.now _ inside c.index_mut.ensures.value
    ∙ ap (λ (row : List (Queue _)). record (network_of c.args.ports.now.items) {
      outboxes = set_outbox (network_of c.args.ports.now.items).outboxes c.args.from c.args.to (with_more (get_or row c.args.to (empty _ 0)) (c.args.item ∷ []));
    }) (sym (row-network c.args.ports.now.items c.args.from c.index_mut.result.now inside c.index_mut.ensures.value))

pub post-requires-clause-zone : goal.post-requires-clause-zone
post-requires-clause-zone g c =
    let size = rows_network c.args.ports.now.items in
    let inside : c.args.from < length c.args.ports.now.items = omega (arith, c.requires.sender) in
    let there : c.args.to < length c.index_mut.result.now.outboxes
    = omega (arith, c.requires.receiver, ap (λ (row : List (Queue _)). length row) (row-network c.args.ports.now.items c.args.from c.index_mut.result.now inside c.index_mut.ensures.value)) in
    there

pub post-requires-clause-room : goal.post-requires-clause-room
post-requires-clause-room g c =
    let size = rows_network c.args.ports.now.items in
    let inside : c.args.from < length c.args.ports.now.items = omega (arith, c.requires.sender) in
    subst (λ (row : List (Queue _)). HasRoom (get_or row c.args.to (empty _ 0))) (row-network c.args.ports.now.items c.args.from c.index_mut.result.now inside c.index_mut.ensures.value) c.requires.room
