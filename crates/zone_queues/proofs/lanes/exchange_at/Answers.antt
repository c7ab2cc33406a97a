use Rattle.std.proofs.Common.{◌∙◌, ap, sym, set, get_or, arith, length, List, ◌<◌}
use Rattle.zone_queues.specs.Queues.{Boxes, Queue, empty, network_of}
use Rattle.zone_queues.proofs.NetworkLaws.{network-with_outbox, rows_network, row-network}
use Rattle.zone_queues.proofs.lanes.exchange_at.Goals as goal

pub returns-clause-kept : goal.returns-clause-kept
returns-clause-kept g c =
    let size = rows_network c.args.ports.now.items in
    let inside : c.args.from < length c.args.ports.now.items = omega (arith, c.requires.sender) in
    ap (λ (b : Boxes _). network_of (set c.args.ports.now.items c.args.from b)) c.exchange.ensures.kept
    ∙ network-with_outbox c.args.ports.now.items c.args.from c.args.to c.index_mut.result.now c.args.lane inside c.index_mut.ensures.value

pub exchange-requires : goal.exchange-requires
exchange-requires g c =
    let size = rows_network c.args.ports.now.items in
    let inside : c.args.from < length c.args.ports.now.items = omega (arith, c.requires.sender) in
    let there : c.args.to < length c.index_mut.result.now.outboxes
    = omega (arith, c.requires.receiver, ap (λ (row : List (Queue _)). length row) (row-network c.args.ports.now.items c.args.from c.index_mut.result.now inside c.index_mut.ensures.value)) in
    there

pub returns-clause-out : goal.returns-clause-out
returns-clause-out g c =
    let size = rows_network c.args.ports.now.items in
    let inside : c.args.from < length c.args.ports.now.items = omega (arith, c.requires.sender) in
    c.exchange.ensures.out ∙ ap (λ (row : List (Queue _)). get_or row c.args.to (empty _ 0)) (sym (row-network c.args.ports.now.items c.args.from c.index_mut.result.now inside c.index_mut.ensures.value))
