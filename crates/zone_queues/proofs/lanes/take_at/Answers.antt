use Rattle.std.proofs.Common.{arith, length, ◌<◌}
use Rattle.zone_queues.proofs.NetworkLaws.{takes_at, zones_network}
use Rattle.zone_queues.proofs.lanes.take_at.Goals as goal

pub returns-clause-some : goal.returns-clause-some
returns-clause-some g c =
    let size = zones_network c.args.ports.now.items in
    let inside : c.args.zone < length c.args.ports.now.items = omega (arith, c.requires) in
    takes_at c.args.ports.now.items c.args.zone c.index_mut.result.now c.take.new.self c.take.result inside c.index_mut.ensures.value c.take.ensures.some
