use Rattle.core_reports.proofs.ListingLaws.{one_zone_listed}
use Rattle.core_reports.proofs.lists.list_places.Goals as goal

pub loop-zone-preserved : goal.loop-zone-preserved
loop-zone-preserved c empty few =
    let before = c.loop-zone.invariant empty few in
    one_zone_listed c.args.zones.now c.loop-zone.zone-index c.zone-item.result c.drawn.result.now c.loop-zone.places c.add_places.new.places
    c.loop-zone-test.true c.zone-item.is c.drawn.ensures c.add_places.ensures few before
