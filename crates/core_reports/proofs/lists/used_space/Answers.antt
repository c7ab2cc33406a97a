use Rattle.core_reports.proofs.ListingLaws.{one_zone_used}
use Rattle.core_reports.proofs.lists.used_space.Goals as goal

pub loop-zone-preserved : goal.loop-zone-preserved
loop-zone-preserved c few =
    one_zone_used c.args.zones.now c.loop-zone.zone-index c.zone-item.result c.used_blocks.result c.loop-zone.used _
    c.loop-zone-test.true c.zone-item.is c.used_blocks.ensures c.saturating_add-used.ensures few (c.loop-zone.invariant few)
