use Rattle.zone_counts.specs.Viewed.{zone_of}
use Rattle.zone_counts.proofs.ZoneLaws.{zone_claimed}
use Rattle.zone_counts.proofs.zone.ZoneCounts.ask.Goals as goal

pub invariant_of-self : goal.invariant_of-self
invariant_of-self c = record {
  is = zone_claimed (zone_of c.self.inside) c.claim_lowest.new.slabs.items c.in-Some.claim c.self.invariant.is c.in-Some.ensures.some;
  below = c.claim_lowest.ensures.below;
}
