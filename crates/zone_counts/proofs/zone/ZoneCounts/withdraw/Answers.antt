use Rattle.zone_counts.specs.Viewed.{zone_of}
use Rattle.zone_counts.proofs.ZoneLaws.{zone_withdrawn}
use Rattle.zone_counts.proofs.zone.ZoneCounts.withdraw.Goals as goal

pub invariant_of-self : goal.invariant_of-self
invariant_of-self c = record {
  is = zone_withdrawn (zone_of c.self.inside) c.withdraw.new.self c.args.ticket c.withdraw.result c.self.invariant.is c.withdraw.ensures;
  below = c.self.invariant.below;
}
