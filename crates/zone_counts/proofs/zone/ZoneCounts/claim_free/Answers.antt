use Rattle.std.specs.Prelude.{◌≡◌, IfSome, IfNone, List, Option, None, Some}
use Rattle.std.proofs.Common.{sym, subst}
use Rattle.blk_base.specs.declared.place.Pbn.{Pbn}
use Rattle.slab_counts.specs.Counts.{Counts}
use Rattle.zone_counts.specs.Viewed.{zone_of}
use Rattle.zone_counts.specs.Zone.{Zone, IsZone, ClaimsLowest}
use Rattle.zone_counts.proofs.ZoneLaws.{zone_claimed}
use Rattle.zone_counts.proofs.zone.ZoneCounts.claim_free.Goals as goal

still_zone : (z : Zone) (slabs : List Counts) (result : Option Pbn) → IsZone z → IfSome result (ClaimsLowest z.slabs slabs) → IfNone result (slabs ≡ z.slabs) → IsZone (record z { slabs = slabs })
still_zone z slabs (Some block) is claims same = zone_claimed z slabs block is claims
still_zone z slabs None is claims same = subst (λ (xs : List Counts). IsZone (record z { slabs = xs })) (sym same) is

pub invariant_of-self : goal.invariant_of-self
invariant_of-self c = record {
  is = still_zone (zone_of c.self.inside) c.claim_lowest.new.slabs.items c.claim_lowest.result c.self.invariant.is c.claim_lowest.ensures.some c.claim_lowest.ensures.same;
  below = c.claim_lowest.ensures.below;
}
