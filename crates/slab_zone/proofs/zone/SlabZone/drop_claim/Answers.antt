use Rattle.std.proofs.Common.{subst, sym}
use Rattle.zone_counts.specs.Operations.{Drops}
use Rattle.zone_counts.specs.Zone.{IsClaimedIn}
use Rattle.slab_zone.specs.Viewed.{whole_of}
use Rattle.slab_zone.specs.Whole.{WholeZone}
use Rattle.slab_zone.proofs.ShapeLaws.{call_keeps}
use Rattle.slab_zone.proofs.zone.SlabZone.drop_claim.Goals as goal

pub invariant_of-self : goal.invariant_of-self
invariant_of-self c =
    let there = subst (λ (z : WholeZone). IsClaimedIn z.counts c.args.claim) (sym c.self.view_is) c.requires in
    call_keeps (Drops c.args.claim) (whole_of c.self.inside) c.drop_claim.new.self c.self.invariant (there, c.drop_claim.ensures)
