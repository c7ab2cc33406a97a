use Rattle.std.proofs.Common.{subst, sym}
use Rattle.zone_counts.specs.Zone.{IsClaimedIn}
use Rattle.slab_zone.specs.Viewed.{whole_of}
use Rattle.slab_zone.specs.Whole.{WholeZone}
use Rattle.slab_zone.proofs.ShapeLaws.{extended_keeps}
use Rattle.slab_zone.proofs.zone.SlabZone.extend.Goals as goal

pub invariant_of-self : goal.invariant_of-self
invariant_of-self c =
    let there = subst (λ (z : WholeZone). IsClaimedIn z.counts c.args.claim.now) (sym c.self.view_is) c.requires in
    extended_keeps c.extend.result (whole_of c.self.inside) c.extend.new.self c.args.claim.now c.self.invariant there c.extend.ensures.room c.extend.ensures.extended c.extend.ensures.same
