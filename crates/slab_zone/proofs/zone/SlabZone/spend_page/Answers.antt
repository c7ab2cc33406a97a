use Rattle.std.proofs.Common.{subst, sym}
use Rattle.zone_counts.specs.Operations.{SpendsPage}
use Rattle.zone_counts.specs.Zone.{IsClaimedIn}
use Rattle.slab_zone.specs.Viewed.{whole_of}
use Rattle.slab_zone.specs.Whole.{WholeZone}
use Rattle.slab_zone.proofs.ShapeLaws.{call_keeps}
use Rattle.slab_zone.proofs.zone.SlabZone.spend_page.Goals as goal

pub invariant_of-self : goal.invariant_of-self
invariant_of-self c =
    let there = subst (λ (z : WholeZone). IsClaimedIn z.counts c.args.claim) (sym c.self.view_is) c.requires in
    call_keeps (SpendsPage c.args.claim) (whole_of c.self.inside) c.spend_page.new.self c.self.invariant (there, c.spend_page.ensures.page)
