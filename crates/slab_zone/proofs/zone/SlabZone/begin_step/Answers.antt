use Rattle.std.proofs.Common.{subst, sym}
use Rattle.slab_tickets.specs.Tickets.{IsBelow}
use Rattle.zone_counts.specs.Operations.{Begins}
use Rattle.slab_zone.specs.Viewed.{whole_of}
use Rattle.slab_zone.specs.Whole.{WholeZone}
use Rattle.slab_zone.proofs.ShapeLaws.{call_keeps}
use Rattle.slab_zone.proofs.zone.SlabZone.begin_step.Goals as goal

pub invariant_of-self : goal.invariant_of-self
invariant_of-self c =
    let below = subst (λ (z : WholeZone). IsBelow z.counts.desk.step c.args.step) (sym c.self.view_is) c.requires in
    let did = c.begin_step.ensures in
    call_keeps (Begins did.0 c.args.step) (whole_of c.self.inside) c.begin_step.new.self c.self.invariant (below, did.1)
