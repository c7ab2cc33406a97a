use Rattle.zone_counts.specs.Operations.{Asks'}
use Rattle.slab_tickets.specs.Tickets.{HasRoom}
use Rattle.std.proofs.Common.{subst, sym}
use Rattle.slab_zone.specs.Viewed.{whole_of}
use Rattle.slab_zone.specs.Whole.{WholeZone}
use Rattle.slab_zone.proofs.ShapeLaws.{call_keeps}
use Rattle.slab_zone.proofs.zone.SlabZone.ask.Goals as goal

pub invariant_of-self : goal.invariant_of-self
invariant_of-self c =
    let room = subst (λ (z : WholeZone). HasRoom z.counts.desk) (sym c.self.view_is) c.requires.room in
    call_keeps (Asks' c.args.writer c.ask.result) (whole_of c.self.inside) c.ask.new.self c.self.invariant (room, c.ask.ensures)
