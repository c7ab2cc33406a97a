use Rattle.std.proofs.Common.{arith}
use Rattle.slab_zone.specs.Viewed.{whole_of}
use Rattle.slab_zone.proofs.KeptLaws.{due_keeps}
use Rattle.slab_zone.proofs.zone.SlabZone.due.Goals as goal

pub first_due-requires : goal.first_due-requires
first_due-requires c = omega (arith, c.self.invariant.writes.many)

pub invariant_of-self : goal.invariant_of-self
invariant_of-self c =
    due_keeps (whole_of c.self.inside) c.first_due.new.writes.items c.args.need c.first_due.new.into c.first_due.result c.self.invariant c.first_due.ensures.some c.first_due.ensures.same
