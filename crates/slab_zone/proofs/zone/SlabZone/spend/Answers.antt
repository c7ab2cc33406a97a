use Rattle.slab_zone.specs.Viewed.{whole_of}
use Rattle.slab_zone.proofs.ShapeLaws.{same_keeps}
use Rattle.slab_zone.proofs.zone.SlabZone.spend.Goals as goal

pub invariant_of-self : goal.invariant_of-self
invariant_of-self c = same_keeps (whole_of c.self.inside) c.spend.new.self c.self.invariant c.spend.ensures.same
