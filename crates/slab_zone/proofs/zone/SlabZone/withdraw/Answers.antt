use Rattle.zone_counts.specs.Operations.{Withdraws'}
use Rattle.slab_zone.specs.Viewed.{whole_of}
use Rattle.slab_zone.proofs.ShapeLaws.{call_keeps}
use Rattle.slab_zone.proofs.zone.SlabZone.withdraw.Goals as goal

pub invariant_of-self : goal.invariant_of-self
invariant_of-self c = call_keeps (Withdraws' c.args.ticket c.withdraw.result) (whole_of c.self.inside) c.withdraw.new.self c.self.invariant c.withdraw.ensures
