use Rattle.slab_zone.specs.Viewed.{whole_of}
use Rattle.slab_zone.proofs.ShapeLaws.{shared_keeps}
use Rattle.slab_zone.proofs.zone.SlabZone.claim_share.Goals as goal

pub invariant_of-self : goal.invariant_of-self
invariant_of-self c = shared_keeps c.claim_share.result (whole_of c.self.inside) c.claim_share.new.self c.args.at c.self.invariant c.claim_share.ensures.shared c.claim_share.ensures.same
