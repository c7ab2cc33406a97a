use Rattle.format_guards.proofs.GrowthFacts.{no_fewer_slabs}
use Rattle.format_guards.proofs.growth.an_image_keeps_its_slabs.Goals as goal

pub returns : goal.returns
returns g c = no_fewer_slabs _ _ _ _ _ c.grow.result c.grow.ensures
