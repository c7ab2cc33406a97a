use Rattle.crash_images.proofs.ValueLaws.{nothing_right}
use Rattle.crash_images.proofs.values.read_mapping.Goals as goal

pub read_slot-requires-clause-leaf : goal.read_slot-requires-clause-leaf
read_slot-requires-clause-leaf g c = rw c.in-Some.is at c.requires.leaf

pub returns-in-None-clause-mapping : goal.returns-in-None-clause-mapping
returns-in-None-clause-mapping g c = nothing_right _ _ c.args.found.now c.requires.fits c.args.at.0 (rw c.in-None.is at c.requires.leaf)
