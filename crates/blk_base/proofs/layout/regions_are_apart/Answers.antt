use Rattle.blk_base.proofs.RegionLaws.{apart, inside, filled}
use Rattle.blk_base.proofs.layout.regions_are_apart.Goals as goal

pub returns-clause-apart : goal.returns-clause-apart
returns-clause-apart c = apart

pub returns-clause-inside : goal.returns-clause-inside
returns-clause-inside c = inside

pub returns-clause-filled : goal.returns-clause-filled
returns-clause-filled c = filled
