use Rattle.core_model.proofs.ZoneSetLaws.{below_inside, below_past}
use Rattle.core_model.proofs.zone_set.ZoneSet.below.Goals as goal

pub returns-clause-inside : goal.returns-clause-inside
returns-clause-inside c n inside = rw (← c.self.view_is) (below_inside c.self.inside.bits c.args.end n c.requires inside)

pub returns-clause-past : goal.returns-clause-past
returns-clause-past c = below_past c.self.inside.bits c.args.end c.requires
