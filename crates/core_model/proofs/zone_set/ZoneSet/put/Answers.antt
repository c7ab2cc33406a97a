use Rattle.core_model.proofs.ZoneSetLaws.{puts_in}
use Rattle.core_model.proofs.zone_set.ZoneSet.put.Goals as goal

pub returns-then-inside : goal.returns-then-inside
returns-then-inside c = rw (← c.self.view_is, c.if-inside.true) (puts_in c.self.inside.bits c.args.number c.requires)
