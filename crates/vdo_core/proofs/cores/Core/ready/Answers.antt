use Rattle.vdo_core.proofs.SessionLaws.{few_zones}
use Rattle.vdo_core.proofs.cores.Core.ready.Goals as goal

pub ready-requires-clause-few : goal.ready-requires-clause-few
ready-requires-clause-few c = few_zones c.self.inside.sizes c.self.inside.zones c.self.invariant.whole.reached

pub returns-clause-yes : goal.returns-clause-yes
returns-clause-yes c some = rw (← c.self.view_is) (c.ready.ensures.yes some)

pub returns-clause-no : goal.returns-clause-no
returns-clause-no c none = rw (← c.self.view_is) (c.ready.ensures.no none)
