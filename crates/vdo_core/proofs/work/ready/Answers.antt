use Rattle.vdo_core.proofs.MoveLaws.{moves_something}
use Rattle.vdo_core.proofs.work.ready.Goals as goal

pub returns-in-Step-clause-yes : goal.returns-in-Step-clause-yes
returns-in-Step-clause-yes c some = rw c.in-Step.is (c.has_work.ensures.yes some)

pub returns-in-Step-clause-no : goal.returns-in-Step-clause-no
returns-in-Step-clause-no c none = rw c.in-Step.is (c.has_work.ensures.no none)

pub returns-in-Move-clause-yes : goal.returns-in-Move-clause-yes
returns-in-Move-clause-yes c some = rw c.in-Move.is (moves_something c.args.zones.now c.in-Move.from c.in-Move.to (c.can_move.ensures.yes some))

pub returns-in-Move-clause-no : goal.returns-in-Move-clause-no
returns-in-Move-clause-no c none = rw c.in-Move.is (c.can_move.ensures.no none)
