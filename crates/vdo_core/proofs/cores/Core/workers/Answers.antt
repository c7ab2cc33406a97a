use Rattle.vdo_core.proofs.NoteLaws.{known_workers}
use Rattle.vdo_core.proofs.cores.Core.workers.Goals as goal

pub returns : goal.returns
returns c = rw (← c.self.view_is) (known_workers c.self.inside.sizes c.self.inside.zones c.self.inside.notes.works c.self.invariant.known.work)
