use Rattle.vdo_core.proofs.NoteLaws.{known_senders}
use Rattle.vdo_core.proofs.cores.Core.senders.Goals as goal

pub returns : goal.returns
returns c = rw (← c.self.view_is) (known_senders c.self.inside.zones c.self.inside.notes.posted c.self.inside.notes.senders c.self.invariant.known.posts)
