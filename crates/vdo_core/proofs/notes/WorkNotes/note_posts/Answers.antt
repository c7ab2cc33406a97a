use Rattle.vdo_core.proofs.NoteLaws.{knows_posts}
use Rattle.core_model.proofs.ZoneSetLaws.{empty_where}
use Rattle.vdo_core.proofs.notes.WorkNotes.note_posts.Goals as goal

pub returns-clause-posts : goal.returns-clause-posts
returns-clause-posts c before now had stay known =
    knows_posts c.args.count c.args.number c.receivers_of-receivers.result _ c.args.zone.now before now c.args.self.now.posted c.args.self.now.senders _ c.requires.there c.requires.few had
    c.receivers_of-receivers.ensures (empty_where _ _ c.is_empty.ensures) c.put.ensures stay known
