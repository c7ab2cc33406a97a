use Rattle.vdo_core.proofs.NoteLaws.{knows_work}
use Rattle.vdo_core.proofs.notes.WorkNotes.note_work.Goals as goal

pub returns-clause-work : goal.returns-clause-work
returns-clause-work c before now had stay known =
    knows_work c.args.count c.args.number c.args.sizes.now c.has_work.result c.args.zone.now before now c.args.self.now.works _ c.requires.there had
    (record { yes = c.has_work.ensures.yes; no = c.has_work.ensures.no }) c.put.ensures stay known
