use Rattle.std.proofs.Common.{◌≡◌, ◌≤◌, Some, arith, length, slice_get, ℕ, subst, sym}
use Rattle.std.proofs.lemmas.Grind.{common_steps}
use Rattle.std.proofs.lemmas.Option.{gets}
use Rattle.vdo_core.specs.Notes.{KnowsWork}
use Rattle.vdo_core.proofs.NoteLaws.{work_still}
use Rattle.vdo_core.proofs.notes.WorkNotes.follow_work.Goals as goal

pub note_work-requires-clause-can : goal.note_work-requires-clause-can
note_work-requires-clause-can c =
    let had : slice_get c.args.zones.now c.args.number ≡ Some c.in-Some.zone.now = grind (arith, common_steps, gets) in
    (c.requires.can c.args.number c.in-Some.zone.now had).begins

pub returns-in-Some-clause-work : goal.returns-in-Some-clause-work
returns-in-Some-clause-work c before stay known =
    let had : slice_get c.args.zones.now c.args.number ≡ Some c.in-Some.zone.now = grind (arith, common_steps, gets) in
    let count : c.len.result ≡ length c.args.zones.now = grind (arith, common_steps) in
    let zones = c.args.zones.now in
    subst (λ (k : ℕ). KnowsWork k c.args.sizes.now c.note_work.new.self.works zones) count
    (c.note_work.ensures.work before zones had stay (subst (λ (k : ℕ). KnowsWork k c.args.sizes.now c.args.self.now.works before) (sym count) known))

pub returns-in-None-clause-work : goal.returns-in-None-clause-work
returns-in-None-clause-work c before stay known =
    let past : length c.args.zones.now ≤ c.args.number = grind (arith, common_steps, gets) in
    work_still (length c.args.zones.now) c.args.number c.args.sizes.now before c.args.zones.now c.args.self.now.works past stay known
