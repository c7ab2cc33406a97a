use Rattle.std.proofs.Common.{◌∙◌, ap, sym}
use Rattle.data_vio.specs.Zones.{journal_number, device_number}
use Rattle.core_model.specs.declared.zones.ZoneData.TheVariants as at
use Rattle.vdo_core.proofs.StartLaws.{numbered}
use Rattle.vdo_core.proofs.start.add_last.Goals as goal

pub returns-clause-first : goal.returns-clause-first
returns-clause-first c s sizes each =
    let journal = numbered s _ c.journal_number.result (at.Journal c.in_ok-journal.journal) (c.journal_number.ensures ∙ ap journal_number (sym sizes)) (c.in_ok-journal.ensures s sizes) in
    let with_journal = c.in_ok-add.ensures.first s sizes journal each in
    let device = numbered s _ c.device_number.result (at.Device c.first-2.result) (c.device_number.ensures ∙ ap device_number (sym sizes)) (c.first-2.ensures s) in
    c.in_ok-add-2.ensures.first s sizes device with_journal
