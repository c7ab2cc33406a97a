use Rattle.std.proofs.Common.{◌∷◌, sym, subst}
use Rattle.data_vio.specs.declared.logged.Logged.{Logged}
use Rattle.core_reports.specs.Found.{AreEntered}
use Rattle.core_reports.proofs.EnteredLaws.{entered_more}
use Rattle.core_reports.proofs.entered.note_entry.Goals as goal

pub returns-in-Remaps : goal.returns-in-Remaps
returns-in-Remaps c older room are =
    subst (λ (logged : Logged). AreEntered (logged ∷ older) room c.note_writer.new.entered) (sym c.in-Remaps.is)
    (entered_more c.in-Remaps.remapping older room c.args.entered.now c.note_writer.new.entered are c.note_writer.ensures)
