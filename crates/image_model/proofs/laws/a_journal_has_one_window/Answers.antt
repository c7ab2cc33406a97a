use Rattle.image_model.proofs.WindowLaws.{one_window, one_fault, not_both}
use Rattle.image_model.proofs.laws.a_journal_has_one_window.Goals as goal

pub returns-clause-windows : goal.returns-clause-windows
returns-clause-windows c = one_window

pub returns-clause-faults : goal.returns-clause-faults
returns-clause-faults c = one_fault

pub returns-clause-apart : goal.returns-clause-apart
returns-clause-apart c = not_both
