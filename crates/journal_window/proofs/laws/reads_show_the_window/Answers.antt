use Rattle.journal_window.proofs.ReadWindowLaws.{window_shown, fault_shown}
use Rattle.journal_window.proofs.laws.reads_show_the_window.Goals as goal

pub returns-clause-window : goal.returns-clause-window
returns-clause-window c = λ trust before now image head window told fair one room accepted read.
    window_shown trust before now image told fair one head room accepted window read

pub returns-clause-fault : goal.returns-clause-fault
returns-clause-fault c = λ trust before now image head why told fair one room accepted fails.
    fault_shown trust before now image told fair one head room accepted why fails
