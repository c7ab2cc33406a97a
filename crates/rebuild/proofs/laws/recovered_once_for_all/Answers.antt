use Rattle.rebuild.proofs.AgainLaws.{closed_again, left_closed}
use Rattle.rebuild.proofs.laws.recovered_once_for_all.Goals as goal

pub returns-clause-closed : goal.returns-clause-closed
returns-clause-closed c = left_closed

pub returns-clause-again : goal.returns-clause-again
returns-clause-again c = closed_again
