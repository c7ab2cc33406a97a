use Rattle.dirty_pages.proofs.HistoryLaws.{has_point, not_clean, waits}
use Rattle.dirty_pages.proofs.laws.no_change_is_lost.Goals as goal

pub returns-clause-point : goal.returns-clause-point
returns-clause-point c = has_point

pub returns-clause-some : goal.returns-clause-some
returns-clause-some c = not_clean

pub returns-clause-waits : goal.returns-clause-waits
returns-clause-waits c = waits
