use Rattle.core_laws.proofs.trace.AbortsOfTrace.{all_held_back, log_stops, stops_at_failure}
use Rattle.core_laws.proofs.laws.a_legal_core_stops_at_a_failure.Goals as goal

pub returns-clause-happened : goal.returns-clause-happened
returns-clause-happened c = λ s core legal. stops_at_failure s core.trace legal.right

pub returns-clause-logged : goal.returns-clause-logged
returns-clause-logged c = λ s core newer older call legal is writes. log_stops s core.trace newer older call legal.right is writes

pub returns-clause-aborted : goal.returns-clause-aborted
returns-clause-aborted c = λ s core legal. all_held_back s core.trace legal.right
