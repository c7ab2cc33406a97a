use Rattle.core_stops.proofs.EndLaws.{exact}
use Rattle.core_stops.proofs.EndOfTrace.{session_ends}
use Rattle.core_stops.proofs.ends.an_end_is_more_than_a_stop.Goals as goal

pub returns-clause-session : goal.returns-clause-session
returns-clause-session c = λ s core to session legal. session_ends s core.trace to session legal.right

pub returns-clause-exact : goal.returns-clause-exact
returns-clause-exact c = exact
