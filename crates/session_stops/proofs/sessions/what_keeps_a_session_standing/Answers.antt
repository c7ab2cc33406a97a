use Rattle.session_stops.proofs.SessionSteps.{session_begins, session_ends, session_opens, session_rises}
use Rattle.session_stops.proofs.sessions.what_keeps_a_session_standing.Goals as goal

pub returns-clause-opens : goal.returns-clause-opens
returns-clause-opens c = session_opens

pub returns-clause-begins : goal.returns-clause-begins
returns-clause-begins c = session_begins

pub returns-clause-ends : goal.returns-clause-ends
returns-clause-ends c = session_ends

pub returns-clause-rises : goal.returns-clause-rises
returns-clause-rises c = session_rises
