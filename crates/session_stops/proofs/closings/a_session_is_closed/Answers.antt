use Rattle.session_stops.proofs.CloseLaws.{closed_one, session_closed, session_closing, session_unflushed}
use Rattle.session_stops.proofs.FullLaws.{image_is_full}
use Rattle.session_stops.proofs.closings.a_session_is_closed.Goals as goal

pub returns-clause-full : goal.returns-clause-full
returns-clause-full c = λ base to opening log blocks all image is. image_is_full base to opening log blocks all image is

pub returns-clause-writing : goal.returns-clause-writing
returns-clause-writing c = λ base to opening log blocks. session_closing opening log base to blocks

pub returns-clause-unflushed : goal.returns-clause-unflushed
returns-clause-unflushed c = λ base to opening log blocks. session_unflushed opening log base to blocks

pub returns-clause-closed : goal.returns-clause-closed
returns-clause-closed c = λ base to opening log blocks. session_closed opening log base to blocks

pub returns-clause-one : goal.returns-clause-one
returns-clause-one c = λ base to opening log blocks image some looked one. (_, closed_one looked opening log base to blocks image some one)
