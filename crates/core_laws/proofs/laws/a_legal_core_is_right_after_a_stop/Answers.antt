use Rattle.core_laws.proofs.trace.MarksOfTrace.{marks_right}
use Rattle.core_laws.proofs.trace.ReportOfTrace.{report_stops_right}
use Rattle.core_laws.proofs.laws.a_legal_core_is_right_after_a_stop.Goals as goal

pub returns-clause-marked : goal.returns-clause-marked
returns-clause-marked c = λ s core session legal. marks_right s core.trace session legal.right

pub returns-clause-stops : goal.returns-clause-stops
returns-clause-stops c = λ s core session legal. report_stops_right s core.trace session legal.right
