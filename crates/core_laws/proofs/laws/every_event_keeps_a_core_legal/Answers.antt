use Rattle.core_laws.proofs.kept.FirstState.{legal_first}
use Rattle.core_laws.proofs.kept.LegalKept.{legal_step}
use Rattle.core_laws.proofs.kept.LegalMoves.{legal_move, legal_leads}
use Rattle.core_laws.proofs.laws.every_event_keeps_a_core_legal.Goals as goal

pub returns-clause-first : goal.returns-clause-first
returns-clause-first c = λ s core session is. legal_first s core is session

pub returns-clause-step : goal.returns-clause-step
returns-clause-step c = λ s old new session st legal. legal_step s session old new legal st

pub returns-clause-moved : goal.returns-clause-moved
returns-clause-moved c = λ s old new m legal. legal_move s old new m legal

pub returns-clause-leads : goal.returns-clause-leads
returns-clause-leads c = legal_leads
