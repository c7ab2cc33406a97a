use Rattle.core_laws.proofs.kept.Rules.{has_begin, has_rule, has_lanes}
use Rattle.core_laws.proofs.laws.a_legal_core_goes_on.Goals as goal

pub returns-clause-rule : goal.returns-clause-rule
returns-clause-rule c = λ s core n z front rest session legal had. has_rule s session core legal n z had front rest

pub returns-clause-lanes : goal.returns-clause-lanes
returns-clause-lanes c = λ s core n z front rest new made posts session legal had. has_lanes s session core legal n z had front rest new made posts

pub returns-clause-begins : goal.returns-clause-begins
returns-clause-begins c = λ s core n z session legal had. has_begin s session core legal n z had
