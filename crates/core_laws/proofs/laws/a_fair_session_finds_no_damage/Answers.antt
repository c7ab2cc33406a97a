use Rattle.core_laws.proofs.trace.DamageOfTrace.{damaged_found, fair_undamaged}
use Rattle.core_laws.proofs.laws.a_fair_session_finds_no_damage.Goals as goal

pub returns-clause-found : goal.returns-clause-found
returns-clause-found c = λ s core w r legal. damaged_found s core.trace w r legal.right

pub returns-clause-none : goal.returns-clause-none
returns-clause-none c = λ s core session legal. fair_undamaged s core.trace session legal.right
