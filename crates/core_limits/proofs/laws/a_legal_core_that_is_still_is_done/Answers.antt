use Rattle.core_limits.proofs.Stillness.{all_answered}
use Rattle.core_limits.proofs.laws.a_legal_core_that_is_still_is_done.Goals as goal

pub returns : goal.returns
returns c = λ s core depth legal still. all_answered s core legal still depth
