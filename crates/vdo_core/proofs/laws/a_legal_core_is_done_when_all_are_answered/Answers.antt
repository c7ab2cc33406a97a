use Rattle.vdo_core.proofs.DoneLaws.{answered_when_done, done_when_answered}
use Rattle.vdo_core.proofs.laws.a_legal_core_is_done_when_all_are_answered.Goals as goal

pub returns : goal.returns
returns c = λ s core legal. (answered_when_done s core legal, done_when_answered s core legal)
