use Rattle.vdo_core.proofs.StepLaws.{can_step}
use Rattle.vdo_core.proofs.laws.a_legal_core_can_step.Goals as goal

pub returns : goal.returns
returns c = can_step
