use Rattle.vdo_core.proofs.StepLaws.{view_can_step}
use Rattle.vdo_core.proofs.laws.a_view_can_step_as_its_zone.Goals as goal

pub returns : goal.returns
returns c = view_can_step
