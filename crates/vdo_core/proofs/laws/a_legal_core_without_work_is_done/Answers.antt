use Rattle.vdo_core.proofs.RestLaws.{done_when_idle}
use Rattle.vdo_core.proofs.laws.a_legal_core_without_work_is_done.Goals as goal

pub returns : goal.returns
returns c = λ s core depth legal left idle. done_when_idle s core legal left idle depth
