use Rattle.core_laws.proofs.kept.OneResult.{one_result}
use Rattle.core_laws.proofs.laws.an_act_has_one_result.Goals as goal

pub returns : goal.returns
returns c = one_result
