use Rattle.index_advice.proofs.AdviceLaws.{joined, parted}
use Rattle.index_advice.proofs.laws.advice_joins.Goals as goal

pub returns-clause-joined : goal.returns-clause-joined
returns-clause-joined c = joined

pub returns-clause-parted : goal.returns-clause-parted
returns-clause-parted c = parted
