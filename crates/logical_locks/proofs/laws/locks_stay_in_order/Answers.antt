use Rattle.logical_locks.proofs.OperationLaws.{calls_keep}
use Rattle.logical_locks.proofs.laws.locks_stay_in_order.Goals as goal

pub returns-clause-calls : goal.returns-clause-calls
returns-clause-calls g c old new calls order lead = calls_keep old new calls order lead
