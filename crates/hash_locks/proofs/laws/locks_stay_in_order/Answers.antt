use Rattle.hash_locks.proofs.OperationLaws.{calls_keep}
use Rattle.hash_locks.proofs.laws.locks_stay_in_order.Goals as goal

pub returns-clause-calls : goal.returns-clause-calls
returns-clause-calls g c bytes_of old new calls order lead = calls_keep bytes_of old new calls order lead
