use Rattle.slab_counts.proofs.OperationLaws.{calls_claim, claims_exist}
use Rattle.slab_counts.proofs.laws.claims_are_those_that_exist.Goals as goal

pub returns-clause-balance : goal.returns-clause-balance
returns-clause-balance c = calls_claim

pub returns-clause-exist : goal.returns-clause-exist
returns-clause-exist c = claims_exist
