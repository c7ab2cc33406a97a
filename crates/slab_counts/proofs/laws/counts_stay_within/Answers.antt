use Rattle.slab_counts.proofs.OperationLaws.{calls_within}
use Rattle.slab_counts.proofs.laws.counts_stay_within.Goals as goal

pub returns : goal.returns
returns c = calls_within
