use Rattle.slab_counts.proofs.OperationLaws.{calls_count}
use Rattle.slab_counts.proofs.laws.counters_have_the_updates.Goals as goal

pub returns : goal.returns
returns c = calls_count
