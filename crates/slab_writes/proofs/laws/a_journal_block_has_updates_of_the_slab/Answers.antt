use Rattle.slab_writes.proofs.OperationLaws.{block_taken}
use Rattle.slab_writes.proofs.laws.a_journal_block_has_updates_of_the_slab.Goals as goal

pub returns : goal.returns
returns c = block_taken
