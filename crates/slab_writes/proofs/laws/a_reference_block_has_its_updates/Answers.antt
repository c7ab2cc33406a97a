use Rattle.slab_writes.proofs.OperationLaws.{reference_says}
use Rattle.slab_writes.proofs.laws.a_reference_block_has_its_updates.Goals as goal

pub returns : goal.returns
returns c = reference_says
