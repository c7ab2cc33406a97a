use Rattle.slab_writes.proofs.OutLaws.{due_or_none}
use Rattle.slab_writes.proofs.laws.a_block_is_due_or_none_is.Goals as goal

pub returns : goal.returns
returns c = due_or_none
