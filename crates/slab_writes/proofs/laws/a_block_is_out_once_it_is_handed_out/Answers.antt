use Rattle.slab_writes.proofs.OutLaws.{due_is_out}
use Rattle.slab_writes.proofs.laws.a_block_is_out_once_it_is_handed_out.Goals as goal

pub returns : goal.returns
returns c = due_is_out
