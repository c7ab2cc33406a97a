use Rattle.reference_blocks.proofs.UpdateLaws.{says_exactly}
use Rattle.reference_blocks.proofs.laws.a_block_has_its_updates.Goals as goal

pub returns : goal.returns
returns c = says_exactly
