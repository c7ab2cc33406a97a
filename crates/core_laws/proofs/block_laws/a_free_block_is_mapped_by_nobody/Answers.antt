use Rattle.core_laws.proofs.kept.FreeBlocks.{claimed_unused, free_unused}
use Rattle.core_laws.proofs.block_laws.a_free_block_is_mapped_by_nobody.Goals as goal

pub returns-clause-free : goal.returns-clause-free
returns-clause-free c = λ s core x session legal fair is_data free. free_unused s core legal x session fair is_data free

pub returns-clause-alone : goal.returns-clause-alone
returns-clause-alone c = λ s core x n z v session legal fair had has claim free. claimed_unused s core legal x n z v had has claim session fair free
