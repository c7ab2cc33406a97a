use Rattle.core_laws.proofs.trace.SuperblockOfTrace.{writes_no_other}
use Rattle.core_laws.proofs.laws.a_legal_core_writes_its_superblock_first.Goals as goal

pub returns : goal.returns
returns c = λ s core legal. writes_no_other s core.trace legal.right
