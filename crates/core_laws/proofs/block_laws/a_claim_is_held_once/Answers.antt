use Rattle.core_laws.proofs.kept.FreeBlocks.{claim_counted}
use Rattle.core_laws.proofs.kept.SoleWriter.{claim_once}
use Rattle.core_laws.proofs.block_laws.a_claim_is_held_once.Goals as goal

pub returns-clause-counted : goal.returns-clause-counted
returns-clause-counted c = λ s core x n m z y v p legal had has claim there keeps here. claim_counted s core legal x n z v had has claim m y p there keeps here

pub returns-clause-once : goal.returns-clause-once
returns-clause-once c = λ s core x legal. claim_once s core legal x
