use Rattle.core_laws.proofs.journal.SealLaws.{seals_all}
use Rattle.core_laws.proofs.laws.a_sealed_block_has_all_that_wait.Goals as goal

pub returns : goal.returns
returns c = seals_all
