use Rattle.std.proofs.Common.{arith}
use Rattle.recovery_journal.proofs.RingLaws.{apart_by_ring, needed_apart}
use Rattle.recovery_journal.proofs.laws.no_needed_block_is_overwritten.Goals as goal

pub returns-clause-own : goal.returns-clause-own
returns-clause-own c = λ size sequence head needed ring from below same. omega (arith, apart_by_ring size needed sequence below same)

pub returns-clause-next : goal.returns-clause-next
returns-clause-next c = needed_apart
