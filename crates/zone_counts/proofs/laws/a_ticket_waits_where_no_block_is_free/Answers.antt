use Rattle.zone_counts.proofs.BlockLaws.{none_free, none_free_there}
use Rattle.zone_counts.proofs.laws.a_ticket_waits_where_no_block_is_free.Goals as goal

pub returns-clause-slabs : goal.returns-clause-slabs
returns-clause-slabs c = none_free

pub returns-clause-blocks : goal.returns-clause-blocks
returns-clause-blocks c = none_free_there
