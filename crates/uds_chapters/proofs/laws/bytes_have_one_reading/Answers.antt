use Rattle.uds_chapters.proofs.PageLaws.{one_head, one_list}
use Rattle.uds_chapters.proofs.FindLaws.{one_find}
use Rattle.uds_chapters.proofs.laws.bytes_have_one_reading.Goals as goal

pub returns-clause-heads : goal.returns-clause-heads
returns-clause-heads c = one_head

pub returns-clause-records : goal.returns-clause-records
returns-clause-records c = one_list

pub returns-clause-finds : goal.returns-clause-finds
returns-clause-finds c = one_find
