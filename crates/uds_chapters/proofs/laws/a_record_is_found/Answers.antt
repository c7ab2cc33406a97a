use Rattle.uds_chapters.proofs.RecordLaws.{own_location, other_location, rising-with_record}
use Rattle.uds_chapters.proofs.laws.a_record_is_found.Goals as goal

pub returns-clause-own : goal.returns-clause-own
returns-clause-own c = own_location

pub returns-clause-others : goal.returns-clause-others
returns-clause-others c = λ new name records apart. other_location new name records apart

pub returns-clause-rising : goal.returns-clause-rising
returns-clause-rising c = rising-with_record
