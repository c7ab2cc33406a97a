use Rattle.rebuild.proofs.DifferLaws.{differ_alike, without_a_fault}
use Rattle.rebuild.proofs.laws.a_wrong_count_stays.Goals as goal

pub returns-clause-listed : goal.returns-clause-listed
returns-clause-listed c = differ_alike

pub returns-clause-recoverable : goal.returns-clause-recoverable
returns-clause-recoverable c = without_a_fault
