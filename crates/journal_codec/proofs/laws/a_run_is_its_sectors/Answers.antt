use Rattle.journal_codec.proofs.PrefixLaws.{run-joined, run_is_filled, run_of_sectors, run_holds}
use Rattle.journal_codec.proofs.laws.a_run_is_its_sectors.Goals as goal

pub returns-clause-order : goal.returns-clause-order
returns-clause-order c = run-joined

pub returns-clause-filled : goal.returns-clause-filled
returns-clause-filled c = run_is_filled

pub returns-clause-each : goal.returns-clause-each
returns-clause-each c = run_of_sectors

pub returns-clause-held : goal.returns-clause-held
returns-clause-held c = run_holds
