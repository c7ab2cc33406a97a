use Rattle.vdo_cli.proofs.CompleteLaws.{run_complete, workload_complete}
use Rattle.vdo_cli.proofs.laws.a_run_without_faults_is_complete.Goals as goal

pub returns : goal.returns
returns c = record { script = run_complete; workload = workload_complete }
