use Rattle.vdo_cli.proofs.NextRuns.{good_runnable, script_good, workload_good}
use Rattle.vdo_cli.proofs.laws.what_a_run_leaves_can_be_run.Goals as goal

pub returns : goal.returns
returns c = record {
  script = λ s course left before after outcome begin enough ends.
      good_runnable s left before after outcome begin enough (script_good s left before after outcome begin enough course ends);
  workload = λ s options left before after outcome begin enough ends.
      good_runnable s left before after outcome begin enough (workload_good s left before after outcome begin enough options ends);
}
