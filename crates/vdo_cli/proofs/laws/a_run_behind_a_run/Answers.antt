use Rattle.vdo_cli.proofs.NextRuns.{begins_told, good_ready, script_good, workload_good}
use Rattle.vdo_cli.proofs.laws.a_run_behind_a_run.Goals as goal

pub returns : goal.returns
returns c = record {
  script = λ s course left before after outcome begin enough ends.
      good_ready s left before after outcome begin enough (script_good s left before after outcome begin enough course ends);
  workload = λ s options left before after outcome begin enough ends.
      good_ready s left before after outcome begin enough (workload_good s left before after outcome begin enough options ends);
  begins = begins_told;
}
