use Rattle.std.proofs.Common.{◌≡◌, length}
use Rattle.stream_text.specs.Workloads.{state_before, workload_of}
use Rattle.stream_text.proofs.random_requests.workload.Given as goal

abbrev pub invariant-loop-i : goal.invariant-loop-i
invariant-loop-i l = record {
  state : l.state ≡ state_before l.logical l.seed l.i;
  rows : l.rows ≡ workload_of l.seed l.streams l.logical l.i;
  sixteen : length l.rows ≡ 16;
}
