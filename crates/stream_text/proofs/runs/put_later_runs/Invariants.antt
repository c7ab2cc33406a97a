use Rattle.std.proofs.Common.{◌≤◌, ◌-◌, ◌++◌, length, drop}
use Rattle.stream_text.specs.Runs.{runs_of, later_text}
use Rattle.stream_text.proofs.PutLaws.{PutsBut}
use Rattle.stream_text.proofs.runs.put_later_runs.Given as goal

abbrev pub invariant-loop-at : goal.invariant-loop-at
invariant-loop-at g l = record {
  within : l.at ≤ length l.bytes;
  but : PutsBut g.K.Sink.tells (later_text (runs_of l.bytes)) (l.text.items ++ later_text (runs_of (drop l.at l.bytes)))
      (g.K.Sink.seen l.initial.out) (g.K.Sink.seen l.out);
}

abbrev pub decreases-loop-at : goal.decreases-loop-at
decreases-loop-at g l = length l.bytes - l.at
