use Rattle.std.proofs.Common.{◌≡◌}
use Rattle.stream_text.specs.Texts.{streams_text}
use Rattle.stream_text.proofs.PutLaws.{HasPut}
use Rattle.stream_text.proofs.answers.put_answers.Given as goal

abbrev pub invariant-loop-stream : goal.invariant-loop-stream
invariant-loop-stream g l = record {
  put : HasPut g.K.Sink.tells (streams_text l.requests l.report.desk l.report.places l.stream)
      (g.K.Sink.seen l.initial.out) (g.K.Sink.seen l.out);
  room : l.room ≡ l.initial.room;
}
