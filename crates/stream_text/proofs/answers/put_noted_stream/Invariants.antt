use Rattle.std.proofs.Common.{reverse, drop}
use Rattle.stream_text.specs.Texts.{stream_text}
use Rattle.stream_text.proofs.PutLaws.{PutsBut}
use Rattle.stream_text.proofs.answers.put_noted_stream.Given as goal

abbrev pub invariant-loop-number : goal.invariant-loop-number
invariant-loop-number g l =
    PutsBut g.K.Sink.tells (stream_text (reverse l.desk) (reverse l.places) l.stream 0 l.requests)
    (stream_text (reverse l.desk) (reverse l.places) l.stream l.number (drop l.number l.requests))
    (g.K.Sink.seen l.initial.out) (g.K.Sink.seen l.out)
