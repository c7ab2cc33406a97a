use Rattle.std.proofs.Common.{drop, map}
use Rattle.std.specs.List.{concat}
use Rattle.stream_text.proofs.PutLaws.{PutsBut}
use Rattle.command_text.proofs.pieces.put_lines.Given as goal

abbrev pub invariant-loop-line : goal.invariant-loop-line
invariant-loop-line g l =
    PutsBut g.K.Sink.tells (concat (map g.L.Line.text l.lines)) (concat (map g.L.Line.text (drop l.line-index l.lines)))
    (g.K.Sink.seen l.initial.out) (g.K.Sink.seen l.out)
