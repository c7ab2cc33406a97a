use Rattle.std.proofs.Common.{drop, map}
use Rattle.std.specs.List.{concat}
use Rattle.stream_text.proofs.PutLaws.{PutsBut}
use Rattle.stream_text.proofs.puts.put_all.Given as goal

abbrev pub invariant-loop-piece : goal.invariant-loop-piece
invariant-loop-piece g l =
    PutsBut g.K.Sink.tells (concat (map (λ piece. piece.now) l.pieces)) (concat (map (λ piece. piece.now) (drop l.piece-index l.pieces)))
    (g.K.Sink.seen l.initial.out) (g.K.Sink.seen l.out)
