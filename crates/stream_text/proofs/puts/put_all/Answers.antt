use Rattle.std.proofs.Common.{[], map, ap}
use Rattle.std.specs.List.{concat}
use Rattle.std.proofs.lemmas.List.{drop_all}
use Rattle.std.proofs.lemmas.Result.{err_from_is_err_and}
use Rattle.stream_text.proofs.PutLaws.{but-all, but-failed, but-next, but-none, pieces-next}
use Rattle.stream_text.proofs.puts.put_all.Goals as goal

pub loop-piece-init : goal.loop-piece-init
loop-piece-init g c = but-all

pub loop-piece-preserved : goal.loop-piece-preserved
loop-piece-preserved g c =
    but-next (pieces-next (λ piece. piece.now) c.args.pieces.now c.loop-piece.piece-index (record { ref_ptr = (0, 0); now = [] }) c.loop-piece-test.true)
    c.loop-piece.invariant c.in_ok-put.ensures

pub returns-in_err-put : goal.returns-in_err-put
returns-in_err-put g c =
    but-failed _ (pieces-next (λ piece. piece.now) c.args.pieces.now c.loop-piece.piece-index (record { ref_ptr = (0, 0); now = [] }) c.loop-piece-test.true)
    (err_from_is_err_and c.from_residual.result c.from_residual.ensures.1).1 c.loop-piece.invariant c.in_err-put.ensures

pub returns : goal.returns
returns g c =
    but-none (ap (λ t. concat (map (λ piece. piece.now) t)) (drop_all c.loop-piece.piece-index c.args.pieces.now c.loop-piece-test.false))
    c.loop-piece.invariant
