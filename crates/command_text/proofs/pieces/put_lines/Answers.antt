use Rattle.std.proofs.Common.{map, ap}
use Rattle.std.specs.List.{concat}
use Rattle.std.proofs.lemmas.List.{drop_all}
use Rattle.std.proofs.lemmas.Result.{err_from_is_err_and}
use Rattle.stream_text.proofs.PutLaws.{but-all, but-failed, but-next, but-none}
use Rattle.command_text.proofs.LineLaws.{lines-next}
use Rattle.command_text.proofs.pieces.put_lines.Goals as goal

pub loop-line-init : goal.loop-line-init
loop-line-init g c = but-all

pub loop-line-preserved : goal.loop-line-preserved
loop-line-preserved g c =
    but-next (lines-next g.L.Line.text c.args.lines.now c.loop-line.line-index c.line-item.result c.loop-line-test.true c.line-item.is)
    c.loop-line.invariant c.in_ok-put_to.ensures

pub returns-in_err-put_to : goal.returns-in_err-put_to
returns-in_err-put_to g c =
    but-failed _ (lines-next g.L.Line.text c.args.lines.now c.loop-line.line-index c.line-item.result c.loop-line-test.true c.line-item.is)
    (err_from_is_err_and c.from_residual.result c.from_residual.ensures.1).1 c.loop-line.invariant c.in_err-put_to.ensures

pub returns : goal.returns
returns g c =
    but-none (ap (λ t. concat (map g.L.Line.text t)) (drop_all c.loop-line.line-index c.args.lines.now c.loop-line-test.false)) c.loop-line.invariant
