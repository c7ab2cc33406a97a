use Rattle.std.proofs.Common.{◌++◌}
use Rattle.image_format.specs.Calls.{clear_calls, closing_calls, region_calls}
use Rattle.image_format.proofs.RunLaws.{failed_before, failed_on, is_failed, made_on, then_made}
use Rattle.image_format.proofs.calls.make.Goals as goal

pub returns-in_err-clear : goal.returns-in_err-clear
returns-in_err-clear g c =
    let sizes = c.args.layout.now.geometry in
    is_failed _ _ _ _ c.from_residual.result c.from_residual.ensures.0
    (failed_before _ _ _ clear_calls (closing_calls sizes 1 ++ region_calls sizes) c.in_err-clear.ensures)

pub returns-in_err-put_regions : goal.returns-in_err-put_regions
returns-in_err-put_regions g c =
    let sizes = c.args.layout.now.geometry in
    is_failed _ _ _ _ c.from_residual-in_err-put_regions.result c.from_residual-in_err-put_regions.ensures.0
    (failed_before _ _ _ (region_calls sizes ++ clear_calls) (closing_calls sizes 1)
    (failed_on _ _ _ _ clear_calls (region_calls sizes) c.in_ok-clear.ensures c.in_err-put_regions.ensures))

pub returns : goal.returns
returns g c =
    let sizes = c.args.layout.now.geometry in
    then_made _ _ _ _ (region_calls sizes ++ clear_calls) (closing_calls sizes 1) c.close.result
    (made_on _ _ _ _ clear_calls (region_calls sizes) c.in_ok-clear.ensures c.in_ok-put_regions.ensures) c.close.ensures
