use Rattle.std.proofs.Common.{true, [], ◌∷◌}
use Rattle.disk_model.specs.declared.call.Call.TheVariants.{Flush}
use Rattle.image_format.specs.Calls.{super_calls}
use Rattle.image_format.proofs.RunLaws.{failed_before, is_failed, then_made}
use Rattle.image_format.proofs.calls.close.Goals as goal

pub returns-in_err-flush : goal.returns-in_err-flush
returns-in_err-flush g c =
    is_failed _ _ _ _ c.from_residual.result c.from_residual.ensures.0
    (failed_before _ _ _ (Flush true ∷ []) (super_calls c.args.sizes.now c.args.start) c.in_err-flush.ensures)

pub returns : goal.returns
returns g c =
    then_made _ _ _ _ (Flush true ∷ []) (super_calls c.args.sizes.now c.args.start) c.put_head.result c.in_ok-flush.ensures c.put_head.ensures
