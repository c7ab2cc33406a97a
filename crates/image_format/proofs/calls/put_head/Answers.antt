use Rattle.std.proofs.Common.{ℕ, List, true, [], ◌∷◌, ap}
use Rattle.disk_model.specs.declared.call.Call.TheVariants.{Flush}
use Rattle.image_format.specs.Calls.{put}
use Rattle.image_format.proofs.RunLaws.{failed_as, failed_before, is_failed, made_as, then_made}
use Rattle.image_format.proofs.calls.put_head.Goals as goal

pub returns-in_err-put : goal.returns-in_err-put
returns-in_err-put g c =
    is_failed _ _ _ _ c.from_residual.result c.from_residual.ensures.0
    (failed_before _ _ _ _ (Flush true ∷ []) (failed_as _ _ _ _ _ (ap (λ (b : List ℕ). put 0 b ∷ []) c.write_super.ensures.spelled) c.in_err-put.ensures))

pub returns : goal.returns
returns g c = then_made _ _ _ _ _ _ c.flush.result (made_as _ _ _ _ _ (ap (λ (b : List ℕ). put 0 b ∷ []) c.write_super.ensures.spelled) c.in_ok-put.ensures) c.flush.ensures
