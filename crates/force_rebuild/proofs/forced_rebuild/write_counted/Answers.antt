use Rattle.std.proofs.Common.{true, [], ◌∷◌}
use Rattle.disk_model.specs.declared.call.Call.TheVariants.{Flush}
use Rattle.image_format.specs.Calls.{put}
use Rattle.image_format.proofs.RunLaws.{failed_before, is_failed, then_made}
use Rattle.image_layout.specs.Superblock.{super_block}
use Rattle.recovery_laws.specs.Kept.{recovered_super}
use Rattle.force_rebuild.specs.Calls.{slabs_below}
use Rattle.force_rebuild.specs.Written.{commit_behind}
use Rattle.force_rebuild.proofs.forced_rebuild.write_counted.Goals as goal

pub returns-in_err-put_slabs : goal.returns-in_err-put_slabs
returns-in_err-put_slabs g c =
    let sizes = c.args.layout.now.geometry in
    is_failed _ _ _ _ c.from_residual.result c.from_residual.ensures.0
    (failed_before _ _ _ (slabs_below sizes (commit_behind c.args.last) c.args.counters.now sizes.slabs)
    (Flush true ∷ put 0 (super_block (recovered_super sizes c.args.last)) ∷ Flush true ∷ []) c.in_err-put_slabs.ensures)

pub returns : goal.returns
returns g c =
    let sizes = c.args.layout.now.geometry in
    then_made _ _ _ _ (slabs_below sizes (commit_behind c.args.last) c.args.counters.now sizes.slabs)
    (Flush true ∷ put 0 (super_block (recovered_super sizes c.args.last)) ∷ Flush true ∷ []) c.close.result c.in_ok-put_slabs.ensures c.close.ensures
