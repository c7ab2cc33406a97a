use Rattle.std.proofs.Common.{Err, Ok, arith, subst}
use Rattle.blk_base.specs.declared.geometry.Super.{Super}
use Rattle.force_rebuild.proofs.ForceLaws.{head_failed, refused_as, was_forced, was_refused}
use Rattle.force_rebuild.specs.ForcedRebuild.{ForcesUnclosed}
use Rattle.force_rebuild.proofs.forced_rebuild.force.Goals as goal

pub returns-in_err-head : goal.returns-in_err-head
returns-in_err-head g c =
    refused_as _ _ _ _ c.from_residual.result c.from_residual.ensures.1
    (head_failed _ _ _ c.in_err-head.field-0.0 (g.met.D.Disk.told c.args.device.now) c.in_err-head.ensures.fault c.read_head.ensures.untouched)

pub returns-in-Ok : goal.returns-in-Ok
returns-in-Ok g c =
    was_forced _ _ (g.D.Disk.seen c.read_head.new.device) _ c.in_ok-head.head c.in_ok-head.ensures.head c.read_head.ensures.untouched (omega arith) c.in-Ok.forced
    (subst (λ (h : Super). ForcesUnclosed g.D.Disk.trust h (g.D.Disk.seen c.read_head.new.device) (g.D.Disk.seen c.force_unclosed.new.device) (Ok c.in-Ok.forced))
    c.as_unclosed.ensures c.in-Ok.ensures)

pub returns-in-Err : goal.returns-in-Err
returns-in-Err g c =
    was_refused _ _ (g.D.Disk.seen c.read_head.new.device) _ c.in_ok-head.head c.in_ok-head.ensures.head c.read_head.ensures.untouched (omega arith) c.in-Err.fault
    (subst (λ (h : Super). ForcesUnclosed g.D.Disk.trust h (g.D.Disk.seen c.read_head.new.device) (g.D.Disk.seen c.force_unclosed.new.device) (Err c.in-Err.fault))
    c.as_unclosed.ensures c.in-Err.ensures)
