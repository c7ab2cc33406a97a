use Rattle.std.proofs.Common.{arith}
use Rattle.rebuild.proofs.RecoverLaws.{head_failed, refused_as, was_clean, was_recovered, was_refused}
use Rattle.rebuild.proofs.recovery.recover.Goals as goal

pub returns-in_err-head : goal.returns-in_err-head
returns-in_err-head g c =
    refused_as _ _ _ _ c.from_residual.result c.from_residual.ensures.1
    (head_failed _ _ _ c.in_err-head.field-0.0 (g.met.D.Disk.told c.args.device.now) c.in_err-head.ensures.fault c.read_head.ensures.untouched)

pub returns-then-head : goal.returns-then-head
returns-then-head g c =
    was_clean _ _ _ c.in_ok-head.head c.in_ok-head.ensures.head c.if-head.true c.read_head.ensures.untouched

pub returns-in_err-count : goal.returns-in_err-count
returns-in_err-count g c =
    refused_as _ _ _ _ c.from_residual-in_err-count.result c.from_residual-in_err-count.ensures.1
    (was_refused _ _ (g.D.Disk.seen c.read_head.new.device) _ c.in_ok-head.head c.in_ok-head.ensures.head c.if-head.false c.read_head.ensures.untouched (omega arith) c.in_err-count.field-0.0
    c.in_err-count.ensures)

pub returns : goal.returns
returns g c =
    was_recovered _ _ (g.D.Disk.seen c.read_head.new.device) _ c.in_ok-head.head c.in_ok-head.ensures.head c.if-head.false c.read_head.ensures.untouched (omega arith) c.in_ok-count.count
    c.in_ok-count.ensures
