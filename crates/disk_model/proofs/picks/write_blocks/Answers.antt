use Rattle.std.proofs.Common.{List, reverse, take, subst, sym}
use Rattle.disk_model.specs.declared.call.Call.{Call}
use Rattle.disk_model.specs.PickParts.{AreWritten}
use Rattle.disk_model.proofs.RecentLaws.{one_more}
use Rattle.disk_model.proofs.picks.write_blocks.Goals as goal

pub loop-call-preserved : goal.loop-call-preserved
loop-call-preserved c =
    let calls = c.args.calls.now in
    let n = c.loop-call.call-index in
    subst (λ (log : List Call). AreWritten c.args.opening.now log c.write.new.blocks.items)
    (sym (one_more calls n c.call-item.result c.loop-call-test.true c.call-item.is))
    (c.write.ensures c.args.opening.now (reverse (take n calls)) c.loop-call.invariant)
