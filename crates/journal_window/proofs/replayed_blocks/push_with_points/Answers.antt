use Rattle.std.proofs.Common.{arith}
use Rattle.std.proofs.lemmas.List.{take_more}
use Rattle.journal_window.proofs.ReplayLaws.{pointed_more}
use Rattle.journal_window.proofs.replayed_blocks.push_with_points.Goals as goal

pub loop-number-preserved : goal.loop-number-preserved
loop-number-preserved c =
    let inside = c.loop-number-test.true in
    pointed_more _ c.loop-number.number _ c.args.block.now _ _ _ _ (omega (arith, inside)) c.loop-number.invariant (take_more c.args.block.now c.loop-number.number _ inside)
    c.of.ensures.number c.in_ok-push.ensures.items
