use Rattle.std.proofs.Common.{◌<◌, length, arith}
use Rattle.audit.proofs.TallyLaws.{one_unused, one_used}
use Rattle.force_rebuild.proofs.counted_map.count_used.Goals as goal
use Rattle.force_rebuild.proofs.counted_map.count_used.Goals.{then-count-gt0, else-count-gt0}

pub loop-count-preserved : goal.loop-count-preserved
loop-count-preserved c =
    let inside : c.loop-count.count-index < length c.args.counters.now = omega arith in
    elim c.if-count-gt0.branch [
      | then-count-gt0 w ↦ one_used c.args.counters.now c.loop-count.count-index _ c.loop-count.used _ inside c.loop-count.invariant w.if-count-gt0.true w.used-is
      | else-count-gt0 w ↦ one_unused c.args.counters.now c.loop-count.count-index _ c.loop-count.used _ inside c.loop-count.invariant w.if-count-gt0.false w.used-is
    ]
