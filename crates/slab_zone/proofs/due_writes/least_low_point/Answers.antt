use Rattle.std.proofs.Common.{arith, length}
use Rattle.slab_zone.proofs.LowLaws.{low_more, low_whole, none_whole}
use Rattle.slab_zone.proofs.DueLaws.{read_as}
use Rattle.slab_zone.proofs.due_writes.least_low_point.Goals as goal

pub loop-place-preserved : goal.loop-place-preserved
loop-place-preserved c =
    let writes = c.args.writes.now in
    let k = c.loop-place.place in
    low_more writes k c.loop-place.least c.low_point.result c.lesser-least.result c.index-writes-place.result (read_as writes k c.index-writes-place.result c.loop-place-test.true c.index-writes-place.is)
    c.loop-place.invariant c.low_point.ensures.some c.low_point.ensures.none c.lesser-least.ensures

pub returns-clause-some : goal.returns-clause-some
returns-clause-some c =
    low_whole c.args.writes.now c.loop-place.place (length c.args.writes.now) c.loop-place.least (omega (arith, c.loop-place-test.false, c.loop-place.auto.place-end)) c.loop-place.invariant

pub returns-clause-none : goal.returns-clause-none
returns-clause-none c =
    none_whole c.args.writes.now c.loop-place.place (length c.args.writes.now) c.loop-place.least (omega (arith, c.loop-place-test.false, c.loop-place.auto.place-end)) c.loop-place.invariant
