use Rattle.std.proofs.Common.{arith}
use Rattle.grow_image.proofs.SearchLaws.{first_found, none_mapped, slot_passed}
use Rattle.grow_image.proofs.search.first_mapped.Goals as goal

pub loop-number-preserved : goal.loop-number-preserved
loop-number-preserved c =
    slot_passed c.args.head.now c.args.range c.args.block.now c.loop-number.number c.loop-number.invariant (rw c.in-None.is at c.in_ok-mapped.ensures.mapped)

pub returns-in-Some-clause-first : goal.returns-in-Some-clause-first
returns-in-Some-clause-first c =
    first_found c.args.head.now c.args.range c.args.block.now c.loop-number.number c.in-Some.address c.requires.level c.requires.tree c.loop-number-test.true c.loop-number.invariant
    (rw c.in-Some.is at c.in_ok-mapped.ensures.mapped)

pub returns-clause-first : goal.returns-clause-first
returns-clause-first c =
    let ended = c.loop-number-test.false in
    none_mapped c.args.head.now c.args.range c.args.block.now c.loop-number.number (omega (arith, ended)) c.loop-number.invariant
