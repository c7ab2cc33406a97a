use Rattle.std.proofs.Common.{arith}
use Rattle.uds_index.proofs.BookLaws.{near_apart}
use Rattle.uds_index.proofs.volume.is_same_place.Goals as goal

pub returns-then-gap-places : goal.returns-then-gap-places
returns-then-gap-places c =
    let gap = c.abs_diff-gap.ensures in
    near_apart c.args.places c.args.number c.args.other
    (λ same. omega (arith, gap, c.if-gap-gt0.true, same))
    (λ below. omega (arith, gap, c.if-gap-places.true, below))
    (λ below. omega (arith, gap, c.if-gap-places.true, below))
