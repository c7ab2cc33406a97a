use Rattle.std.proofs.Common.{◌≡◌, ◌<◌, ◌+◌, arith, subst, sym}
use Rattle.lane_kernels.specs.Kernels.{IsLeastFreeWithin, free_lanes}
use Rattle.lane_kernels.proofs.LoadLaws.{none_free, least_is}
use Rattle.lane_kernels.proofs.loads.least_free.Goals as goal
use lib.Count.{count_trailing_zeros}
use lib.Lanes.{mask_l}

pub returns-then-free-eq0-clause-none : goal.returns-then-free-eq0-clause-none
returns-then-free-eq0-clause-none c =
    let none : mask_l (free_lanes c.args.at 64 c.args.counters.now c.args.claims.now) ≡ 0 = omega (arith, c.free_bits-free.ensures, c.if-free-eq0.true) in
    none_free c.args.counters.now c.args.claims.now c.args.at c.requires.0 c.requires.1 none

pub returns-clause-some : goal.returns-clause-some
returns-clause-some c =
    let some : 0 < mask_l (free_lanes c.args.at 64 c.args.counters.now c.args.claims.now) = omega (arith, c.free_bits-free.ensures, c.if-free-eq0.false) in
    subst (λ m. IsLeastFreeWithin c.args.at (c.args.at + 64) c.args.counters.now c.args.claims.now (c.args.at + count_trailing_zeros 64 m)) (sym c.free_bits-free.ensures)
    (least_is c.args.counters.now c.args.claims.now c.args.at c.requires.0 c.requires.1 some)
