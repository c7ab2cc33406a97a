use Rattle.std.proofs.Common.{◌≡◌, ◌+◌, ◌*◌, ap, sum, take, ℕ, arith, ◌∙◌}
use Rattle.lane_kernels.proofs.SumLaws.{sum_more}
use Rattle.lane_kernels.proofs.total.Goals as goal

pub loop-load-preserved : goal.loop-load-preserved
loop-load-preserved c =
    let was = c.loop-load.invariant in
    let next : (c.loop-load.load + 1) * 64 ≡ c.loop-load.load * 64 + 64 = omega arith in
    let more = ap (λ (n : ℕ). sum (take n c.args.bytes.now)) next ∙ sum_more (c.loop-load.load * 64) c.args.bytes.now in (
      omega (arith, was.0, more, c.from-sum.ensures, c.total_of.ensures.total),
      omega (arith, was.1, c.from-sum.ensures, c.total_of.ensures.few),
    )
