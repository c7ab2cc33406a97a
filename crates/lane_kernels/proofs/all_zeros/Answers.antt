use Rattle.lane_kernels.proofs.ZeroLaws.{zeros_only, All-zeros}
use Rattle.lane_kernels.proofs.all_zeros.Goals as goal

pub returns : goal.returns
returns c = (
  (λ yes. zeros_only c.args.bytes.now (c.are_all_zeros.ensures.0 yes)),
  (λ same. c.are_all_zeros.ensures.1 (All-zeros c.args.bytes.now same)),
)
