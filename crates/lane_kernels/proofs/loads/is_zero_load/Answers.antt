use Rattle.lane_kernels.proofs.LoadLaws.{chunk_long, zeros_here, zeros_under}
use Rattle.lane_kernels.proofs.loads.is_zero_load.Goals as goal

pub are_zero_lanes-requires : goal.are_zero_lanes-requires
are_zero_lanes-requires c = chunk_long c.args.bytes.now c.args.at c.requires

pub returns : goal.returns
returns c = (
  (λ yes. zeros_under c.args.bytes.now c.args.at (c.are_zero_lanes.ensures.0 yes)),
  (λ zeros. c.are_zero_lanes.ensures.1 (zeros_here c.args.bytes.now c.args.at zeros)),
)
