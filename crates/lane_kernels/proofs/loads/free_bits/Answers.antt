use Rattle.lane_kernels.proofs.LoadLaws.{free_mask}
use Rattle.lane_kernels.proofs.loads.free_bits.Goals as goal

pub returns : goal.returns
returns c = free_mask c.args.counters.now c.args.claims.now c.args.at c.requires.0 c.requires.1 c.holds.result c.holds.ensures
