use Rattle.lane_kernels.proofs.LoadLaws.{lesser_is}
use Rattle.lane_kernels.proofs.loads.lesser.Goals as goal

pub returns : goal.returns
returns c = lesser_is c.args.left c.args.right
