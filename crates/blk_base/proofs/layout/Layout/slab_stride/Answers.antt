use Rattle.std.proofs.Common.{arith}
use Rattle.std.proofs.lemmas.Grind.{common_steps}
use Rattle.blk_base.proofs.layout.Layout.slab_stride.Goals as goal

pub returns-clause-stride : goal.returns-clause-stride
returns-clause-stride c = grind (arith, common_steps)
