use Rattle.std.proofs.Common.{arith}
use Rattle.std.proofs.lemmas.Grind.{common_steps}
use Rattle.blk_base.proofs.layout.Layout.root.Goals as goal

pub returns-clause-block : goal.returns-clause-block
returns-clause-block c = grind (arith, common_steps)
