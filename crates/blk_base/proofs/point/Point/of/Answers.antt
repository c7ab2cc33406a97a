use Rattle.std.proofs.Common.{arith}
use Rattle.std.proofs.lemmas.Grind.{common_steps}
use Rattle.blk_base.proofs.point.Point.of.Goals as goal

pub returns-clause-number : goal.returns-clause-number
returns-clause-number c = grind (arith, common_steps)

pub returns-clause-falls : goal.returns-clause-falls
returns-clause-falls c s e h small = grind (arith, common_steps)
