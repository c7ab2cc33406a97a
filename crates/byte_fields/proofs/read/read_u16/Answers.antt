use Rattle.std.proofs.Common.{arith}
use Rattle.std.proofs.lemmas.Grind.{common_steps}
use Rattle.byte_fields.specs.Fields.{number_at}
use Rattle.byte_fields.proofs.read.read_u16.Goals as goal

pub returns : goal.returns
unfolding number_at
returns c = grind (arith, common_steps)
