use Rattle.std.proofs.Common.{arith}
use Rattle.std.proofs.lemmas.Grind.{common_steps}
use Rattle.byte_fields.specs.Fields.{le}
use Rattle.byte_fields.proofs.write.put_u64.Goals as goal

pub returns-clause-front : goal.returns-clause-front
unfolding le
returns-clause-front c = grind (arith, common_steps)
