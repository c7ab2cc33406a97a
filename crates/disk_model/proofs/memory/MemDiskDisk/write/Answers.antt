use Rattle.std.proofs.lemmas.Grind.{common_steps}
use Rattle.std.proofs.Common.{arith}
use Rattle.disk_model.proofs.memory.MemDiskDisk.write.Goals as goal

pub returns-clause-exact_err : goal.returns-clause-exact_err
returns-clause-exact_err c = grind (arith, common_steps)

pub invariant_of-self-2 : goal.invariant_of-self-2
invariant_of-self-2 c = grind (arith, common_steps)

pub returns-clause-err : goal.returns-clause-err
returns-clause-err c = grind (arith, common_steps)

pub invariant_of-self-then-ok : goal.invariant_of-self-then-ok
invariant_of-self-then-ok c = grind (arith, common_steps)

pub returns-then-ok-clause-ok : goal.returns-then-ok-clause-ok
returns-then-ok-clause-ok c = grind (arith, common_steps)

pub returns-then-ok-clause-exact_ok : goal.returns-then-ok-clause-exact_ok
returns-then-ok-clause-exact_ok c = grind (arith, common_steps)
