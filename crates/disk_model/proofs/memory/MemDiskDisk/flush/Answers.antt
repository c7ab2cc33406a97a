use Rattle.std.proofs.lemmas.Grind.{common_steps}
use Rattle.std.proofs.Common.{arith, rules}
use Rattle.disk_model.proofs.memory.MemDiskDisk.flush.Goals as goal

pub returns-then-course-clause-err : goal.returns-then-course-clause-err
returns-then-course-clause-err c = grind (arith, common_steps)

pub returns-then-course-clause-exact_err : goal.returns-then-course-clause-exact_err
returns-then-course-clause-exact_err c = grind (arith, common_steps)

pub returns-clause-ok : goal.returns-clause-ok
returns-clause-ok c = grind (arith, common_steps)

pub returns-clause-exact_ok : goal.returns-clause-exact_ok
returns-clause-exact_ok c = grind (arith, common_steps)

pub invariant_of-self : goal.invariant_of-self
invariant_of-self c = search rules

pub invariant_of-self-then-course : goal.invariant_of-self-then-course
invariant_of-self-then-course c = grind (arith, common_steps)

pub invariant_of-self-else-course : goal.invariant_of-self-else-course
invariant_of-self-else-course c = grind (arith, common_steps)
