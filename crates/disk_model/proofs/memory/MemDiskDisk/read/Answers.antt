use Rattle.std.proofs.lemmas.Grind.{common_steps}
use Rattle.std.proofs.Common.{◌<◌, length, arith, ap, ◌∙◌}
use Rattle.std.proofs.lemmas.List.{get_or_read}
use Rattle.blk_base.specs.Sectors.{zero_block}
use Rattle.disk_model.specs.Memory.{Memory}
use Rattle.disk_model.proofs.Honest.{given}
use Rattle.disk_model.proofs.memory.MemDiskDisk.read.Goals as goal

pub returns-clause-given : goal.returns-clause-given
returns-clause-given c =
    let here : c.args.at.0 < length c.self.inside.blocks.items = omega (arith, ap (λ (m : Memory). length m.opening) c.self.view_is, c.self.invariant.size) in
    rw (← c.self.view_is) (given _ _ _ c.args.at.0 _ c.self.invariant here
    (c.copy_from-2.ensures.same ∙ get_or_read c.self.inside.blocks.items c.args.at.0 c.index-2.result.now here c.index-2.ensures zero_block))

pub invariant_of-self-then-course : goal.invariant_of-self-then-course
invariant_of-self-then-course c = grind (arith, common_steps)

pub returns-then-course-clause-err : goal.returns-then-course-clause-err
returns-then-course-clause-err c = grind (arith, common_steps)

pub returns-then-course-clause-exact_err : goal.returns-then-course-clause-exact_err
returns-then-course-clause-exact_err c = grind (arith, common_steps)

pub invariant_of-self-2 : goal.invariant_of-self-2
invariant_of-self-2 c = grind (arith, common_steps)

pub returns-clause-ok : goal.returns-clause-ok
returns-clause-ok c = grind (arith, common_steps)

pub returns-clause-bytes : goal.returns-clause-bytes
returns-clause-bytes c = grind (arith, common_steps)

pub returns-clause-exact_ok : goal.returns-clause-exact_ok
returns-clause-exact_ok c = grind (arith, common_steps)
