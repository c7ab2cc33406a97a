use Rattle.std.proofs.lemmas.Grind.{common_steps}
use Rattle.std.proofs.Common.{rules, arith}
use Rattle.image_layout.proofs.superblock_reader.check_state.Goals as goal

pub returns-in_err-check_field-2 : goal.returns-in_err-check_field-2
returns-in_err-check_field-2 c = search rules

pub returns-in_err-check_field-3 : goal.returns-in_err-check_field-3
returns-in_err-check_field-3 c = search rules

pub returns : goal.returns
returns c = grind (arith, common_steps)
