use Rattle.std.proofs.Common.{rules}
use Rattle.image_layout.proofs.superblock_reader.check_sizes.Goals as goal

pub returns-in_err-check_field-4 : goal.returns-in_err-check_field-4
returns-in_err-check_field-4 c = search rules
