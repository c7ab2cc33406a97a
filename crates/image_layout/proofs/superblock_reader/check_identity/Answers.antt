use Rattle.std.proofs.Common.{rules}
use Rattle.image_layout.proofs.superblock_reader.check_identity.Goals as goal

pub returns : goal.returns
returns c = search rules
