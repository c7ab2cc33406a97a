use Rattle.image_layout.specs.Superblock.{size_bytes}
use Rattle.std.proofs.Common.{rules}
use Rattle.image_layout.proofs.superblock_writer.put_sizes.Goals as goal

pub returns : goal.returns
unfolding size_bytes
returns c = search rules
