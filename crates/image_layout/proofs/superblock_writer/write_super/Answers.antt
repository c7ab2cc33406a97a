use Rattle.std.proofs.Common.{◌∙◌, ap, arith}
use Rattle.image_layout.specs.Superblock.{super_of}
use Rattle.image_layout.proofs.AgainLaws.{written_again}
use Rattle.image_layout.proofs.superblock_writer.write_super.Goals as goal

pub returns-clause-written_again : goal.returns-clause-written_again
returns-clause-written_again c blocks sizes some below room =
    ap (λ b. super_of b blocks) c.put_super.ensures ∙ written_again c.args.head.now blocks sizes (omega arith) some below room
