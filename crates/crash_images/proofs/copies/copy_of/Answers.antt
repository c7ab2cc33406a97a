use Rattle.std.proofs.Common.{◌∙◌}
use Rattle.crash_images.proofs.CopyLaws.{copy_keeps}
use Rattle.crash_images.proofs.copies.copy_of.Goals as goal

pub returns-in-Ok-clause-image : goal.returns-in-Ok-clause-image
returns-in-Ok-clause-image g c =
    copy_keeps _ _ _ c.in-Ok.copy (c.in_ok-blocks.blocks.items, c.in-Ok.ensures, c.in_ok-blocks.ensures.count ∙ c.blocks-count.ensures, c.in_ok-blocks.ensures.read)
