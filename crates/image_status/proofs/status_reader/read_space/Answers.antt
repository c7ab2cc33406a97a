use Rattle.std.proofs.Common.{◌∙◌, ap}
use Rattle.blk_base.specs.Regions.{data_blocks}
use Rattle.image_status.proofs.StatusLaws.{space_shown}
use Rattle.image_status.proofs.status_reader.read_space.Goals as goal

pub returns-clause-space : goal.returns-clause-space
returns-clause-space g c =
    space_shown _ c.args.head.now c.args.window.now _ _ c.in_ok-contents.contents _ _ c.in_ok-contents.ensures.contents
    (rw c.deref.ensures.value at c.count_used-used.ensures) (c.data_blocks.ensures ∙ ap data_blocks c.of.ensures)
