use Rattle.std.proofs.Common.{arith}
use Rattle.recovery_blocks.proofs.PatchLaws.{slot_put}
use Rattle.recovery_blocks.proofs.page_patches.put_slot.Goals as goal

pub returns : goal.returns
returns c = slot_put c.args.slot c.args.mapping c.args.block.now _ _ (omega arith) c.requires.size c.requires.inside c.put_mapping.ensures.front c.put_mapping.ensures.rest
