use Rattle.slab_reading.proofs.TakeLaws.{block_more}
use Rattle.slab_reading.proofs.slab_parts.push_block.Goals as goal

pub loop-number-preserved : goal.loop-number-preserved
loop-number-preserved c = block_more _ _ _ _ _ _ _ c.loop-number.invariant c.in_ok-push_sector.ensures
