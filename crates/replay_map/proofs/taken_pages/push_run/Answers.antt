use Rattle.replay_map.proofs.TakenLaws.{mapped_more}
use Rattle.replay_map.proofs.taken_pages.push_run.Goals as goal

pub loop-slot-preserved : goal.loop-slot-preserved
loop-slot-preserved c = λ first before.
    mapped_more c.args.mappings.now c.loop-slot.slot first c.loop-slot.mapped.items c.push_block.new.mapped.items (c.loop-slot.invariant first before)
    (rw c.get.ensures.value at c.in_ok-push_block.ensures)
