use Rattle.std.proofs.Common.{arith, refl}
use Rattle.slab_reading.proofs.TakeLaws.{entry_more}
use Rattle.slab_reading.proofs.slab_parts.push_entries.Goals as goal

pub loop-entry-preserved : goal.loop-entry-preserved
loop-entry-preserved c =
    rw c.in_ok-push.ensures.items (entry_more c.args.layout.now.geometry c.args.slab c.args.entries.now c.loop-entry.entry-index (record { point = record { 0 = 0 }; offset = 0 }) _ _ _ (omega arith)
    (omega (arith, c.data_block-at.ensures.block, c.from.ensures)) refl c.loop-entry.invariant)
