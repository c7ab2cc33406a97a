use Rattle.image_model.specs.Counts.{block_of_data}
use Rattle.count_updates.specs.Counted.{AreCountedUpTo}
use Rattle.count_updates.specs.Listed.{IsPassed}
use Rattle.count_updates.proofs.block_counts.count_slab.Given as goal
use Rattle.count_updates.specs.FoundLists.{lists_of}

abbrev pub invariant-loop-offset : goal.invariant-loop-offset
invariant-loop-offset l = record {
  passed : IsPassed l.found.updates.items l.next (block_of_data l.layout.geometry (record { slab = l.slab; offset = l.offset })).0;
  counted : AreCountedUpTo l.layout.geometry (lists_of l.found) l.slab l.offset l.counts.items;
}
