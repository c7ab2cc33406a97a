use Rattle.image_model.specs.Counts.{block_of_data}
use Rattle.count_updates.specs.Counted.{AreCountedUpTo}
use Rattle.count_updates.specs.Listed.{IsPassed}
use Rattle.count_updates.proofs.block_counts.counts_of.Given as goal
use Rattle.count_updates.specs.FoundLists.{lists_of}

abbrev pub invariant-loop-slab : goal.invariant-loop-slab
invariant-loop-slab l = record {
  passed : IsPassed l.found.updates.items l.passed (block_of_data l.layout.geometry (record { slab = l.slab; offset = 0 })).0;
  counted : AreCountedUpTo l.layout.geometry (lists_of l.found) l.slab 0 l.counts.items;
}
