use Rattle.blk_base.specs.Regions.{SlabJournalSlot, block_of}
use Rattle.image_format.specs.Calls.{zeros_from}
use Rattle.image_format.specs.Runs.{WereMade}
use Rattle.force_rebuild.proofs.slabs.empty_journal.Given as goal

abbrev pub invariant-loop-slot : goal.invariant-loop-slot
invariant-loop-slot g l =
    let disk = g.D.Disk in
    WereMade disk.trust.tells (disk.seen l.fn.device) (disk.seen l.device) (zeros_from (block_of l.layout.geometry (SlabJournalSlot l.slab 0)) l.slot)
