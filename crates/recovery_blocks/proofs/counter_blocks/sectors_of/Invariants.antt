use Rattle.recovery_blocks.specs.Spelled.{AreSpelled}
use Rattle.recovery_blocks.proofs.counter_blocks.sectors_of.Given as goal

abbrev pub invariant-loop-j : goal.invariant-loop-j
invariant-loop-j l = AreSpelled l.layout.geometry l.slab l.i l.counts.counts.items l.counts.sectors.items l.block l.j l.sectors
