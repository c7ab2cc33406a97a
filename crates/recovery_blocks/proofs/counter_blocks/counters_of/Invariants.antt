use Rattle.recovery_blocks.specs.Spelled.{IsCounted}
use Rattle.recovery_blocks.proofs.counter_blocks.counters_of.Given as goal

abbrev pub invariant-loop-offset : goal.invariant-loop-offset
invariant-loop-offset l = IsCounted l.layout.geometry l.slab l.n l.counts l.offset l.counters
