use Rattle.slab_reading.specs.Slabs.{BlockKeeps, Grew}
use Rattle.slab_reading.proofs.slab_parts.push_block.Given as goal

abbrev pub invariant-loop-number : goal.invariant-loop-number
invariant-loop-number l = Grew l.layout.geometry l.slab (BlockKeeps l.layout.geometry l.slab l.block l.number) l.initial.updates.items l.updates.items
