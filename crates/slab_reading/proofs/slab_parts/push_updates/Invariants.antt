use Rattle.slab_reading.specs.Slabs.{SlabKeeps, Grew}
use Rattle.slab_reading.proofs.slab_parts.push_updates.Given as goal

abbrev pub invariant-loop-slot : goal.invariant-loop-slot
invariant-loop-slot l = Grew l.layout.geometry l.slab (SlabKeeps l.layout.geometry l.slab l.read l.slot) l.initial.updates.items l.updates.items
