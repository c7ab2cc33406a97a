use Rattle.std.proofs.Common.{take, Contains}
use Rattle.slab_reading.specs.Slabs.{Grew}
use Rattle.slab_reading.proofs.slab_parts.push_entries.Given as goal

abbrev pub invariant-loop-entry : goal.invariant-loop-entry
invariant-loop-entry l = Grew l.layout.geometry l.slab (Contains (take l.entry-index l.entries)) l.initial.updates.items l.updates.items
