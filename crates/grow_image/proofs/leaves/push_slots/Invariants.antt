use Rattle.grow_image.specs.NewAddresses.{AreAdded}
use Rattle.grow_image.proofs.leaves.push_slots.Given as goal

abbrev pub invariant-loop-slot : goal.invariant-loop-slot
invariant-loop-slot l = AreAdded l.range l.page l.slot l.fn.leaves.items l.leaves.items
