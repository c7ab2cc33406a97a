use Rattle.grow_image.specs.Searches.{AreUnmappedBelow}
use Rattle.grow_image.proofs.search.first_mapped.Given as goal

abbrev pub invariant-loop-number : goal.invariant-loop-number
invariant-loop-number l = AreUnmappedBelow l.head l.range l.block l.number
