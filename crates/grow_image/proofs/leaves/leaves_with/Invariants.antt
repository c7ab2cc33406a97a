use Rattle.std.proofs.Common.{take}
use Rattle.grow_image.specs.NewAddresses.{AreNewLeaves}
use Rattle.grow_image.proofs.leaves.leaves_with.Given as goal

abbrev pub invariant-loop-page : goal.invariant-loop-page
invariant-loop-page l = AreNewLeaves l.range (take l.page-index l.pages) l.leaves.items
