use Rattle.std.proofs.Common.{take}
use Rattle.count_updates.specs.Applied.{AreApplied}
use Rattle.count_updates.proofs.applied.applied_points.Given as goal

abbrev pub invariant-loop-update : goal.invariant-loop-update
invariant-loop-update l = AreApplied l.layout.geometry (take l.update-index l.found.updates.items) l.found.commits.items l.applied.items
