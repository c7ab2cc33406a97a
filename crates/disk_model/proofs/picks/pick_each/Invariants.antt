use Rattle.std.proofs.Common.{reverse}
use Rattle.disk_model.specs.PickParts.{IsPickedUpTo}
use Rattle.disk_model.proofs.picks.pick_each.Given as goal

abbrev pub invariant-loop-b : goal.invariant-loop-b
invariant-loop-b l = IsPickedUpTo l.initial.image.items (reverse l.calls) l.number l.b l.image.items l.state
