use Rattle.std.proofs.Common.{◌≡◌, length, reverse, take}
use Rattle.std.specs.Vec.{vec_capacity}
use Rattle.disk_model.specs.PickParts.{AreMarked}
use Rattle.disk_model.proofs.picks.mark_written.Given as goal

abbrev pub invariant-loop-made : goal.invariant-loop-made
invariant-loop-made l = record {
  size : length l.marks.items ≡ l.made;
  room : vec_capacity l.marks ≡ vec_capacity l.initial.marks;
}

abbrev pub invariant-loop-call : goal.invariant-loop-call
invariant-loop-call l = record {
  size : length l.marks.items ≡ l.count;
  marked : AreMarked (reverse (take l.call-index l.calls)) l.marks.items;
}
