use Rattle.std.proofs.Common.{◌≡◌, ◌≤◌, ◌-◌, length}
use Rattle.slab_zone.specs.ZoneWrites.{NoneDueBefore}
use Rattle.slab_zone.proofs.due_writes.first_due.Given as goal

abbrev pub invariant-loop-place : goal.invariant-loop-place
invariant-loop-place l = record {
  same : l.writes.items ≡ l.initial.writes.items;
  none : NoneDueBefore l.need l.writes.items l.place;
  within : l.place ≤ length l.writes.items;
}

abbrev pub decreases-loop-place : goal.decreases-loop-place
decreases-loop-place l = length l.writes.items - l.place
