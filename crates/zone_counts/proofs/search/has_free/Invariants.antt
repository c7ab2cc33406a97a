use Rattle.std.proofs.Common.{◌≡◌, ◌-◌, length}
use Rattle.zone_counts.specs.Zone.{NoneBefore}
use Rattle.zone_counts.proofs.search.has_free.Given as goal

abbrev pub invariant-loop-cursor : goal.invariant-loop-cursor
invariant-loop-cursor l = record {
  same : l.slabs.items ≡ l.initial.slabs.items;
  below : NoneBefore l.slabs.items l.cursor;
}

abbrev pub decreases-loop-cursor : goal.decreases-loop-cursor
decreases-loop-cursor l = length l.slabs.items - l.cursor
