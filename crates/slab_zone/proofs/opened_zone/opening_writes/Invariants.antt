use Rattle.std.proofs.Common.{◌≡◌}
use Rattle.std.specs.Vec.{vec_capacity}
use Rattle.slab_zone.specs.Whole.{AreOpenedWrites}
use Rattle.slab_zone.proofs.opened_zone.opening_writes.Given as goal

abbrev pub invariant-loop-k : goal.invariant-loop-k
invariant-loop-k l = record {
  opened : AreOpenedWrites l.opened l.zone l.zones l.k l.writes.items;
  capacity : vec_capacity l.writes ≡ vec_capacity l.initial.writes;
}
