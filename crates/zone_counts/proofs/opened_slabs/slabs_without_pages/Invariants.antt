use Rattle.std.proofs.Common.{◌≡◌, []}
use Rattle.std.specs.Vec.{vec_capacity}
use Rattle.zone_counts.specs.Zone.{AreOpenedWith}
use Rattle.zone_counts.proofs.opened_slabs.slabs_without_pages.Given as goal

abbrev pub invariant-loop-k : goal.invariant-loop-k
invariant-loop-k l = record {
  opened : AreOpenedWith l.opened.head.geometry l.opened.counters.items [] l.zone l.zones l.k l.slabs.items;
  capacity : vec_capacity l.slabs ≡ vec_capacity l.initial.slabs;
}
