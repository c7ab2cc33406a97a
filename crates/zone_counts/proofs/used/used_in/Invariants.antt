use Rattle.std.proofs.Common.{◌≡◌, ◌≤◌, ◌*◌, take}
use Rattle.std.specs.List.{sum_by}
use Rattle.slab_counts.specs.Counts.{used_of}
use Rattle.zone_counts.proofs.used.used_in.Given as goal

abbrev pub invariant-loop-slab : goal.invariant-loop-slab
invariant-loop-slab l = record {
  so_far : l.used ≡ sum_by used_of (take l.slab-index l.slabs);
  few : l.used ≤ l.slab-index * 32768;
}
