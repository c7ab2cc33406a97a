use Rattle.std.proofs.Common.{◌≡◌, replicate}
use Rattle.std.specs.Vec.{vec_capacity}
use Rattle.slab_counts.proofs.opening_counts.repeated.Given as goal

abbrev pub invariant-loop-made : goal.invariant-loop-made
invariant-loop-made g l = record {
  items : l.list.items ≡ replicate l.made l.value;
  capacity : vec_capacity l.list ≡ vec_capacity l.initial.list;
}
