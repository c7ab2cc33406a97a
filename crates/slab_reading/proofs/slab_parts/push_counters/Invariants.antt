use Rattle.std.proofs.Common.{◌≡◌, ◌-◌, ◌*◌}
use Rattle.slab_reading.specs.Found.{AddsCounters}
use Rattle.slab_reading.proofs.slab_parts.push_counters.Given as goal

abbrev pub invariant-loop-n : goal.invariant-loop-n
invariant-loop-n l = record {
  left : l.left ≡ l.layout.geometry.slab_blocks - 504 * l.n;
  adds : AddsCounters l.layout.geometry l.read (l.layout.geometry.slab_blocks - l.left) l.initial.counters.items l.counters.items;
}
