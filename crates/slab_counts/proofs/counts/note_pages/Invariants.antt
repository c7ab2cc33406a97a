use Rattle.std.proofs.Common.{ℕ, List, [], take}
use Rattle.blk_base.specs.declared.geometry.Geometry.{Geometry}
use Rattle.slab_counts.specs.Counts.{IsOpening}
use Rattle.slab_counts.specs.Kept.{IsWithin}
use Rattle.slab_counts.proofs.counts.note_pages.Given as goal

abbrev pub invariant-loop-at : goal.invariant-loop-at
invariant-loop-at l = record {
  within : IsWithin l.counts;
  opening : (geometry : Geometry) (slab : ℕ) (counters : List ℕ) → IsOpening geometry slab counters [] l.initial.counts
      → IsOpening geometry slab counters (take l.at-index l.among) l.counts;
}
