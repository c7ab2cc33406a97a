-- The fields of a slab's counters as what is known of its data blocks.
use Rattle.std.specs.Prelude.{◌≡◌, ◌≤◌}
use Rattle.blk_base.specs.Regions.{slab_start_of}
use Rattle.slab_counts.specs.Counts.{Counts}
use Rattle.slab_counts.specs.Kept.{IsWithin, NoneFreeBelow}
use Rattle.slab_counts.specs.declared.counts.SlabCounts.TheInside.{Inside}

abbrev pub counts_of : Inside → Counts
counts_of s =
    record {
      geometry = s.layout.geometry;
      slab = s.slab;
      counters = s.counters.items;
      claims = s.claims.items;
      pages = s.pages.items;
    }

-- the cursor from which a free block is looked for is behind none
pub record IsKept (s : Inside) : Type 0 where
  pub within : IsWithin (counts_of s)
  pub start : s.start ≡ slab_start_of s.layout.geometry s.slab
  pub cursor : s.cursor ≤ s.layout.geometry.slab_blocks
  pub below : NoneFreeBelow s.counters.items s.claims.items s.cursor
