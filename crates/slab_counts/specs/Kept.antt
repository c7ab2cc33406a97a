-- What is true of a slab's counters and claims at every moment.
use Rattle.std.specs.Prelude.{ℕ, ◌≡◌, ◌+◌, ◌<◌, ◌≤◌, List, length, slice_index}
use Rattle.blk_base.specs.Counters.{limit_of}
use Rattle.blk_base.specs.Limits.{IsGeometry}
use Rattle.lane_kernels.specs.Kernels.{IsFreeAt}
use Rattle.slab_counts.specs.Counts.{Counts}

-- each data block has its numbers, which are together within the limit
pub record IsWithin (c : Counts) : Type 0 where
  pub geometry : IsGeometry c.geometry
  pub slab : c.slab < c.geometry.slabs
  pub counters : length c.counters ≡ c.geometry.slab_blocks
  pub claims : length c.claims ≡ c.geometry.slab_blocks
  pub pages : length c.pages ≡ c.geometry.slab_blocks
  pub limit : (k : ℕ) → slice_index c.counters k + slice_index c.claims k ≤ limit_of c.geometry

-- no place below the cursor is free
abbrev pub NoneFreeBelow : List ℕ → List ℕ → ℕ → Type 0
NoneFreeBelow counters claims cursor = (k : ℕ) → k < cursor → ¬ IsFreeAt counters claims k
