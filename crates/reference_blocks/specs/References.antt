-- What the reference blocks of a slab are to say.
use Rattle.std.specs.Prelude.{ℕ, ◌≡◌, ◌+◌, ◌-◌, ◌*◌, ◌/◌, ◌<◌, ◌^◌, List, [], ◌∷◌, ◌++◌, length, map, min, replicate, take, drop, slice_index_or, slice_set}
use Rattle.blk_base.specs.Counters.{sectors_per_slab, sector_of_offset}
use Rattle.blk_base.specs.Regions.{references_of}
use Rattle.blk_base.specs.declared.geometry.Geometry.{Geometry}
use Rattle.blk_base.specs.declared.point.Point.{Point}
use Rattle.dirty_pages.specs.DirtyPoints.{clean, changed_at, settled, dirty_points_at, with_dirty_points, HandsOut, IsDue}
use Rattle.dirty_pages.specs.declared.dirty_points.DirtyPoints.{DirtyPoints}
use Rattle.slab_codec.specs.Reference.{reference_bytes, counters_in}
use Rattle.slab_codec.specs.declared.forms.ReferenceSector.{ReferenceSector}

-- For each sector of the slab, in their order, `applied` has the point up to which its counters have the updates, and
-- `handed` the one with which its block was handed out last. `blocks` has for each reference block from which point on
-- its updates aren't durable.
pub record References : Type 0 where
  pub geometry : Geometry
  pub applied : List Point
  pub handed : List Point
  pub blocks : List DirtyPoints

-- the point of a sector; past the last sector nothing is said
abbrev pub point_at : List Point → ℕ → Point
point_at points n = slice_index_or points n (record { 0 = 0 })

-- of the commit points of an image those of a slab
abbrev pub points_of : Geometry → ℕ → List Point → List Point
points_of g slab all = take (sectors_per_slab g) (drop (slab * sectors_per_slab g) all)

-- no update was taken in this session
abbrev pub opening : Geometry → List Point → References
opening g points = record { geometry = g; applied = points; handed = points; blocks = replicate (references_of g) clean }

-- the update of a data block with this offset was taken
abbrev pub updated : References → ℕ → Point → References
updated r offset point =
    record r {
      applied = slice_set r.applied (sector_of_offset r.geometry offset) point;
      blocks = with_dirty_points r.blocks (sector_of_offset r.geometry offset / 8) (changed_at point);
    }

-- what the n-th sector of the slab says, with these counters of its data blocks
abbrev pub sector_at : Geometry → List Point → List ℕ → ℕ → ReferenceSector
sector_at g points counters n = record { commit = point_at points n; counters = counters_in g n counters }

abbrev pub eight : List ℕ
eight = 0 ∷ 1 ∷ 2 ∷ 3 ∷ 4 ∷ 5 ∷ 6 ∷ 7 ∷ []

-- what a block says
abbrev pub sectors_of : Geometry → List Point → List ℕ → ℕ → List ReferenceSector
sectors_of g points counters block = map (λ j. sector_at g points counters (8 * block + j)) eight

-- the sectors of a block are as the first list has them, and all others as the second
abbrev pub end_of : List Point → ℕ → ℕ
end_of points block = min (8 * block + 8) (length points)

abbrev pub with_sectors : List Point → ℕ → List Point → List Point
with_sectors points block others =
    take (8 * block) others ++ (take (end_of points block - 8 * block) (drop (8 * block) points) ++ drop (end_of points block) others)

-- greater than all points that there are
abbrev pub last_point : Point
last_point = record { 0 = 2 ^ 64 - 1 }

-- the block that was dirtied first of those that aren't being written is written now, with these bytes
pub record HandsOutBlock (old new : References) (counters bytes : List ℕ) (block : ℕ) : Type 0 where
  pub first : HandsOut old.blocks new.blocks last_point block
  pub says : bytes ≡ reference_bytes (sectors_of old.geometry old.applied counters block)
  pub keeps : new.handed ≡ with_sectors old.applied block old.handed
  pub same : new ≡ record old { handed = new.handed; blocks = new.blocks }

-- no block is dirty that isn't being written
abbrev pub NoneDirty : References → Type 0
NoneDirty r = (block : ℕ) (first : Point) → first.0 < 2 ^ 64 → ¬ IsDue (dirty_points_at r.blocks block) first

-- the block's write is durable
abbrev pub written : References → ℕ → References
written r block = record r { blocks = with_dirty_points r.blocks block settled }

-- what is true at every moment
pub record IsKept (r : References) : Type 0 where
  pub sectors : length r.applied ≡ sectors_per_slab r.geometry
  pub handed : length r.handed ≡ sectors_per_slab r.geometry
  pub blocks : length r.blocks ≡ references_of r.geometry
