-- Updates that a slab took, the newest first, and what they make of its counters and commit points.
use Rattle.std.specs.Prelude.{ℕ, ◌≡◌, ◌+◌, ◌-◌, ◌<◌, ◌==◌, if◌then◌else◌, List, [], ◌∷◌, All, filter, nat_le, slice_index, slice_set}
use Rattle.blk_base.specs.Counters.{sector_of_offset}
use Rattle.blk_base.specs.Points.{half_of}
use Rattle.blk_base.specs.declared.geometry.Geometry.{Geometry}
use Rattle.blk_base.specs.declared.point.Half.{Half}
use Rattle.blk_base.specs.declared.point.Half.TheVariants.{Increment, Decrement}
use Rattle.blk_base.specs.declared.point.Point.{Point}
use Rattle.plain_laws.specs.Leads.{LeadsBy}
use Rattle.slab_codec.specs.declared.forms.SlabEntry.{SlabEntry}
use Rattle.dirty_pages.specs.DirtyPoints.{IsBeingWritten, dirty_points_at}
use Rattle.reference_blocks.specs.References.{References, HandsOutBlock, point_at, updated, written}

-- a call by what it did: an update is taken, a block is handed out with counters and bytes, its write is durable
pub data Operation : Type 0 where
  Updated : SlabEntry → Operation
  HandedOut : List ℕ → List ℕ → ℕ → Operation
  Written : ℕ → Operation

-- what a call does, as its contract says
abbrev pub Does : Operation → References → References → Type 0
Does (Updated entry) old new = (entry.offset < old.geometry.slab_blocks) × (new ≡ updated old entry.offset entry.point)
Does (HandedOut counters bytes block) old new = HandsOutBlock old new counters bytes block
Does (Written block) old new = IsBeingWritten (dirty_points_at old.blocks block) × (new ≡ written old block)

-- these calls, the newest first, lead from the one to the other
abbrev pub LeadTo : References → List Operation → References → Type 0
LeadTo old calls new = LeadsBy Does old calls new

-- the updates of these calls
abbrev pub updates_of : List Operation → List SlabEntry
updates_of [] = []
updates_of (Updated entry ∷ calls) = entry ∷ updates_of calls
updates_of (other ∷ calls) = updates_of calls

-- a counter after an update of this half
abbrev pub counted : Half → ℕ → ℕ
counted Increment count = count + 1
counted Decrement count = count - 1

-- the counters of a slab after these updates
abbrev pub counters_after : List ℕ → List SlabEntry → List ℕ
counters_after first [] = first
counters_after first (entry ∷ entries) =
    slice_set (counters_after first entries) entry.offset (counted (half_of entry.point.0) (slice_index (counters_after first entries) entry.offset))

-- the point of the newest update of a sector, or else this one
abbrev pub newest_of : Geometry → ℕ → List SlabEntry → Point → Point
newest_of g n [] point = point
newest_of g n (entry ∷ entries) point = if sector_of_offset g entry.offset == n then entry.point else newest_of g n entries point

-- their points rise, and each is above the one with which its sector was opened
abbrev pub AreRising : Geometry → List Point → List SlabEntry → Type 0
AreRising g opened [] = Unit {0}
AreRising g opened (entry ∷ entries) =
    All (λ older. older.point.0 < entry.point.0) entries × ((point_at opened (sector_of_offset g entry.offset)).0 < entry.point.0) × AreRising g opened entries

-- those that aren't above the point of their sector
abbrev pub up_to : Geometry → List Point → List SlabEntry → List SlabEntry
up_to g points entries = filter (λ entry. nat_le entry.point.0 (point_at points (sector_of_offset g entry.offset)).0) entries
