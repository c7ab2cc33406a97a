-- Which updates of a slab's journal aren't durable yet, and from which point on there are some.
use Rattle.std.specs.Prelude.{◌≡◌, ◌≤◌, ◌⊎◌, List, [], ◌∷◌, All, Contains, slice_index_or}
use Rattle.blk_base.specs.Regions.{slab_slot_of}
use Rattle.blk_base.specs.declared.geometry.Geometry.{Geometry}
use Rattle.blk_base.specs.declared.point.Point.{Point}
use Rattle.slab_codec.specs.declared.forms.SlabEntry.{SlabEntry}
use Rattle.slab_journal.specs.Slab.{Slab, IsCovered, IsWriting}

-- the updates of the block with the sequence up to which all are durable: while it is written, those of the sealed block
abbrev pub sealed_block : Slab → List SlabEntry
sealed_block log = slice_index_or log.slots (slab_slot_of log.geometry log.durable) []

-- the update is in the sealed block that isn't durable, or in the block being filled
abbrev pub IsWaiting : Slab → SlabEntry → Type 0
IsWaiting log entry = (IsWriting log × Contains (sealed_block log) entry) ⊎ Contains log.filling entry

-- and no durable sector of counters includes it
abbrev pub IsUnsettled : Slab → SlabEntry → Type 0
IsUnsettled log entry = IsWaiting log entry × ¬ IsCovered log.geometry log.commits entry

-- the least point of an update that isn't durable
pub record IsLowPoint (log : Slab) (low : Point) : Type 0 where
  pub entry : SlabEntry
  pub there : IsUnsettled log entry
  pub is : entry.point ≡ low
  pub least : (other : SlabEntry) → IsUnsettled log other → low.0 ≤ other.point.0

-- all updates are durable
abbrev pub NoneUnsettled : Slab → Type 0
NoneUnsettled log = (entry : SlabEntry) → ¬ IsUnsettled log entry

-- of these updates the one with the least point of those that no durable sector includes has this point
pub record IsLeastUncovered (g : Geometry) (commits : List Point) (entries : List SlabEntry) (point : Point) : Type 0 where
  pub entry : SlabEntry
  pub there : Contains entries entry
  pub uncovered : ¬ IsCovered g commits entry
  pub is : entry.point ≡ point
  pub least : (other : SlabEntry) → Contains entries other → ¬ IsCovered g commits other → point.0 ≤ other.point.0

-- the points of these updates don't fall
abbrev pub IsRising : List SlabEntry → Type 0
IsRising [] = Unit {0}
IsRising (entry ∷ entries) = All (λ later. entry.point.0 ≤ later.point.0) entries × IsRising entries
