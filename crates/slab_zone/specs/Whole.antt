-- The slabs of a physical zone: what their blocks are worth to those who ask, and what of each slab is to be written.
use Rattle.std.specs.Prelude.{ℕ, ◌≡◌, ◌+◌, ◌*◌, ◌<◌, List, [], length, slice_index_or}
use Rattle.blk_base.specs.declared.geometry.Geometry.{Geometry}
use Rattle.blk_base.specs.declared.opened.Opened.{Opened}
use Rattle.blk_base.specs.declared.place.Pbn.{Pbn}
use Rattle.slab_writes.specs.Writes.{Writes, opening}
use Rattle.zone_counts.specs.Zone.{Zone, IsZone, IsOpeningZone, nowhere, index_of, slabs_of_zone}

-- `counts` has the counters, claims and tickets; `writes` has for each slab of the zone, in their order, what of it is
-- to be written.
pub record WholeZone : Type 0 where
  pub counts : Zone
  pub writes : List Writes

-- nothing: what stands where there is no slab
abbrev pub nothing : Writes
nothing = opening nowhere.geometry 0 []

abbrev pub writes_at : List Writes → ℕ → Writes
writes_at writes k = slice_index_or writes k nothing

-- what is to be written of a block's slab
abbrev pub writes_of : WholeZone → Pbn → Writes
writes_of z at = writes_at z.writes (index_of z.counts at)

-- it is what is to be written of the slab with this number
pub record AreOfSlab (g : Geometry) (number : ℕ) (w : Writes) : Type 0 where
  pub journal : w.journal.geometry ≡ g
  pub slab : w.journal.slab ≡ number
  pub blocks : w.blocks.geometry ≡ g

-- they are so of each slab of the zone with this number
pub record AreOfZone (g : Geometry) (zone zones count : ℕ) (writes : List Writes) : Type 0 where
  pub many : length writes ≡ count
  pub each : (k : ℕ) → k < count → AreOfSlab g (k * zones + zone) (writes_at writes k)

-- what is true of a zone at every moment
pub record IsWhole (z : WholeZone) : Type 0 where
  pub counts : IsZone z.counts
  pub writes : AreOfZone z.counts.geometry z.counts.zone z.counts.zones (length z.counts.slabs) z.writes

-- of the first so many slabs of the zone nothing is to be written, as an image with these commit points is opened
pub record AreOpenedWrites (opened : Opened) (zone zones count : ℕ) (writes : List Writes) : Type 0 where
  pub many : length writes ≡ count
  pub each : (k : ℕ) → k < count → writes_at writes k ≡ opening opened.head.geometry (k * zones + zone) opened.commits.items

-- how a zone is opened: its slabs with the counters of the image, no ticket, no step, and nothing to be written
pub record IsOpeningWhole (opened : Opened) (zone zones room : ℕ) (z : WholeZone) : Type 0 where
  pub counts : IsOpeningZone opened zone zones room z.counts
  pub writes : AreOpenedWrites opened zone zones (slabs_of_zone opened.head.geometry zone zones) z.writes
