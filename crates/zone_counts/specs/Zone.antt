-- The slabs of a physical zone: what their blocks are worth to those who ask, and to the tickets that are out.
use Rattle.std.specs.Prelude.{ℕ, ◌≡◌, ◌+◌, ◌-◌, ◌*◌, ◌/◌, ◌%◌, ◌<◌, ◌⊎◌, Bool, true, false, List, [], length, sum_by, slice_index_or, slice_set}
use Rattle.blk_base.specs.Regions.{IsDataBlock, first_slab_of, slab_stride_of}
use Rattle.blk_base.specs.Limits.{IsGeometry}
use Rattle.blk_base.specs.declared.geometry.Geometry.{Geometry}
use Rattle.blk_base.specs.declared.opened.Opened.{Opened}
use Rattle.blk_base.specs.declared.place.Pbn.{Pbn}
use Rattle.slab_counts.specs.Counts.{Counts, IsOpening, HasNoFree, ClaimsFree, claims_of, used_of}
use Rattle.slab_counts.specs.Kept.{IsWithin}
use Rattle.slab_tickets.specs.Tickets.{Desk, empty_desk, NoneWaits, Gives, begun}

-- `zone` is the number of this zone, of `zones`. Slab n of the image belongs to zone n mod `zones`, and is the slab
-- n / `zones` of those.
pub record Zone : Type 0 where
  pub geometry : Geometry
  pub zone : ℕ
  pub zones : ℕ
  pub slabs : List Counts
  pub desk : Desk

-- no slab: what stands where there is none
abbrev pub nowhere : Counts
nowhere = record {
  geometry = record { logical = 0; slabs = 0; slab_blocks = 0; journal = 0; index = 0; slab_journal = 0; height = 0; nonce = 0 };
  slab = 0;
  counters = [];
  claims = [];
  pages = [];
}

abbrev pub slab_at : List Counts → ℕ → Counts
slab_at slabs k = slice_index_or slabs k nowhere

-- the number of a data block's slab, and where it stands among those of its zone
abbrev pub slab_number : Geometry → Pbn → ℕ
slab_number g at = (at.0 - first_slab_of g) / slab_stride_of g

abbrev pub place_in : Geometry → ℕ → Pbn → ℕ
place_in g zones at = slab_number g at / zones

-- it is a data block of one of the slabs of the zone with this number
pub record IsOf (g : Geometry) (zone zones : ℕ) (at : Pbn) : Type 0 where
  pub data_block : IsDataBlock g at.0
  pub own : slab_number g at % zones ≡ zone

abbrev pub IsOfZone : Zone → Pbn → Type 0
IsOfZone z at = IsOf z.geometry z.zone z.zones at

abbrev pub index_of : Zone → Pbn → ℕ
index_of z at = place_in z.geometry z.zones at

abbrev pub slab_of : Zone → Pbn → Counts
slab_of z at = slab_at z.slabs (index_of z at)

-- there is a claim on this data block of the zone
pub record IsClaimedIn (z : Zone) (at : Pbn) : Type 0 where
  pub own : IsOfZone z at
  pub some : 0 < claims_of (slab_of z at) at

-- how many data blocks of the slabs have a counter above 0
abbrev pub used_in : List Counts → ℕ
used_in slabs = sum_by used_of slabs

-- the slab of the block has these counts
abbrev pub with_slab : Zone → Pbn → Counts → Zone
with_slab z at counts = record z { slabs = slice_set z.slabs (index_of z at) counts }

-- no slab up to this one, and none at all, has a free block
abbrev pub NoneBefore : List Counts → ℕ → Type 0
NoneBefore slabs cursor = (k : ℕ) → k < cursor → HasNoFree (slab_at slabs k)

abbrev pub NoneFree : List Counts → Type 0
NoneFree slabs = (k : ℕ) → k < length slabs → HasNoFree (slab_at slabs k)

-- this is the lowest free block of the slabs, and now it is claimed
pub record ClaimsLowest (old new : List Counts) (at : Pbn) : Type 0 where
  pub place : ℕ
  pub inside : place < length old
  pub before : NoneBefore old place
  pub slab : Counts
  pub claims : ClaimsFree (slab_at old place) slab at
  pub after : new ≡ slice_set old place slab

-- the lowest free block goes to the oldest ticket without one
pub record ServesOldest (slabs : List Counts) (desk : Desk) (slabs' : List Counts) (desk' : Desk) : Type 0 where
  pub block : Pbn
  pub claims : ClaimsLowest slabs slabs' block
  pub gives : Gives desk desk' block

-- where a ticket waits and a block is free, the one goes to the other; else nothing changes
abbrev pub Serves : List Counts → Desk → List Counts → Desk → Type 0
Serves slabs desk slabs' desk' = ((NoneWaits desk ⊎ NoneFree slabs) × (slabs' ≡ slabs) × (desk' ≡ desk)) ⊎ ServesOldest slabs desk slabs' desk'

-- the slab of the block has these counts, and if the block became free by that, the oldest ticket without one is served
pub record Changes (old new : Zone) (at : Pbn) (counts : Counts) : Type 0 where
  pub serves : Serves (slice_set old.slabs (index_of old at) counts) old.desk new.slabs new.desk
  pub same : new ≡ record old { slabs = new.slabs; desk = new.desk }

-- these are the slabs of the zone with this number, each with the numbers of its blocks
pub record AreSlabs (g : Geometry) (zone zones : ℕ) (slabs : List Counts) : Type 0 where
  pub sizes : IsGeometry g
  pub number : zone < zones
  pub all : (n : ℕ) → n < g.slabs → n % zones ≡ zone → n / zones < length slabs
  pub each : (k : ℕ) → k < length slabs → ((slab_at slabs k).slab ≡ k * zones + zone) × ((slab_at slabs k).geometry ≡ g) × IsWithin (slab_at slabs k)

-- where a ticket waits no block is free
abbrev pub IsSettled : List Counts → Desk → Type 0
IsSettled slabs desk = NoneWaits desk ⊎ NoneFree slabs

-- what is true of a zone at every moment
pub record IsZone (z : Zone) : Type 0 where
  pub slabs : AreSlabs z.geometry z.zone z.zones z.slabs
  pub desk : z.desk.zone ≡ z.zone
  pub settled : IsSettled z.slabs z.desk

-- a step begins, behind one at whose end some block was free, or none was
pub record BeginsBehind (free : Bool) (old new : Zone) (step : ℕ) : Type 0 where
  pub some : free ≡ true → ¬ NoneFree old.slabs
  pub none : free ≡ false → NoneFree old.slabs
  pub after : new ≡ record old { desk = begun free step old.desk }

abbrev pub BeginsStep : Zone → Zone → ℕ → Type 0
BeginsStep old new step = (free : Bool) × BeginsBehind free old new step

-- how many slabs of the image are of the zone
abbrev pub slabs_of_zone : Geometry → ℕ → ℕ → ℕ
slabs_of_zone g zone zones = (g.slabs + zones - 1 - zone) / zones

-- the first so many slabs of the zone, as an image of these sizes with these counters and tree pages is opened
pub record AreOpenedWith (g : Geometry) (counters : List ℕ) (pages : List Pbn) (zone zones count : ℕ) (slabs : List Counts) : Type 0 where
  pub length_is : length slabs ≡ count
  pub each : (k : ℕ) → k < count → IsOpening g (k * zones + zone) counters pages (slab_at slabs k) × IsWithin (slab_at slabs k)

-- the same, of an opened image
abbrev pub AreOpened : Opened → ℕ → ℕ → ℕ → List Counts → Type 0
AreOpened opened zone zones count slabs = AreOpenedWith opened.head.geometry opened.counters.items opened.tree_pages.items zone zones count slabs

-- how a zone is opened: all its slabs, no ticket, and no step
pub record IsOpeningZone (opened : Opened) (number zones' room : ℕ) (z : Zone) : Type 0 where
  pub geometry : z.geometry ≡ opened.head.geometry
  pub zone : z.zone ≡ number
  pub zones : z.zones ≡ zones'
  pub slabs : AreOpened opened number zones' (slabs_of_zone opened.head.geometry number zones') z.slabs
  pub desk : z.desk ≡ empty_desk number room
