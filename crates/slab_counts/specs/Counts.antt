-- What is known of the data blocks of a slab: how many mappings of each are counted, and how many claims are on it.
use Rattle.std.specs.Prelude.{ℕ, ◌≡◌, ◌+◌, ◌-◌, ◌*◌, ◌<◌, ◌≤◌, ◌⊎◌, ◌↔◌, Bool, true, false, List, take, drop, replicate, length, slice_index, slice_index_or, slice_set, Contains, nat_lt, filter}
use Rattle.blk_base.specs.Counters.{limit_of}
use Rattle.blk_base.specs.Regions.{slab_start_of}
use Rattle.blk_base.specs.declared.geometry.Geometry.{Geometry}
use Rattle.blk_base.specs.declared.place.Pbn.{Pbn}
use Rattle.blk_base.specs.declared.point.Half.{Half}
use Rattle.blk_base.specs.declared.point.Half.TheVariants.{Increment, Decrement}
use Rattle.slab_counts.specs.declared.refusals.Refusal.{Refusal}
use Rattle.slab_counts.specs.declared.refusals.Refusal.TheVariants.{NotData, NotLive, Full}

-- In the order of the slab's data blocks: `counters` has how many mappings of each are counted, `claims` how many claims
-- are on it, those that somebody holds and the spent ones whose increment isn't taken yet, and `pages` whether it has a
-- page of the block map.
pub record Counts : Type 0 where
  pub geometry : Geometry
  pub slab : ℕ
  pub counters : List ℕ
  pub claims : List ℕ
  pub pages : List Bool

-- it is a data block of the slab; where it stands among these
abbrev pub IsOfSlab : Counts → Pbn → Type 0
IsOfSlab c at = (slab_start_of c.geometry c.slab ≤ at.0) × (at.0 < slab_start_of c.geometry c.slab + c.geometry.slab_blocks)

abbrev pub offset_of : Counts → Pbn → ℕ
offset_of c at = at.0 - slab_start_of c.geometry c.slab

-- its counter, the claims on it, and whether it has a page of the block map
abbrev pub counter_of : Counts → Pbn → ℕ
counter_of c at = slice_index c.counters (offset_of c at)

abbrev pub claims_of : Counts → Pbn → ℕ
claims_of c at = slice_index c.claims (offset_of c at)

abbrev pub IsPage : Counts → Pbn → Type 0
IsPage c at = slice_index_or c.pages (offset_of c at) false ≡ true

-- how many have a counter above 0
abbrev pub used_of : Counts → ℕ
used_of c = length (filter (λ count. nat_lt 0 count) c.counters)

-- nothing is mapped to it, and nobody has a claim on it
abbrev pub IsFree : Counts → Pbn → Type 0
IsFree c at = (counter_of c at ≡ 0) × (claims_of c at ≡ 0)

-- one more claim fits
abbrev pub HasRoom : Counts → Pbn → Type 0
HasRoom c at = counter_of c at + claims_of c at < limit_of c.geometry

-- there is a claim on this data block of the slab
pub record IsClaimed (c : Counts) (at : Pbn) : Type 0 where
  pub of_slab : IsOfSlab c at
  pub some : 0 < claims_of c at

-- how an image is opened: with those of its counters that are the slab's, no claims, and its tree pages
pub record IsOpening (g : Geometry) (number : ℕ) (all : List ℕ) (tree_pages : List Pbn) (c : Counts) : Type 0 where
  pub geometry : c.geometry ≡ g
  pub slab : c.slab ≡ number
  pub counters : c.counters ≡ take g.slab_blocks (drop (number * g.slab_blocks) all)
  pub claims : c.claims ≡ replicate g.slab_blocks 0
  pub pages : (at : Pbn) → IsOfSlab c at → IsPage c at ↔ Contains tree_pages at

-- one more claim, one less; a mapping more, for which there was a claim, and one less; one more tree page
abbrev pub claimed : Counts → Pbn → Counts
claimed c at = record c { claims = slice_set c.claims (offset_of c at) (claims_of c at + 1) }

abbrev pub unclaimed : Counts → Pbn → Counts
unclaimed c at = record c { claims = slice_set c.claims (offset_of c at) (claims_of c at - 1) }

abbrev pub mapped : Counts → Pbn → Counts
mapped c at = record (unclaimed c at) { counters = slice_set c.counters (offset_of c at) (counter_of c at + 1) }

abbrev pub unmapped : Counts → Pbn → Counts
unmapped c at = record c { counters = slice_set c.counters (offset_of c at) (counter_of c at - 1) }

abbrev pub with_page : Counts → Pbn → Counts
with_page c at = record c { pages = slice_set c.pages (offset_of c at) true }

-- this is the lowest free block, and now it is claimed
pub record ClaimsFree (old new : Counts) (at : Pbn) : Type 0 where
  pub of_slab : IsOfSlab old at
  pub free : IsFree old at
  pub lowest : (other : Pbn) → IsOfSlab old other → other.0 < at.0 → ¬ IsFree old other
  pub now_claimed : new ≡ claimed old at

-- no block is free
abbrev pub HasNoFree : Counts → Type 0
HasNoFree c = (at : Pbn) → IsOfSlab c at → ¬ IsFree c at

-- something is mapped to this data block, one more claim fits, and now it is there
pub record Shares (old new : Counts) (at : Pbn) : Type 0 where
  pub of_slab : IsOfSlab old at
  pub data_block : ¬ IsPage old at
  pub live : 0 < counter_of old at
  pub room : HasRoom old at
  pub now_claimed : new ≡ claimed old at

-- why a block can't be shared: the first of these that applies
abbrev pub IsRefused : Refusal → Counts → Pbn → Type 0
IsRefused NotData c at = (¬ IsOfSlab c at) ⊎ IsPage c at
IsRefused NotLive c at = IsOfSlab c at × (¬ IsPage c at) × (counter_of c at ≡ 0)
IsRefused Full c at = IsOfSlab c at × (¬ IsPage c at) × (0 < counter_of c at) × (¬ HasRoom c at)

-- the update fits, and is taken
abbrev pub Takes : Half → Counts → Counts → Pbn → Type 0
Takes Increment old new at = (counter_of old at < limit_of old.geometry) × (0 < claims_of old at) × (new ≡ mapped old at)
Takes Decrement old new at = (0 < counter_of old at) × (new ≡ unmapped old at)

-- the update doesn't fit
abbrev pub IsStray : Half → Counts → Pbn → Type 0
IsStray Increment c at = (limit_of c.geometry ≤ counter_of c at) ⊎ (claims_of c at ≡ 0)
IsStray Decrement c at = counter_of c at ≡ 0
