-- How often blocks stand in lists of pages and of mapped blocks; and which of the data blocks have another stored count.
use Rattle.std.specs.Prelude.{ℕ, zero, suc, ◌≡◌, ◌⊎◌, ◌+◌, ◌/◌, ◌%◌, ◌<◌, ◌==◌, nat_lt, if◌then◌else◌, List, [], ◌∷◌, ◌++◌, length, Contains, slice_index, unwrap_or}
use Rattle.std.specs.BTreeMap.{BTreeMap, get}
use Rattle.std.specs.Ordering.{nat_cmp}
use Rattle.blk_base.specs.declared.geometry.Geometry.{Geometry}
use Rattle.blk_base.specs.declared.layout.DataPlace.{DataPlace}
use Rattle.blk_base.specs.declared.place.Pbn.{Pbn}
use Rattle.blk_base.specs.Regions.{data_blocks}
use Rattle.count_updates.specs.Numbers.{block_number}
use Rattle.image_model.specs.Counts.{block_of_data}
use Rattle.image_model.specs.Sound.{IsDataPlace}
use Rattle.plain_laws.specs.Sums.{bit, total}
use Rattle.replay_map.specs.Replayed.{times}
use Rattle.replay_map.specs.declared.links.Link.{Link}
use Rattle.audit.specs.declared.forms.Difference.{Difference}
use Rattle.audit.specs.declared.tallies.MappingCounts.{MappingCounts}

-- a page of this list stands at the block
abbrev pub IsLinked : List Link → Pbn → Type 0
IsLinked links block = (link : Link) × Contains links link × (link.at ≡ block)

-- a block stands so often among the mapped ones, and once more where a page stands there
pub record Tallies (links : List Link) (mapped : List Pbn) (block : Pbn) (count : ℕ) : Type 0 where
  pub pages : ℕ
  pub one_page : ((pages ≡ 1) × IsLinked links block) ⊎ ((pages ≡ 0) × (IsLinked links block → ⊥))
  pub sum : count ≡ times block mapped + pages

-- that of each data block, by its number: slab after slab
abbrev pub AreNumbers : Geometry → List Link → List Pbn → (ℕ → ℕ) → Type 0
AreNumbers g links mapped counts = (place : DataPlace) → IsDataPlace g place → Tallies links mapped (block_of_data g place) (counts (block_number g place))

-- the same as a list
pub record AreTallied (g : Geometry) (links : List Link) (mapped : List Pbn) (counts : List ℕ) : Type 0 where
  pub size : length counts ≡ data_blocks g
  pub each : (place : DataPlace) → IsDataPlace g place → Tallies links mapped (block_of_data g place) (slice_index counts (block_number g place))

-- the number of this data block was changed so, and no other
pub record IsChanged (g : Geometry) (at : Pbn) (change : ℕ → ℕ) (old new : ℕ → ℕ) : Type 0 where
  pub here : (place : DataPlace) → IsDataPlace g place → block_of_data g place ≡ at → new (block_number g place) ≡ change (old (block_number g place))
  pub others : (place : DataPlace) → IsDataPlace g place → (block_of_data g place ≡ at → ⊥) → new (block_number g place) ≡ old (block_number g place)

-- what the map of a tally has of a data block
abbrev pub more_of : BTreeMap ℕ ℕ → ℕ → ℕ
more_of more n = unwrap_or (get nat_cmp more n) 0

-- its number: its byte, and what the map has more
abbrev pub number_in : MappingCounts → ℕ → ℕ
number_in tally n = slice_index tally.low.items n + more_of tally.more n

-- the map has something only of blocks whose byte is the greatest
abbrev pub IsSplit : MappingCounts → Type 0
IsSplit tally = (n : ℕ) → slice_index tally.low.items n < 255 → more_of tally.more n ≡ 0

-- Where stored counts and these numbers differ.

-- the data block with this number
abbrev pub place_of_number : Geometry → ℕ → DataPlace
place_of_number g n = record { slab = n / g.slab_blocks; offset = n % g.slab_blocks }

-- both numbers of it
abbrev pub row_of : Geometry → List ℕ → (ℕ → ℕ) → ℕ → Difference
row_of g stored mapped n = record { at = block_of_data g (place_of_number g n); stored = slice_index stored n; mapped = mapped n }

-- that, where it differs
abbrev pub difference_in : Geometry → List ℕ → (ℕ → ℕ) → ℕ → List Difference
difference_in g stored mapped n = if slice_index stored n == mapped n then [] else row_of g stored mapped n ∷ []

-- those of the first n data blocks, in their order
abbrev pub differences_below : Geometry → List ℕ → (ℕ → ℕ) → ℕ → List Difference
differences_below g stored mapped zero = []
differences_below g stored mapped (suc n) = differences_below g stored mapped n ++ difference_in g stored mapped n

-- how many numbers are above 0
abbrev pub used_in : List ℕ → ℕ
used_in counts = total (λ count. bit (nat_lt 0 count)) counts
