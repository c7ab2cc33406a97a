-- Counts that are made from the lists of a map.
use Rattle.std.specs.Prelude.{ℕ, ◌≡◌, ◌<◌, ◌≤◌, List, All, length, slice_index}
use Rattle.audit.specs.Tallies.{AreTallied, place_of_number, used_in}
use Rattle.blk_base.specs.Counters.{limit_of}
use Rattle.blk_base.specs.declared.geometry.Geometry.{Geometry}
use Rattle.blk_base.specs.declared.layout.DataPlace.{DataPlace}
use Rattle.blk_base.specs.declared.place.Pbn.{Pbn}
use Rattle.blk_base.specs.Regions.{data_blocks}
use Rattle.image_model.specs.Counts.{HasMappings, block_of_data}
use Rattle.image_model.specs.Maps.{Image, ArePagesGood}
use Rattle.image_model.specs.Sound.{AreUnshared, IsDataPlace}
use Rattle.image_model.specs.declared.fault.ImageFault.{ImageFault}
use Rattle.image_model.specs.declared.fault.ImageFault.TheVariants.{Counts, Memory}
use Rattle.replay_map.specs.declared.recovered.RecoveredMap.{RecoveredMap}
use Rattle.force_rebuild.specs.Rebuildable.{IsCountable}
use Rattle.force_rebuild.specs.Written.{AreMappings}
use Rattle.force_rebuild.specs.declared.forms.Forced.{Forced}

-- By the lists.

-- the counters of all data blocks, by the lists of a map; each is within the limit
pub record AreCounters (g : Geometry) (map : RecoveredMap) (counters : List ℕ) : Type 0 where
  pub tallied : AreTallied g map.links.items map.mapped.items counters
  pub limit : All (λ count. count ≤ limit_of g) counters

-- this is the first number above the limit
pub record IsFirstAbove (limit : ℕ) (counts : List ℕ) (n : ℕ) : Type 0 where
  pub inside : n < length counts
  pub above : limit < slice_index counts n
  pub before : (k : ℕ) → k < n → slice_index counts k ≤ limit

-- it is that of this data block, and how often it is mapped
pub record IsAbove (g : Geometry) (counts : List ℕ) (at : Pbn) (stored mapped : ℕ) : Type 0 where
  pub number : ℕ
  pub first : IsFirstAbove (limit_of g) counts number
  pub at_is : at ≡ block_of_data g (place_of_number g number)
  pub stored_is : stored ≡ limit_of g
  pub mapped_is : mapped ≡ slice_index counts number

-- what is answered of counts that have such a number
abbrev pub IsLimitFault : Geometry → List ℕ → ImageFault → Type 0
IsLimitFault g counts (Counts at stored mapped) = IsAbove g counts at stored mapped
IsLimitFault g counts other = ⊥

-- what is answered of the data block with this number, which is mapped so often
abbrev pub IsFaultOf : Geometry → ℕ → ℕ → ImageFault → Type 0
IsFaultOf g number mapped why = why ≡ Counts (block_of_data g (place_of_number g number)) (limit_of g) mapped

-- or there is no memory
abbrev pub CountersFail : Geometry → RecoveredMap → ImageFault → Type 0
CountersFail g map (Counts at stored mapped) =
    (counts : List ℕ) × AreTallied g map.links.items map.mapped.items counts × IsAbove g counts at stored mapped
CountersFail g map Memory = Unit {0}
CountersFail g map other = ⊥

-- In an image.

-- Its map has no fault, and a counter can say each number of mappings: so many data blocks have some, of so many.
pub record IsCountedTo (image : Image) (forced : Forced) : Type 0 where
  pub pages : ArePagesGood image
  pub unshared : AreUnshared image
  pub counters : List ℕ
  pub mappings : AreMappings image counters
  pub used : forced.used ≡ used_in counters
  pub all : forced.total ≡ data_blocks image.geometry

-- Its map has no fault; this data block is mapped more often than a counter can say, the least such one.
pub record IsUncountable (image : Image) (at : Pbn) (stored mapped : ℕ) : Type 0 where
  pub pages : ArePagesGood image
  pub unshared : AreUnshared image
  pub place : DataPlace
  pub inside : IsDataPlace image.geometry place
  pub stands : block_of_data image.geometry place ≡ at
  pub limit : stored ≡ limit_of image.geometry
  pub maps : HasMappings image at mapped
  pub above : stored < mapped
  pub first : (other : DataPlace) → IsDataPlace image.geometry other → (block_of_data image.geometry other).0 < at.0 → IsCountable image other
