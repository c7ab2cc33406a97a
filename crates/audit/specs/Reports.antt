-- What an audit of an image reports.
use Rattle.std.specs.Prelude.{ℕ, ◌≡◌, ◌<◌, ◌↔◌, List, [], ◌∷◌, length, Contains, Ok, slice_index}
use Rattle.std.specs.List.{AllByRecursion}
use Rattle.blk_base.specs.declared.layout.DataPlace.{DataPlace}
use Rattle.blk_base.specs.Regions.{data_blocks}
use Rattle.count_updates.specs.Numbers.{block_number}
use Rattle.image_model.specs.Counts.{HasMappings, Stores, block_of_data}
use Rattle.image_model.specs.Maps.{Image, ArePagesGood}
use Rattle.image_model.specs.Sound.{AreStored, AreUnshared, IsDataPlace}
use Rattle.audit.specs.declared.forms.Difference.{Difference}
use Rattle.audit.specs.declared.forms.Report.{Report}
use Rattle.audit.specs.Tallies.{used_in}

-- an image has no fault behind its window: each page is right, each data block has a stored count, and no address has the
-- block of a page
pub record HasNoFault (image : Image) : Type 0 where
  pub pages : ArePagesGood image
  pub stored : AreStored image
  pub unshared : AreUnshared image

-- a data block whose stored count isn't the number of its mappings, with both
pub record Differs (image : Image) (difference : Difference) : Type 0 where
  pub place : DataPlace
  pub inside : IsDataPlace image.geometry place
  pub stands : block_of_data image.geometry place ≡ difference.at
  pub stores : Stores image place (Ok difference.stored)
  pub maps : HasMappings image difference.at difference.mapped
  pub apart : difference.stored ≡ difference.mapped → ⊥

-- blocks in rising order
abbrev pub AreRising : List Difference → Type 0
AreRising [] = Unit {0}
AreRising (difference ∷ later) = AllByRecursion (λ (other : Difference). difference.at.0 < other.at.0) later × AreRising later

-- so many data blocks have a stored count above 0
pub record AreUsed (image : Image) (used : ℕ) : Type 0 where
  pub counts : List ℕ
  pub size : length counts ≡ data_blocks image.geometry
  pub stored : (place : DataPlace) → IsDataPlace image.geometry place → Stores image place (Ok (slice_index counts (block_number image.geometry place)))
  pub sum : used ≡ used_in counts

-- of an image without a fault: each block that differs, and no other; how many are used, and how many there are
pub record IsReport (image : Image) (report : Report) : Type 0 where
  pub right : HasNoFault image
  pub each : (difference : Difference) → Contains report.differs.items difference ↔ Differs image difference
  pub rising : AreRising report.differs.items
  pub used : AreUsed image report.used
  pub all : report.total ≡ data_blocks image.geometry
