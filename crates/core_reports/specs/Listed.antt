-- What the zones of a core have of its report.
use Rattle.std.specs.Prelude.{ℕ, ◌≡◌, ◌+◌, Option, List, [], ◌∷◌, ◌++◌, Some, slice_get}
use Rattle.blk_base.specs.declared.geometry.Geometry.{Geometry}
use Rattle.vdo_model.specs.declared.report.Damage.{Damage}
use Rattle.vdo_model.specs.declared.report.Placed.{Placed}
use Rattle.core_model.specs.DeskData.{Desk}
use Rattle.data_vio.specs.Zones.{desk_number}
use Rattle.core_model.specs.JournalData.{JournalZone}
use Rattle.data_vio.specs.declared.logged.Logged.{Logged}
use Rattle.core_model.specs.declared.zones.DeviceZone.{DeviceZone}
use Rattle.core_model.specs.declared.zones.PhysicalZone.{PhysicalZone}
use Rattle.core_model.specs.declared.zones.Zone.{Zone}
use Rattle.core_model.specs.declared.zones.ZoneData.{ZoneData}
use Rattle.core_model.specs.declared.zones.ZoneData.TheVariants as at
use Rattle.zone_counts.specs.Zone.{used_in}

-- the places that a zone drew
abbrev pub places_at : ZoneData → List Placed
places_at (at.Logical l) = l.places
places_at other = []

-- those of all zones, one zone's list behind the other's; that of the first zone is the oldest
abbrev pub places_of_all : List Zone → List Placed
places_of_all [] = []
places_of_all (z ∷ zones) = places_of_all zones ++ places_at z.keeps

-- the desk is the first zone, and keeps this
pub record HasDesk (desk : Desk) (zones : List Zone) : Type 0 where
  pub zone : Zone
  pub had : slice_get zones desk_number ≡ Some zone
  pub keeps : zone.keeps ≡ at.Desk desk

-- there is a journal, and each that is there has handed in these entries
pub record HasEntered (entries : List Logged) (zones : List Zone) : Type 0 where
  pub number : ℕ
  pub zone : Zone
  pub journal : JournalZone
  pub had : slice_get zones number ≡ Some zone
  pub keeps : zone.keeps ≡ at.Journal journal
  pub each : (n : ℕ) (z : Zone) (j : JournalZone) → slice_get zones n ≡ Some z → z.keeps ≡ at.Journal j → j.entered ≡ entries

-- the device's zone is there, and each that is there found this first
pub record HasDamage (damage : Option Damage) (zones : List Zone) : Type 0 where
  pub number : ℕ
  pub zone : Zone
  pub device : DeviceZone
  pub had : slice_get zones number ≡ Some zone
  pub keeps : zone.keeps ≡ at.Device device
  pub each : (n : ℕ) (z : Zone) (d : DeviceZone) → slice_get zones n ≡ Some z → z.keeps ≡ at.Device d → d.damage ≡ damage

-- how many data blocks of a zone have a counter above 0, and how many of all zones
abbrev pub used_by : ZoneData → ℕ
used_by (at.Physical p) = used_in p.counts.slabs
used_by other = 0

abbrev pub used_by_all : List Zone → ℕ
used_by_all [] = 0
used_by_all (z ∷ zones) = used_by z.keeps + used_by_all zones

-- there is a physical zone, and each that is there is of an image of these sizes
pub record HasGeometry (geometry : Geometry) (zones : List Zone) : Type 0 where
  pub number : ℕ
  pub zone : Zone
  pub physical : PhysicalZone
  pub had : slice_get zones number ≡ Some zone
  pub keeps : zone.keeps ≡ at.Physical physical
  pub each : (n : ℕ) (z : Zone) (p : PhysicalZone) → slice_get zones n ≡ Some z → z.keeps ≡ at.Physical p → p.counts.geometry ≡ geometry
