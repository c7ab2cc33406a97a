-- The zones by their names, and the number of each among all: the desk, the logical zones, the physical zones, the journal,
-- the device.
use Rattle.std.specs.Prelude.{ℕ, zero, suc, ◌+◌, ◌%◌, ◌<◌, List, [], ◌∷◌, ◌++◌}
use Rattle.blk_base.specs.declared.place.Pbn.{Pbn}
use Rattle.blk_base.specs.declared.place.ZoneId.{ZoneId}
use Rattle.blk_base.specs.declared.place.ZoneId.TheVariants as id
use Rattle.data_vio.specs.declared.sizes.Sizes.{Sizes}
use Rattle.zone_counts.specs.Zone.{slab_number}

abbrev pub zone_count : Sizes → ℕ
zone_count sizes = 3 + sizes.zones + sizes.physical

-- the number of a zone; one that a core doesn't have has none below the count
abbrev pub zone_number : Sizes → ZoneId → ℕ
zone_number sizes id.Desk = 0
zone_number sizes (id.Logical n) = 1 + n
zone_number sizes (id.Physical n) = 1 + sizes.zones + n
zone_number sizes id.Journal = 1 + sizes.zones + sizes.physical
zone_number sizes id.Device = 2 + sizes.zones + sizes.physical
zone_number sizes other = zone_count sizes

-- a core has this zone: as many logical and physical zones as its sizes say, and of the other kinds those that have a number
-- below the count
abbrev pub IsZone : Sizes → ZoneId → Type 0
IsZone sizes (id.Logical n) = n < sizes.zones
IsZone sizes (id.Physical n) = n < sizes.physical
IsZone sizes other = zone_number sizes other < zone_count sizes

abbrev pub desk_number : ℕ
desk_number = 0

abbrev pub logical_number : ℕ → ℕ
logical_number zone = 1 + zone

abbrev pub physical_number : Sizes → ℕ → ℕ
physical_number sizes zone = zone_number sizes (id.Physical zone)

abbrev pub journal_number : Sizes → ℕ
journal_number sizes = zone_number sizes id.Journal

abbrev pub device_number : Sizes → ℕ
device_number sizes = zone_number sizes id.Device

-- the physical zone that counts the mappings of a data block: the slabs go round
abbrev pub physical_zone_of : Sizes → Pbn → ℕ
physical_zone_of sizes x = slab_number sizes.geometry x % sizes.physical

abbrev pub counts_in : Sizes → Pbn → ZoneId
counts_in sizes x = id.Physical (physical_zone_of sizes x)

-- the logical zones below a number, and the physical ones
abbrev pub logical_zones : ℕ → List ZoneId
logical_zones zero = []
logical_zones (suc n) = id.Logical n ∷ logical_zones n

abbrev pub physical_zones : ℕ → List ZoneId
physical_zones zero = []
physical_zones (suc n) = id.Physical n ∷ physical_zones n

-- the zones that the device notifies of a stop, and each of them the desk: all but these two; and how many these are
abbrev pub notified : Sizes → List ZoneId
notified sizes = id.Journal ∷ (physical_zones sizes.physical ++ logical_zones sizes.zones)

abbrev pub notified_zones : Sizes → ℕ
notified_zones sizes = 1 + sizes.physical + sizes.zones
