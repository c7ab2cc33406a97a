-- The fields of a zone as what is known of its slabs and tickets.
use Rattle.zone_counts.specs.Zone.{Zone, IsZone, NoneBefore}
use Rattle.zone_counts.specs.declared.zone.ZoneCounts.TheInside.{Inside}

abbrev pub zone_of : Inside → Zone
zone_of s = record { geometry = s.layout.geometry; zone = s.zone; zones = s.zones; slabs = s.slabs.items; desk = s.tickets }

-- no slab before the cursor has a free block
pub record IsKept (s : Inside) : Type 0 where
  pub is : IsZone (zone_of s)
  pub below : NoneBefore s.slabs.items s.cursor
