-- The fields of a zone as what is known of its slabs.
use Rattle.slab_zone.specs.Whole.{WholeZone, IsWhole}
use Rattle.slab_zone.specs.declared.zone.SlabZone.TheInside.{Inside}

abbrev pub whole_of : Inside → WholeZone
whole_of s = record { counts = s.counts; writes = s.writes.items }

abbrev pub IsKept : Inside → Type 0
IsKept s = IsWhole (whole_of s)
