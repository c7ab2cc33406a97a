-- The fields of what is to be written of a slab, as it is.
use Rattle.slab_writes.specs.Writes.{Writes, IsKept}
use Rattle.slab_writes.specs.declared.writes.SlabWrites.TheInside.{Inside}

abbrev pub writes_of : Inside → Writes
writes_of s = record { journal = s.journal; blocks = s.blocks }

abbrev pub IsKeptIn : Inside → Type 0
IsKeptIn s = IsKept s.layout.geometry s.slab (writes_of s)
