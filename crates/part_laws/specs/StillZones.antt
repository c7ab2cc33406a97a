-- A zone of slabs in which nothing is being written.
use Rattle.std.specs.Prelude.{ℕ, ◌<◌, length}
use Rattle.slab_zone.specs.Whole.{WholeZone, writes_at}
use Rattle.part_laws.specs.Still.{NoneOut}

-- no block of a slab is being written
abbrev pub NoneOutIn : WholeZone → Type 0
NoneOutIn z = (k : ℕ) → k < length z.writes → NoneOut (writes_at z.writes k)
