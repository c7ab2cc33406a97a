-- The update of a counter, by its parts alone.
use Rattle.std.specs.Prelude.{ℕ}
use Rattle.slab_codec.specs.declared.forms.SlabEntry.{SlabEntry}

-- the half of an entry at this point changes the counter of the data block at this offset
abbrev pub slab_entry : ℕ → ℕ → SlabEntry
slab_entry point offset = record { point = record { 0 = point }; offset = offset }
