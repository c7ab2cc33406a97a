-- A block of reference counters as bytes.
use Rattle.std.specs.Prelude.{ℕ, ◌*◌, List, ◌++◌, take, drop, replicate, flat_map}
use Rattle.blk_base.specs.Counters.{counters_per_sector}
use Rattle.blk_base.specs.declared.geometry.Geometry.{Geometry}
use Rattle.byte_fields.specs.Fields.{le}
use Rattle.slab_codec.specs.declared.forms.ReferenceSector.{ReferenceSector}

-- a sector, 512 bytes: its commit point, and its counters, of one byte each
unfoldable pub reference_sector_bytes : ReferenceSector → List ℕ
reference_sector_bytes one = le 8 one.commit.0 ++ one.counters

-- a block, 4096 bytes: its eight sectors
unfoldable pub reference_bytes : List ReferenceSector → List ℕ
reference_bytes sectors = flat_map reference_sector_bytes sectors

-- the counters of a slab that its n-th sector has, and zeros past the slab's end
abbrev pub counters_in : Geometry → ℕ → List ℕ → List ℕ
counters_in g n counters = take (counters_per_sector g) (drop (counters_per_sector g * n) counters ++ replicate (counters_per_sector g) 0)
