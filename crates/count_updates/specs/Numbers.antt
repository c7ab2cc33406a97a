-- The data blocks of an image and the sectors of their counters by numbers: slab after slab.
use Rattle.std.specs.Prelude.{ℕ, ◌≡◌, ◌⊎◌, ◌+◌, ◌*◌, ◌<◌}
use Rattle.blk_base.specs.Counters.{sectors_per_slab, sector_of_offset}
use Rattle.blk_base.specs.declared.geometry.Geometry.{Geometry}
use Rattle.blk_base.specs.declared.layout.DataPlace.{DataPlace}
use Rattle.blk_base.specs.Regions.{data_blocks}

-- the number of a data block
abbrev pub block_number : Geometry → DataPlace → ℕ
block_number g place = place.slab * g.slab_blocks + place.offset

-- how many sectors have their counters, and the number of that of a block
abbrev pub all_sectors : Geometry → ℕ
all_sectors g = g.slabs * sectors_per_slab g

abbrev pub sector_number : Geometry → DataPlace → ℕ
sector_number g place = place.slab * sectors_per_slab g + sector_of_offset g place.offset

-- the block stands before this offset of this slab
abbrev pub IsEarlier : DataPlace → ℕ → ℕ → Type 0
IsEarlier place slab offset = (place.slab < slab) ⊎ ((place.slab ≡ slab) × (place.offset < offset))
