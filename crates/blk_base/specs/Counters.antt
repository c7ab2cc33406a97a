-- Reference counters: how high they count, and in which sectors they stand. A block has eight sectors.
use Rattle.std.specs.Prelude.{ℕ, ◌+◌, ◌-◌, ◌*◌, ◌/◌}
use Rattle.blk_base.specs.declared.geometry.Geometry.{Geometry}
use Rattle.blk_base.specs.declared.sizes.TheConstants.{SECTOR_COUNTERS, COUNT_LIMIT}

-- the greatest count of a data block, with the claims on it
abbrev pub limit_of : Geometry → ℕ
limit_of g = COUNT_LIMIT

-- how many counters a sector has
abbrev pub counters_per_sector : Geometry → ℕ
counters_per_sector g = SECTOR_COUNTERS

-- and a block
abbrev pub counters_per_block : Geometry → ℕ
counters_per_block g = 8 * counters_per_sector g

-- how many sectors have the counters of a slab, and in which of them that of a data block's offset stands
abbrev pub sectors_per_slab : Geometry → ℕ
sectors_per_slab g = (g.slab_blocks + counters_per_sector g - 1) / counters_per_sector g

abbrev pub sector_of_offset : Geometry → ℕ → ℕ
sector_of_offset g offset = offset / counters_per_sector g
