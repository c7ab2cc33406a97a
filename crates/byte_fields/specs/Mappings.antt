-- A mapping of the block map, or of a journal's entry, as 5 bytes.
use Rattle.std.specs.Prelude.{ℕ, ◌≤◌, ◌<◌, ◌^◌, List, ◌++◌}
use Rattle.blk_base.specs.declared.place.Mapping.{Mapping}
use Rattle.blk_base.specs.declared.place.Mapping.TheVariants.{Unmapped, Zero, At}
use Rattle.byte_fields.specs.Fields.{le}

-- The low half of the first byte is the state: 0 unmapped, 1 a block, where block 0 stands for zeros. The high half has
-- the bits of the block from 32 on, which are 0. Then come the low 32 bits.
abbrev pub state_of : Mapping → ℕ
state_of Unmapped = 0
state_of Zero = 1
state_of (At block) = 1

abbrev pub target_of : Mapping → ℕ
target_of Unmapped = 0
target_of Zero = 0
target_of (At block) = block.0

unfoldable pub mapping_bytes : Mapping → List ℕ
mapping_bytes mapping = le 1 (state_of mapping) ++ le 4 (target_of mapping)

-- what 5 bytes can hold: block 0 stands for zeros, so no mapping leads there
abbrev pub HoldsMapping : Mapping → Type 0
HoldsMapping Unmapped = Unit {0}
HoldsMapping Zero = Unit {0}
HoldsMapping (At block) = (1 ≤ block.0) × (block.0 < 2 ^ 32)
