-- Which sizes can be had on a device.
use Rattle.std.specs.Prelude.{ℕ, ◌%◌, ◌==◌, ◌&&◌, Bool, if◌then◌else◌, nat_le, List, [], ◌∷◌, ◌++◌, Result, Ok, Err, codes}
use Rattle.std.specs.Fmt.{decimal}
use Rattle.blk_base.specs.declared.geometry.Geometry.{Geometry}
use Rattle.blk_base.specs.Limits.{logical_limit}
use Rattle.blk_base.specs.Regions.{needed_blocks}
use Rattle.image_layout.specs.Faults.{field_name}
use Rattle.image_layout.specs.Superblock.{is_within}
use Rattle.image_layout.specs.declared.fault.Field.TheVariants.{Height, Nonce, Logical, Slabs, SlabBlocks, Journal, Index, SlabJournal}
use Rattle.image_layout.specs.declared.fault.LayoutFault.{LayoutFault}
use Rattle.image_layout.specs.declared.fault.LayoutFault.TheVariants.{TooSmall, LogicalTooLarge, Size, TooLargeToCrash}

-- The checks in their order, each with the fault that its failure is: each size, of the logical size only that it isn't 0,
abbrev pub each_size : Geometry → List (Bool × LayoutFault)
each_size g =
    (is_within 2 3 g.height, Size Height)
    ∷ (nat_le 1 g.nonce, Size Nonce)
    ∷ (nat_le 1 g.logical, Size Logical)
    ∷ (is_within 1 1024 g.slabs, Size Slabs)
    ∷ (is_within 16 32768 g.slab_blocks, Size SlabBlocks)
    ∷ (is_within 8 1024 g.journal, Size Journal)
    ∷ (is_within 4 1024 g.index && (g.index % 4 == 0), Size Index)
    ∷ (is_within 2 64 g.slab_journal, Size SlabJournal)
    ∷ []

-- then that it isn't above the limit of its height, and that the device has the blocks
abbrev pub fits_trees : Geometry → List (Bool × LayoutFault)
fits_trees g = (nat_le g.logical (logical_limit g.height), LogicalTooLarge) ∷ []

abbrev pub fits_device : Geometry → ℕ → List (Bool × LayoutFault)
fits_device g blocks = (nat_le (needed_blocks g) blocks, TooSmall (needed_blocks g) blocks) ∷ []

-- the fault of the first check that fails
abbrev pub first_failing : List (Bool × LayoutFault) → Result (Unit {0}) LayoutFault
first_failing [] = Ok tt
first_failing ((passed, fault) ∷ rest) = if passed then first_failing rest else Err fault

-- all of them
abbrev pub plan_of : Geometry → ℕ → Result (Unit {0}) LayoutFault
plan_of g blocks = first_failing (each_size g ++ fits_trees g ++ fits_device g blocks)

-- a fault's text
abbrev pub layout_fault_text : LayoutFault → List ℕ
layout_fault_text (TooSmall needed has) = codes "needs " ++ decimal needed ++ codes " blocks, has " ++ decimal has
layout_fault_text LogicalTooLarge = codes "logical too large"
layout_fault_text (Size field) = codes "size " ++ field_name field
layout_fault_text (TooLargeToCrash has) = codes "too large to crash"
