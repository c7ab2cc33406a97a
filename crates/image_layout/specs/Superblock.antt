-- The superblock of an image: how it is spelled, and how it is read.
use Rattle.std.specs.Prelude.{ℕ, ◌^◌, ◌%◌, ◌==◌, ◌&&◌, Bool, if◌then◌else◌, nat_eq, nat_le, nat_lt, List, [], ◌∷◌, ◌++◌, replicate, codes, Result, Ok, Err}
use Rattle.std.specs.List.{slice_range, list_all, starts_with}
use Rattle.blk_base.specs.declared.geometry.Geometry.{Geometry}
use Rattle.blk_base.specs.declared.geometry.Super.{Super}
use Rattle.blk_base.specs.Limits.{logical_limit}
use Rattle.blk_base.specs.Regions.{needed_blocks}
use Rattle.byte_fields.specs.Fields.{le, number_at}
use Rattle.image_layout.specs.declared.fault.Field.TheVariants.{Height, Nonce, Logical, Slabs, SlabBlocks, Journal, Index, SlabJournal, Clean, Reserved, Start, Blocks}
use Rattle.image_layout.specs.declared.fault.SuperFault.{SuperFault}
use Rattle.image_layout.specs.declared.fault.SuperFault.TheVariants.{NotAnImage, Version, BadField}

-- The spelling. All numbers are little-endian.

-- what an image begins with
abbrev pub magic : List ℕ
magic = codes "RVDOSB01"

-- the sizes, bytes 12 to 47
unfoldable pub size_bytes : Geometry → List ℕ
size_bytes g =
    le 4 g.height ++ le 8 g.nonce ++ le 4 g.logical ++ le 4 g.slabs ++ le 4 g.slab_blocks ++ le 4 g.journal ++ le 4 g.index ++ le 4 g.slab_journal

-- the last session was closed
abbrev pub clean_number : Bool → ℕ
clean_number clean = if clean then 1 else 0

-- all fields, bytes 0 to 63: magic, version, sizes, clean, zeros, start
unfoldable pub field_bytes : Super → List ℕ
field_bytes head = magic ++ le 4 1 ++ size_bytes head.geometry ++ le 4 (clean_number head.clean) ++ replicate 4 0 ++ le 8 head.start

-- the first sector
unfoldable pub super_bytes : Super → List ℕ
super_bytes head = field_bytes head ++ replicate 448 0

-- the whole block: the other sectors are zeros
unfoldable pub super_block : Super → List ℕ
super_block head = super_bytes head ++ replicate 3584 0

-- The reading.

-- what the bytes say of the sizes
abbrev pub geometry_in : List ℕ → Geometry
geometry_in block = record {
  height = number_at 4 12 block;
  nonce = number_at 8 16 block;
  logical = number_at 4 24 block;
  slabs = number_at 4 28 block;
  slab_blocks = number_at 4 32 block;
  journal = number_at 4 36 block;
  index = number_at 4 40 block;
  slab_journal = number_at 4 44 block;
}

-- what the bytes say
abbrev pub head_in : List ℕ → Super
head_in block = record {
  geometry = geometry_in block;
  clean = number_at 4 48 block == 1;
  start = number_at 8 56 block;
}

-- a number from one up to another
unfoldable pub is_within : ℕ → ℕ → ℕ → Bool
is_within low high x = nat_le low x && nat_le x high

-- zeros alone
unfoldable pub is_zeros : List ℕ → Bool
is_zeros bytes = list_all (λ b. b == 0) bytes

-- The checks in their order, each with the fault that its failure is: bytes 0 to 11,
abbrev pub identity_checks : List ℕ → List (Bool × SuperFault)
identity_checks block =
    (starts_with nat_eq block magic, NotAnImage)
    ∷ (number_at 4 8 block == 1, Version (number_at 4 8 block))
    ∷ []

-- bytes 12 to 47,
abbrev pub size_checks : Geometry → List (Bool × SuperFault)
size_checks g =
    (is_within 2 3 g.height, BadField Height)
    ∷ (nat_le 1 g.nonce, BadField Nonce)
    ∷ (is_within 1 (logical_limit g.height) g.logical, BadField Logical)
    ∷ (is_within 1 1024 g.slabs, BadField Slabs)
    ∷ (is_within 16 32768 g.slab_blocks, BadField SlabBlocks)
    ∷ (is_within 8 1024 g.journal, BadField Journal)
    ∷ (is_within 4 1024 g.index && (g.index % 4 == 0), BadField Index)
    ∷ (is_within 2 64 g.slab_journal, BadField SlabJournal)
    ∷ []

-- bytes 48 to 511,
abbrev pub state_checks : List ℕ → List (Bool × SuperFault)
state_checks block =
    (is_within 0 1 (number_at 4 48 block), BadField Clean)
    ∷ (is_zeros (slice_range block 52 56), BadField Reserved)
    ∷ (nat_le 1 (number_at 8 56 block) && nat_lt (number_at 8 56 block) (2 ^ 54), BadField Start)
    ∷ (is_zeros (slice_range block 64 512), BadField Reserved)
    ∷ []

-- and that the device has the blocks that the sizes need
abbrev pub room_checks : Geometry → ℕ → List (Bool × SuperFault)
room_checks g blocks = (nat_le (needed_blocks g) blocks, BadField Blocks) ∷ []

-- all of them
abbrev pub super_checks : List ℕ → ℕ → List (Bool × SuperFault)
super_checks block blocks =
    identity_checks block ++ size_checks (geometry_in block) ++ state_checks block ++ room_checks (geometry_in block) blocks

-- the fault of the first check that fails
abbrev pub run_checks : List (Bool × SuperFault) → Result (Unit {0}) SuperFault
run_checks [] = Ok tt
run_checks ((passed, fault) ∷ rest) = if passed then run_checks rest else Err fault

-- what is answered after the checks
abbrev pub answer_after : Result (Unit {0}) SuperFault → Super → Result Super SuperFault
answer_after (Ok _) head = Ok head
answer_after (Err fault) head = Err fault

-- the superblock that a block is, on a device with that many blocks, or what is wrong with it
unfoldable pub super_of : List ℕ → ℕ → Result Super SuperFault
super_of block blocks = answer_after (run_checks (super_checks block blocks)) (head_in block)
