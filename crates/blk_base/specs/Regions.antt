-- The regions of an image: superblock, recovery journal, roots of the block map, index, and the slabs, each with its
-- data blocks, its reference blocks and its journal.
use Rattle.std.specs.Prelude.{ℕ, ◌≡◌, ◌+◌, ◌-◌, ◌*◌, ◌/◌, ◌%◌, ◌<◌}
use Rattle.blk_base.specs.declared.geometry.Geometry.{Geometry}
use Rattle.blk_base.specs.declared.sizes.TheConstants.{TREES}
use Rattle.blk_base.specs.Counters.{counters_per_block}

-- how many reference blocks a slab has
abbrev pub references_of : Geometry → ℕ
references_of g = (g.slab_blocks + counters_per_block g - 1) / counters_per_block g

-- how many blocks a slab has
abbrev pub slab_stride_of : Geometry → ℕ
slab_stride_of g = g.slab_blocks + references_of g + g.slab_journal

-- the first block of the index, behind the superblock, the journal and the roots
abbrev pub first_index_of : Geometry → ℕ
first_index_of g = 1 + TREES + g.journal

-- the first block of the first slab
abbrev pub first_slab_of : Geometry → ℕ
first_slab_of g = first_index_of g + g.index

-- the first block of a slab
abbrev pub slab_start_of : Geometry → ℕ → ℕ
slab_start_of g slab = first_slab_of g + slab * slab_stride_of g

-- how many data blocks there are
abbrev pub data_blocks : Geometry → ℕ
data_blocks g = g.slabs * g.slab_blocks

-- how many blocks the image takes
abbrev pub needed_blocks : Geometry → ℕ
needed_blocks g = first_slab_of g + g.slabs * slab_stride_of g

-- a place in a region; of a slab's parts the first number is the slab
pub data Place : Type 0 where
  Superblock : Place
  JournalSlot : ℕ → Place
  Root : ℕ → Place
  IndexBlock : ℕ → Place
  DataBlock : ℕ → ℕ → Place
  ReferenceBlock : ℕ → ℕ → Place
  SlabJournalSlot : ℕ → ℕ → Place

-- the image has this place
abbrev pub IsPlace : Geometry → Place → Type 0
IsPlace g Superblock = Unit {0}
IsPlace g (JournalSlot s) = s < g.journal
IsPlace g (Root t) = t < TREES
IsPlace g (IndexBlock i) = i < g.index
IsPlace g (DataBlock slab offset) = (slab < g.slabs) × (offset < g.slab_blocks)
IsPlace g (ReferenceBlock slab i) = (slab < g.slabs) × (i < references_of g)
IsPlace g (SlabJournalSlot slab s) = (slab < g.slabs) × (s < g.slab_journal)

-- the block of a place
abbrev pub block_of : Geometry → Place → ℕ
block_of g Superblock = 0
block_of g (JournalSlot s) = 1 + s
block_of g (Root t) = 1 + g.journal + t
block_of g (IndexBlock i) = first_index_of g + i
block_of g (DataBlock slab offset) = slab_start_of g slab + offset
block_of g (ReferenceBlock slab i) = slab_start_of g slab + g.slab_blocks + i
block_of g (SlabJournalSlot slab s) = slab_start_of g slab + g.slab_blocks + references_of g + s

-- the slots of the recovery journal and of a slab's journal in which a sequence stands
abbrev pub journal_slot_of : Geometry → ℕ → ℕ
journal_slot_of g sequence = sequence % g.journal

abbrev pub slab_slot_of : Geometry → ℕ → ℕ
slab_slot_of g sequence = sequence % g.slab_journal

-- the block of the recovery journal in which a sequence stands
abbrev pub journal_block_of : Geometry → ℕ → ℕ
journal_block_of g sequence = block_of g (JournalSlot (journal_slot_of g sequence))

-- a data block of a slab stands at this block
pub record IsDataBlock (g : Geometry) (block : ℕ) : Type 0 where
  pub slab : ℕ
  pub offset : ℕ
  pub inside : IsPlace g (DataBlock slab offset)
  pub stands : block_of g (DataBlock slab offset) ≡ block
