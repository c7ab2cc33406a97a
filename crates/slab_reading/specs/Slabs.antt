-- What the blocks behind a slab's data say: its reference blocks, and then those of its journal.
use Rattle.std.specs.Prelude.{ℕ, ◌≡◌, ◌+◌, ◌/◌, ◌%◌, ◌<◌, ◌↔◌, List, ◌++◌, get_or, Contains}
use Rattle.blk_base.specs.Counters.{counters_per_sector, sector_of_offset}
use Rattle.blk_base.specs.Regions.{ReferenceBlock, block_of, references_of}
use Rattle.blk_base.specs.Sectors.{sector, zero_block}
use Rattle.blk_base.specs.declared.geometry.Geometry.{Geometry}
use Rattle.blk_base.specs.declared.journal_entry.Update.{Update}
use Rattle.byte_fields.specs.Fields.{number_at}
use Rattle.disk_model.specs.Log.{Blocks}
use Rattle.slab_codec.specs.Grammar.{IsSlabSector}
use Rattle.slab_codec.specs.declared.forms.SlabEntry.{SlabEntry}
use Rattle.count_updates.specs.Listed.{Lists}
use Rattle.image_model.specs.Counts.{block_of_data}

-- the first of these blocks, and how many there are
abbrev pub first_of_slab : Geometry → ℕ → ℕ
first_of_slab g slab = block_of g (ReferenceBlock slab 0)

abbrev pub blocks_per_slab : Geometry → ℕ
blocks_per_slab g = references_of g + g.slab_journal

-- the n-th sector of the reference blocks, its commit point, and the counter of a data block
abbrev pub reference_sector_in : Blocks → ℕ → List ℕ
reference_sector_in read n = sector (n % 8) (get_or read (n / 8) zero_block)

abbrev pub point_in : Blocks → ℕ → ℕ
point_in read n = number_at 8 0 (reference_sector_in read n)

abbrev pub counter_in : Geometry → Blocks → ℕ → ℕ
counter_in g read offset = number_at 1 (8 + offset % counters_per_sector g) (reference_sector_in read (sector_of_offset g offset))

-- a sector of a block of the slab's journal is valid and has this entry; one of the first so many sectors has; one of the
-- sectors of the first so many blocks has
pub record SectorKeeps (g : Geometry) (slab : ℕ) (block : List ℕ) (number : ℕ) (entry : SlabEntry) : Type 0 where
  pub sequence : ℕ
  pub entries : List SlabEntry
  pub valid : IsSlabSector g.nonce slab g.slab_blocks number (sector number block) sequence entries
  pub listed : Contains entries entry

abbrev pub BlockKeeps : Geometry → ℕ → List ℕ → ℕ → SlabEntry → Type 0
BlockKeeps g slab block numbers entry = (number : ℕ) × (number < numbers) × SectorKeeps g slab block number entry

abbrev pub SlabKeeps : Geometry → ℕ → Blocks → ℕ → SlabEntry → Type 0
SlabKeeps g slab read slots entry = (slot : ℕ) × (slot < slots) × BlockKeeps g slab (get_or read (references_of g + slot) zero_block) 8 entry

-- the entry is an update of this block at this point
abbrev pub IsOf : Geometry → ℕ → SlabEntry → ℕ → ℕ → Type 0
IsOf g slab entry at point = (at ≡ (block_of_data g (record { slab = slab; offset = entry.offset })).0) × (point ≡ entry.point.0)

-- a list of updates got those of these entries
pub record Grew (g : Geometry) (slab : ℕ) (Keeps : SlabEntry → Type 0) (old new : List Update) : Type 0 where
  pub more : List Update
  pub is : new ≡ old ++ more
  pub each : (at point : ℕ) → Lists more at point ↔ ((entry : SlabEntry) × IsOf g slab entry at point × Keeps entry)
