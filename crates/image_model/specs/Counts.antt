-- How often a data block is mapped, and how often its image says so.
use Rattle.std.specs.Prelude.{ℕ, zero, suc, ◌≡◌, ◌⊎◌, ◌+◌, ◌-◌, ◌/◌, ◌%◌, ◌<◌, ◌==◌, ◌↔◌, nat_lt, nat_le, not, Bool, false, if◌then◌else◌, List, [], ◌∷◌, Contains, Result, Ok, Err}
use Rattle.std.specs.List.{AllByRecursion}
use Rattle.blk_base.specs.Counters.{limit_of, counters_per_sector, sector_of_offset}
use Rattle.blk_base.specs.Regions.{DataBlock, ReferenceBlock, SlabJournalSlot, block_of}
use Rattle.blk_base.specs.Sectors.{sector}
use Rattle.blk_base.specs.declared.geometry.Geometry.{Geometry}
use Rattle.blk_base.specs.declared.journal_entry.CommittedEntry.{CommittedEntry}
use Rattle.blk_base.specs.declared.journal_entry.Entry.{Entry}
use Rattle.blk_base.specs.declared.journal_entry.Entry.TheVariants.{Remap, NewPage}
use Rattle.blk_base.specs.declared.layout.DataPlace.{DataPlace}
use Rattle.blk_base.specs.declared.place.Mapping.{Mapping}
use Rattle.blk_base.specs.declared.place.Mapping.TheVariants.{Unmapped, Zero, At}
use Rattle.blk_base.specs.declared.place.Pbn.{Pbn}
use Rattle.byte_fields.specs.Fields.{number_at}
use Rattle.disk_model.specs.Log.{Blocks, block_at}
use Rattle.plain_laws.specs.Sums.{bit, total}
use Rattle.slab_codec.specs.Grammar.{IsSlabSector}
use Rattle.slab_codec.specs.declared.forms.SlabEntry.{SlabEntry}
use Rattle.image_model.specs.Maps.{Image, mapping_of, IsTreePage}
use Rattle.image_model.specs.Pages.{address_count}

-- By the map.

-- whether a mapping leads to a block
abbrev pub leads_to : Pbn → Mapping → Bool
leads_to block Unmapped = false
leads_to block Zero = false
leads_to block (At other) = other.0 == block.0

-- how many of the first addresses have a mapping that leads to a block
unfoldable pub mapped_below : (ℕ → Mapping) → Pbn → ℕ → ℕ
mapped_below mappings block zero = 0
mapped_below mappings block (suc n) = bit (leads_to block (mappings n)) + mapped_below mappings block n

-- a block has as many mappings: those of all addresses, past the logical size too, and one more where it has a linked page
pub record HasMappings (image : Image) (block : Pbn) (count : ℕ) : Type 0 where
  pub pages : ℕ
  pub one_page : ((pages ≡ 1) × IsTreePage image block) ⊎ ((pages ≡ 0) × (IsTreePage image block → ⊥))
  pub sum : count ≡ mapped_below (mapping_of image) block (address_count image.geometry) + pages

-- By the counters and the two journals.

-- the block of a place among the data blocks
abbrev pub block_of_data : Geometry → DataPlace → Pbn
block_of_data g place = record { 0 = block_of g (DataBlock place.slab place.offset) }

-- a sector of a slab's reference counters
abbrev pub reference_sector_at : Geometry → Blocks → ℕ → ℕ → List ℕ
reference_sector_at g blocks slab n = sector (n % 8) (block_at blocks (block_of g (ReferenceBlock slab (n / 8))))

-- its commit point, bytes 0 to 7
abbrev pub commit_at : Geometry → Blocks → ℕ → ℕ → ℕ
commit_at g blocks slab n = number_at 8 0 (reference_sector_at g blocks slab n)

-- the commit point of a data block's sector, and the block's counter, one of the bytes behind
abbrev pub commit_of : Image → DataPlace → ℕ
commit_of image place = commit_at image.geometry image.blocks place.slab (sector_of_offset image.geometry place.offset)

abbrev pub counter_of : Image → DataPlace → ℕ
counter_of image place =
    number_at 1 (8 + place.offset % counters_per_sector image.geometry)
    (reference_sector_at image.geometry image.blocks place.slab (sector_of_offset image.geometry place.offset))

-- a valid sector of a slab's journal, whatever its sequence, has this entry
pub record IsKept (g : Geometry) (blocks : Blocks) (slab : ℕ) (entry : SlabEntry) : Type 0 where
  pub slot : ℕ
  pub number : ℕ
  pub inside : (slot < g.slab_journal) × (number < 8)
  pub sequence : ℕ
  pub entries : List SlabEntry
  pub valid : IsSlabSector g.nonce slab g.slab_blocks number (sector number (block_at blocks (block_of g (SlabJournalSlot slab slot)))) sequence entries
  pub listed : Contains entries entry

-- An entry of the journal updates the count of a block at a point. What maps the block adds one, at the entry's point; what
-- is mapped elsewhere takes one away, at the next point.
abbrev pub Updates : CommittedEntry → Pbn → ℕ → Type 0
Updates committed block point = elim committed.entry as (λ (e : Entry). Type 0) [
  | Remap at old new ↦ ((new ≡ At block) × (point ≡ committed.point.0)) ⊎ ((old ≡ At block) × (point ≡ committed.point.0 + 1))
  | NewPage page at ↦ (at ≡ block) × (point ≡ committed.point.0)
]

-- there is an update of a data block at a point, in its slab's journal or in the window or in both
abbrev pub IsUpdate : Image → DataPlace → ℕ → Type 0
IsUpdate image place point =
    IsKept image.geometry image.blocks place.slab (record { point = record { 0 = point }; offset = place.offset })
    ⊎ ((committed : CommittedEntry) × Contains image.window committed × Updates committed (block_of_data image.geometry place) point)

-- numbers that rise
abbrev pub AreRising : List ℕ → Type 0
AreRising [] = Unit {0}
AreRising (n ∷ later) = AllByRecursion (λ m. n < m) later × AreRising later

-- the points of the updates of a data block that its counter doesn't include: those above the commit point, each once
pub record AreUpdates (image : Image) (place : DataPlace) (points : List ℕ) : Type 0 where
  pub rising : AreRising points
  pub each : (point : ℕ) → Contains points point ↔ ((commit_of image place < point) × IsUpdate image place point)

-- a count after updates at these points, of which the even ones add; or the point at which it leaves 0 to the limit
abbrev pub count_after : ℕ → ℕ → List ℕ → Result ℕ ℕ
count_after limit count [] = Ok count
count_after limit count (point ∷ later) =
    if point % 2 == 0 then (if nat_lt count limit then count_after limit (count + 1) later else Err point)
    else (if count == 0 then Err point else count_after limit (count - 1) later)

-- the same from a counter on, which may be past the limit at its commit point
abbrev pub count_from : ℕ → ℕ → ℕ → List ℕ → Result ℕ ℕ
count_from limit commit counter points = if nat_le counter limit then count_after limit counter points else Err commit

-- how many of these points add, and how many take away
abbrev pub adds_of : List ℕ → ℕ
adds_of points = total (λ point. bit (point % 2 == 0)) points

abbrev pub takes_of : List ℕ → ℕ
takes_of points = total (λ point. bit (not (point % 2 == 0))) points

-- the stored count of a data block, or the point at which it isn't one
pub record Stores (image : Image) (place : DataPlace) (result : Result ℕ ℕ) : Type 0 where
  pub points : List ℕ
  pub updates : AreUpdates image place points
  pub counted : count_from (limit_of image.geometry) (commit_of image place) (counter_of image place) points ≡ result
