-- What a slab's journal knows: its updates, and up to which point those of each sector of counters are durable.
use Rattle.std.specs.Prelude.{ℕ, ◌≡◌, ◌+◌, ◌-◌, ◌<◌, ◌≤◌, ◌⊎◌, List, [], length, replicate, All, Any, Contains, slice_index_or, slice_set}
use Rattle.blk_base.specs.Counters.{sectors_per_slab, sector_of_offset}
use Rattle.blk_base.specs.Points.{point_of}
use Rattle.blk_base.specs.Regions.{slab_start_of, slab_slot_of}
use Rattle.blk_base.specs.declared.geometry.Geometry.{Geometry}
use Rattle.blk_base.specs.declared.place.Pbn.{Pbn}
use Rattle.blk_base.specs.declared.point.Half.TheVariants.{Increment}
use Rattle.blk_base.specs.declared.point.Point.{Point}
use Rattle.slab_codec.specs.declared.forms.SlabEntry.{SlabEntry}
use Rattle.slab_codec.specs.declared.forms.SlabJournalBlock.{SlabJournalBlock}
use Rattle.blk_base.specs.declared.journal_entry.Update.{Update}

-- `sequence` is that of the block being filled, and `filling` its updates. `last` is the point of the last update that
-- was taken. `slots` has for each slot of the ring the updates of the block that stands there. The blocks below `durable`
-- are durable. `commits` has for each sector of counters its durable commit point.
pub record Slab : Type 0 where
  pub geometry : Geometry
  pub slab : ℕ
  pub sequence : ℕ
  pub filling : List SlabEntry
  pub last : Point
  pub slots : List (List SlabEntry)
  pub durable : ℕ
  pub commits : List Point

-- no update was taken in this session; the points of journals begin with those of sequence 1
abbrev pub opening : Geometry → ℕ → Slab
opening geometry slab =
    record {
      geometry = geometry;
      slab = slab;
      sequence = 1;
      filling = [];
      last = record { 0 = point_of 1 0 Increment - 1 };
      slots = replicate geometry.slab_journal [];
      durable = 1;
      commits = replicate (sectors_per_slab geometry) (record { 0 = 0 });
    }

-- it is a data block of the slab
abbrev pub IsOfSlab : Slab → Pbn → Type 0
IsOfSlab log at = (slab_start_of log.geometry log.slab ≤ at.0) × (at.0 < slab_start_of log.geometry log.slab + log.geometry.slab_blocks)

-- the update, by the data block's offset in the slab
abbrev pub entry_of : Slab → Update → SlabEntry
entry_of log update = record { point = update.point; offset = update.at.0 - slab_start_of log.geometry log.slab }

-- the least point of these updates
pub record IsFirst (entries : List SlabEntry) (point : Point) : Type 0 where
  pub least : All (λ entry. point.0 ≤ entry.point.0) entries
  pub there : Any (λ entry. entry.point ≡ point) entries

-- the durable commit point of the update's sector
abbrev pub commit_of : Geometry → List Point → SlabEntry → Point
commit_of g commits entry = slice_index_or commits (sector_of_offset g entry.offset) (record { 0 = 0 })

-- the update is at or below it: the counters on the device include it
abbrev pub IsCovered : Geometry → List Point → SlabEntry → Type 0
IsCovered g commits entry = entry.point.0 ≤ (commit_of g commits entry).0

-- the slot of the block being filled, and the updates of the block that stands there
abbrev pub next_slot : Slab → ℕ
next_slot log = slab_slot_of log.geometry log.sequence

abbrev pub next_block : Slab → List SlabEntry
next_block log = slice_index_or log.slots (next_slot log) []

-- every update of the block in the next slot is covered
abbrev pub MayOverwrite : Slab → Type 0
MayOverwrite log = All (IsCovered log.geometry log.commits) (next_block log)

-- a sealed block isn't durable yet
abbrev pub IsWriting : Slab → Type 0
IsWriting log = log.durable < log.sequence

-- the update is in the block being filled, or in a block that isn't overwritten
abbrev pub IsHeld : Slab → SlabEntry → Type 0
IsHeld log entry = Contains log.filling entry ⊎ Any (λ block. Contains block entry) log.slots

-- every update that isn't covered stays
abbrev pub Keeps : Slab → Slab → Type 0
Keeps old new = (entry : SlabEntry) → IsHeld old entry → ¬ IsCovered new.geometry new.commits entry → IsHeld new entry

-- the block being filled was sealed, in place of one whose updates are all covered, and the next one is filled
pub record Seals (old new : Slab) (block : SlabJournalBlock) : Type 0 where
  pub waits : 0 < length old.filling
  pub none_writing : old.durable ≡ old.sequence
  pub covered : MayOverwrite old
  pub records : block ≡ record { nonce = old.geometry.nonce; sequence = old.sequence; slab = old.slab; entries = old.filling }
  pub follows : new ≡ record old {
    sequence = old.sequence + 1;
    filling = [];
    slots = slice_set old.slots (next_slot old) old.filling;
  }
