-- The recovery journal, by what each of its blocks may hold after a stop: which of the sealed blocks stand whole, and that
-- nothing is from a later time.
use Rattle.std.specs.Prelude.{ℕ, ◌≢◌, ◌⊎◌, ◌+◌, ◌<◌, ◌≤◌, ◌^◌, List, [], ◌∷◌, length, All}
use Rattle.std.specs.List.{AllByRecursion}
use Rattle.blk_base.specs.Regions.{journal_slot_of}
use Rattle.blk_base.specs.Sectors.{sector}
use Rattle.blk_base.specs.declared.geometry.Geometry.{Geometry}
use Rattle.blk_base.specs.declared.journal_entry.Entry.{Entry}
use Rattle.blk_base.specs.declared.sizes.TheConstants.{JOURNAL_ENTRIES}
use Rattle.disk_model.specs.declared.call.Call.{Call}
use Rattle.disk_model.specs.Log.{Blocks, settled}
use Rattle.image_model.specs.Windows.{IsOfImage}
use Rattle.journal_codec.specs.Grammar.{IsSector, IsRun}
use Rattle.journal_codec.specs.BlockBytes.{entries_in}
use Rattle.vdo_model.specs.Journals.{Surely, block_of_slot}
use Rattle.journal_stops.specs.Sealed.{Sealed, IsSealed, next_of, head_of}

-- the block in which a sequence stands
abbrev pub ring_slot_of : Geometry → ℕ → ℕ
ring_slot_of g sequence = block_of_slot (journal_slot_of g sequence)

-- What stands in a block.

-- the sealed block with this sequence is there, all of it: each sector is valid and has its part of the entries
abbrev pub IsWhole : Geometry → ℕ → Sealed → List ℕ → Type 0
IsWhole g sequence block content = IsRun g.nonce content sequence block.head 8 block.entries

-- the bytes of a sector are no valid one of this sequence or a later one
abbrev pub IsEarlier : Geometry → ℕ → ℕ → List ℕ → Type 0
IsEarlier g next number bytes = (sequence head : ℕ) (entries : List Entry) → IsSector g.nonce number bytes sequence head entries → sequence < next

-- that holds of each of the eight sectors of a block
abbrev pub HasNothingLater : Geometry → ℕ → List ℕ → Type 0
HasNothingLater g next content = (number : ℕ) → number < 8 → IsEarlier g next number (sector number content)

-- each sector by itself is that of the sealed block with this sequence, or nothing as late
abbrev pub IsTornOver : Geometry → ℕ → Sealed → List ℕ → Type 0
IsTornOver g sequence block content =
    (number : ℕ) → number < 8
    → IsSector g.nonce number (sector number content) sequence block.head (entries_in number block.entries) ⊎ IsEarlier g sequence number (sector number content)

-- What a stop may leave.

-- these blocks are of this image and, whatever a stop leaves, stand whole: those that have this sequence or a later one
abbrev pub StandWhole : Blocks → List Call → Geometry → ℕ → ℕ → List Sealed → Type 0
StandWhole opening log g start from [] = Unit {0}
StandWhole opening log g start from (block ∷ older) =
    (from ≤ next_of start older → (length block.entries ≤ JOURNAL_ENTRIES) × All (IsOfImage g) block.entries
    × Surely opening log (ring_slot_of g (next_of start older)) (IsWhole g (next_of start older) block))
    × StandWhole opening log g start from older

-- The ring of these blocks: the newest one names one of them as the head, and the slot of the next sequence has none of those
-- from the head on. They are in reach of the first sequence.
pub record IsRing (g : Geometry) (start : ℕ) (blocks : List Sealed) : Type 0 where
  pub head : start ≤ head_of start blocks
  pub newest : 0 < length blocks → head_of start blocks < next_of start blocks
  pub ring : next_of start blocks < head_of start blocks + g.journal
  pub reach : length blocks ≤ 2 ^ 32

-- The journal has these blocks, and none is under way: those from the head on stand whole, and nothing is later.
pub record IsAtRest (opening : Blocks) (log : List Call) (g : Geometry) (start : ℕ) (blocks : List Sealed) : Type 0 where
  pub some : 1 ≤ start
  pub ring : IsRing g start blocks
  pub whole : StandWhole opening log g start (head_of start blocks) blocks
  pub none : (slot : ℕ) → slot < g.journal → Surely opening log (block_of_slot slot) (HasNothingLater g (next_of start blocks))

-- The journal has these blocks, and the next one is under way: a stop may leave any of its sectors, and what was there
-- before in the others.
pub record IsUnderWay (opening : Blocks) (log : List Call) (g : Geometry) (start : ℕ) (blocks : List Sealed) (block : Sealed) : Type 0 where
  pub some : 1 ≤ start
  pub ring : IsRing g start blocks
  pub is_sealed : IsSealed g start blocks block
  pub whole : StandWhole opening log g start (head_of start blocks) blocks
  pub here : Surely opening log (ring_slot_of g (next_of start blocks)) (IsTornOver g (next_of start blocks) block)
  pub none : (slot : ℕ) → slot < g.journal → slot ≢ journal_slot_of g (next_of start blocks)
      → Surely opening log (block_of_slot slot) (HasNothingLater g (next_of start blocks))

-- the next block was written: a read of its place, and a flush, gives it
abbrev pub IsWritten : Blocks → List Call → Geometry → ℕ → List Sealed → Sealed → Type 0
IsWritten opening log g start blocks block =
    AllByRecursion (IsWhole g (next_of start blocks) block) (settled opening log (ring_slot_of g (next_of start blocks)))
