-- The blocks of the recovery journal that a session sealed, the newest first. The oldest of them has the session's first
-- sequence, and each has the one behind that of the block before it.
use Rattle.std.specs.Prelude.{ℕ, ◌+◌, ◌-◌, ◌*◌, ◌<◌, ◌≤◌, ◌^◌, List, [], ◌∷◌, length, map, take, drop, All}
use Rattle.blk_base.specs.declared.geometry.Geometry.{Geometry}
use Rattle.blk_base.specs.declared.journal_entry.CommittedEntry.{CommittedEntry}
use Rattle.blk_base.specs.declared.journal_entry.Entry.{Entry}
use Rattle.image_model.specs.Windows.{IsOfImage, entries_from}
use Rattle.journal_codec.specs.Grammar.{HoldsBlock}

-- a sealed block: the head of the moment when it was sealed, and its entries in order
pub record Sealed : Type 0 where
  pub head : ℕ
  pub entries : List Entry

-- the sequence of the next block
abbrev pub next_of : ℕ → List Sealed → ℕ
next_of start blocks = start + length blocks

-- the head that the newest block names; without a block it is the first sequence
abbrev pub head_of : ℕ → List Sealed → ℕ
head_of start [] = start
head_of start (block ∷ older) = block.head

-- A block may be sealed behind these: the format can hold it, its entries are of this image, the head doesn't fall, and its
-- sequence is in reach of the first one. The ring rule: with J blocks in the ring, the head is at least the sequence + 2 − J.
pub record IsSealed (g : Geometry) (start : ℕ) (older : List Sealed) (block : Sealed) : Type 0 where
  pub holds : HoldsBlock (next_of start older) block.head block.entries
  pub each : All (IsOfImage g) block.entries
  pub rises : head_of start older ≤ block.head
  pub ring : next_of start older + 2 ≤ block.head + g.journal
  pub reach : length older < 2 ^ 32

-- What they say.

-- the entries of blocks, block by block
abbrev pub lists_of : List Sealed → List (List Entry)
lists_of blocks = map (λ (block : Sealed). block.entries) blocks

-- all their entries with their points, the newest first; the oldest block has this sequence
abbrev pub entries_of : ℕ → List Sealed → List CommittedEntry
entries_of first blocks = entries_from first (lists_of blocks)

-- those of them that have this sequence or a later one
abbrev pub since : ℕ → ℕ → List Sealed → List Sealed
since start from blocks = take (next_of start blocks - from) blocks

-- and those that have an earlier one
abbrev pub before : ℕ → ℕ → List Sealed → List Sealed
before start from blocks = drop (next_of start blocks - from) blocks

-- what the newest block still needs: the entries of the blocks from its head on
abbrev pub window_of : ℕ → List Sealed → List CommittedEntry
window_of start blocks = entries_of (head_of start blocks) (since start (head_of start blocks) blocks)

-- a block with the entries of its first sectors, of which each has 24
abbrev pub front_of : ℕ → Sealed → Sealed
front_of sectors block = record { head = block.head; entries = take (24 * sectors) block.entries }
