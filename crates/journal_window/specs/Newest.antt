-- The newest block of a journal, and the entries of its blocks, as far as they were looked at.
use Rattle.std.specs.Prelude.{ℕ, ◌≡◌, ◌+◌, ◌<◌, ◌≤◌, ◌^◌, List, length, Option, Some, None, IfSome}
use Rattle.blk_base.specs.Regions.{journal_slot_of}
use Rattle.blk_base.specs.declared.geometry.Geometry.{Geometry}
use Rattle.blk_base.specs.declared.journal_entry.CommittedEntry.{CommittedEntry}
use Rattle.blk_base.specs.declared.journal_entry.Entry.{Entry}
use Rattle.image_model.specs.Windows.{IsThere, AreReplayable, entries_from}
use Rattle.journal_window.specs.declared.newest.Newest.{Newest}

-- a sequence isn't past this block
abbrev pub IsUpTo : Option Newest → ℕ → Type 0
IsUpTo None sequence = ⊥
IsUpTo (Some newest) sequence = sequence ≤ newest.sequence

-- of the sequences in reach that belong in the first `slots` slots, this is the greatest one that the journal has
pub record IsNewest (g : Geometry) (start : ℕ) (journal : List (List ℕ)) (slots : ℕ) (newest : Option Newest) : Type 0 where
  pub there : IfSome newest (λ n. (start ≤ n.sequence) × (n.sequence < start + 2 ^ 32) × IsThere g journal n.sequence n.head)
  pub greatest : (sequence head : ℕ) → journal_slot_of g sequence < slots → start ≤ sequence → sequence < start + 2 ^ 32
      → IsThere g journal sequence head → IsUpTo newest sequence

-- the blocks from the first sequence to the one before `next` can be replayed, and have these entries, the newest first
pub record AreReplayed (g : Geometry) (journal : List (List ℕ)) (last first next : ℕ) (entries : List CommittedEntry) : Type 0 where
  pub blocks : List (List Entry)
  pub count : first + length blocks ≡ next
  pub replayable : AreReplayable g journal last first blocks
  pub all : entries ≡ entries_from first blocks
