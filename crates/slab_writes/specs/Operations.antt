-- Calls on what is to be written of a slab, the newest first, and which updates they took and made durable.
use Rattle.std.specs.Prelude.{ℕ, ◌≡◌, ◌+◌, ◌/◌, ◌<◌, ◌⊎◌, List, [], ◌∷◌, ◌++◌, Contains}
use Rattle.blk_base.specs.Counters.{sector_of_offset}
use Rattle.blk_base.specs.declared.geometry.Geometry.{Geometry}
use Rattle.plain_laws.specs.Leads.{LeadsBy}
use Rattle.dirty_pages.specs.DirtyPoints.{IsBeingWritten, dirty_points_at}
use Rattle.reference_blocks.specs.References.{HandsOutBlock, updated}
use Rattle.slab_codec.specs.declared.forms.SlabEntry.{SlabEntry}
use Rattle.slab_codec.specs.declared.forms.SlabJournalBlock.{SlabJournalBlock}
use Rattle.slab_journal.specs.Slab.{Seals, IsWriting}
use Rattle.slab_writes.specs.Writes.{Writes, SettlesReference}

-- a call by what it did: an update is taken, a block is handed out to be written, its write is durable
pub data Operation : Type 0 where
  Taken : SlabEntry → Operation
  JournalOut : SlabJournalBlock → Operation
  ReferenceOut : List ℕ → List ℕ → ℕ → Operation
  JournalDurable : ℕ → Operation
  ReferenceDurable : ℕ → Operation

-- what a call does, as its contract says
abbrev pub Does : Operation → Writes → Writes → Type 0
Does (Taken entry) old new =
    (old.journal.last.0 < entry.point.0) × (entry.offset < old.blocks.geometry.slab_blocks)
    × (new ≡ record {
      journal = record old.journal { filling = old.journal.filling ++ entry ∷ []; last = entry.point };
      blocks = updated old.blocks entry.offset entry.point;
    })
Does (JournalOut block) old new = Seals old.journal new.journal block × (new ≡ record old { journal = new.journal })
Does (ReferenceOut counters bytes block) old new = HandsOutBlock old.blocks new.blocks counters bytes block × (new ≡ record old { blocks = new.blocks })
Does (JournalDurable sequence) old new = IsWriting old.journal × (sequence ≡ old.journal.durable) × (new ≡ record old { journal = record old.journal { durable = sequence + 1 } })
Does (ReferenceDurable block) old new = IsBeingWritten (dirty_points_at old.blocks.blocks block) × SettlesReference old new block

-- these calls, the newest first, lead from the one to the other
abbrev pub LeadTo : Writes → List Operation → Writes → Type 0
LeadTo old calls new = LeadsBy Does old calls new

-- the updates of these calls
abbrev pub updates_of : List Operation → List SlabEntry
updates_of [] = []
updates_of (Taken entry ∷ calls) = entry ∷ updates_of calls
updates_of (other ∷ calls) = updates_of calls

-- the update is in a journal block with this sequence that was handed out
abbrev pub IsInJournal : List Operation → ℕ → SlabEntry → Type 0
IsInJournal [] sequence entry = ⊥
IsInJournal (JournalOut block ∷ calls) sequence entry = ((block.sequence ≡ sequence) × Contains block.entries entry) ⊎ IsInJournal calls sequence entry
IsInJournal (other ∷ calls) sequence entry = IsInJournal calls sequence entry

-- it was taken before this reference block was handed out
abbrev pub IsInReference : List Operation → ℕ → SlabEntry → Type 0
IsInReference [] block entry = ⊥
IsInReference (ReferenceOut counters bytes other ∷ calls) block entry = ((other ≡ block) × Contains (updates_of calls) entry) ⊎ IsInReference calls block entry
IsInReference (other ∷ calls) block entry = IsInReference calls block entry

-- it is durable: its journal block is, or the reference block with its counter, handed out since
abbrev pub IsDurable : Geometry → List Operation → SlabEntry → Type 0
IsDurable g [] entry = ⊥
IsDurable g (JournalDurable sequence ∷ calls) entry = IsInJournal calls sequence entry ⊎ IsDurable g calls entry
IsDurable g (ReferenceDurable block ∷ calls) entry = ((sector_of_offset g entry.offset / 8 ≡ block) × IsInReference calls block entry) ⊎ IsDurable g calls entry
IsDurable g (other ∷ calls) entry = IsDurable g calls entry
