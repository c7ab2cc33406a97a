-- Which block of a slab is written next, and for what need.
use Rattle.std.specs.Prelude.{ℕ, ◌≡◌, ◌<◌, ◌⊎◌, List, length}
use Rattle.blk_base.specs.Regions.{ReferenceBlock, SlabJournalSlot, block_of, slab_slot_of}
use Rattle.reference_blocks.specs.References.{HandsOutBlock, NoneDirty}
use Rattle.slab_codec.specs.BlockBytes.{block_bytes}
use Rattle.slab_codec.specs.declared.forms.SlabJournalBlock.{SlabJournalBlock}
use Rattle.slab_journal.specs.Slab.{Slab, Seals, IsWriting, MayOverwrite}
use Rattle.slab_writes.specs.Writes.{Writes}
use Rattle.slab_writes.specs.declared.forms.Need.{Need}
use Rattle.slab_writes.specs.declared.forms.Need.TheVariants.{Full, Head, All}
use Rattle.slab_writes.specs.declared.forms.SlabPart.{SlabPart}
use Rattle.slab_writes.specs.declared.forms.SlabPart.TheVariants as part
use Rattle.slab_writes.specs.declared.forms.SlabWork.{SlabWork}

-- the journal block being filled is wanted: it is full, or holds updates; none where all that is dirty is wanted
abbrev pub WantsJournal : Need → Slab → Type 0
WantsJournal Full journal = length journal.filling ≡ 320
WantsJournal Head journal = 0 < length journal.filling
WantsJournal All journal = ⊥

-- and a reference block: where all that is dirty is wanted, or the slot of that journal block can't be overwritten
abbrev pub WantsReference : Need → Slab → Type 0
WantsReference need journal = (need ≡ All) ⊎ (WantsJournal need journal × ¬ MayOverwrite journal)

-- of a slab this part is wanted: the journal block where its slot can be overwritten, or a reference block
abbrev pub Wants : SlabPart → Need → Slab → Type 0
Wants part.Journal need journal = WantsJournal need journal × MayOverwrite journal
Wants part.References need journal = WantsReference need journal

-- the journal block being filled is written now
pub record WritesJournal (old new : Writes) (bytes : List ℕ) (work : SlabWork) : Type 0 where
  pub block : SlabJournalBlock
  pub seals : Seals old.journal new.journal block
  pub says : bytes ≡ block_bytes block.nonce block.sequence block.slab block.entries
  pub part : work.part ≡ part.Journal
  pub number : work.number ≡ old.journal.sequence
  pub slab : work.slab ≡ old.journal.slab
  pub at : work.at.0 ≡ block_of old.journal.geometry (SlabJournalSlot old.journal.slab (slab_slot_of old.journal.geometry old.journal.sequence))
  pub same : new ≡ record old { journal = new.journal }

-- the reference block that was dirtied first is written now
pub record WritesReference (old new : Writes) (counters bytes : List ℕ) (work : SlabWork) : Type 0 where
  pub hands_out : HandsOutBlock old.blocks new.blocks counters bytes work.number
  pub part : work.part ≡ part.References
  pub slab : work.slab ≡ old.journal.slab
  pub at : work.at.0 ≡ block_of old.journal.geometry (ReferenceBlock old.journal.slab work.number)
  pub same : new ≡ record old { blocks = new.blocks }

-- one of the two that is wanted is written now
abbrev pub IsDue : Need → Writes → Writes → List ℕ → List ℕ → SlabWork → Type 0
IsDue need old new counters bytes work = (Wants part.Journal need old.journal × WritesJournal old new bytes work) ⊎ (Wants part.References need old.journal × WritesReference old new counters bytes work)

-- none that is wanted isn't being written: while a sealed journal block isn't durable, the next one counts as being written
pub record NoneDue (need : Need) (w : Writes) : Type 0 where
  pub journal : Wants part.Journal need w.journal → IsWriting w.journal
  pub reference : Wants part.References need w.journal → NoneDirty w.blocks
