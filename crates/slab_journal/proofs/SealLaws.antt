-- A block that is sealed takes its slot, and no other.
use Rattle.std.specs.Prelude.{ℕ, ◌≡◌, ◌≢◌, ◌<◌, [], length, slice_index_or}
use Rattle.std.proofs.Common.{sym, ◌∙◌, ap, get_or-set_same, get_or-set_other}
use Rattle.slab_codec.specs.declared.forms.SlabJournalBlock.{SlabJournalBlock}
use Rattle.slab_journal.specs.Slab.{Slab, Seals, next_slot}

pub sealed_here : (old new : Slab) (block : SlabJournalBlock) → Seals old new block → next_slot old < length old.slots → slice_index_or new.slots (next_slot old) [] ≡ block.entries
sealed_here old new block did inside =
    ap (λ (log : Slab). slice_index_or log.slots (next_slot old) []) did.follows ∙ get_or-set_same old.slots (next_slot old) old.filling [] inside
    ∙ sym (ap (λ (b : SlabJournalBlock). b.entries) did.records)

pub other_slots : (old new : Slab) (block : SlabJournalBlock) (slot : ℕ) → Seals old new block → slot ≢ next_slot old → slice_index_or new.slots slot [] ≡ slice_index_or old.slots slot []
other_slots old new block slot did other =
    ap (λ (log : Slab). slice_index_or log.slots slot []) did.follows ∙ get_or-set_other old.slots (next_slot old) slot old.filling [] other

pub one_sealed : (old new new' : Slab) (block block' : SlabJournalBlock) → Seals old new block → Seals old new' block' → (new ≡ new') × (block ≡ block')
one_sealed old new new' block block' one other = (one.follows ∙ sym other.follows, one.records ∙ sym other.records)
