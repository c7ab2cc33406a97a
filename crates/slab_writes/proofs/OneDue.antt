-- Of a slab one block is due, or none: which it is, with which bytes, and what the slab keeps then.
use Rattle.std.specs.Prelude.{ℕ, ◌≡◌, List}
use Rattle.std.proofs.Common.{sym, ◌∙◌, ap, inl, inr}
use Rattle.blk_base.specs.Regions.{ReferenceBlock, block_of}
use Rattle.dirty_pages.proofs.DirtyPointLaws.{one_is_handed_out}
use Rattle.dirty_pages.specs.declared.dirty_points.DirtyPoints.{DirtyPoints}
use Rattle.reference_blocks.specs.References.{References, last_point, sectors_of, with_sectors}
use Rattle.blk_base.specs.declared.point.Point.{Point}
use Rattle.slab_codec.specs.Reference.{reference_bytes}
use Rattle.slab_codec.specs.BlockBytes.{block_bytes}
use Rattle.slab_codec.specs.declared.forms.SlabJournalBlock.{SlabJournalBlock}
use Rattle.slab_journal.proofs.SealLaws.{one_sealed}
use Rattle.slab_journal.specs.Slab.{Slab}
use Rattle.slab_writes.specs.Due.{IsDue, Wants, WritesJournal, WritesReference}
use Rattle.slab_writes.specs.Writes.{Writes}
use Rattle.slab_writes.specs.declared.forms.Need.{Need}
use Rattle.slab_writes.specs.declared.forms.Need.TheVariants.{Full, Head, All}
use Rattle.slab_writes.specs.declared.forms.SlabPart.{SlabPart}
use Rattle.slab_writes.specs.declared.forms.SlabPart.TheVariants as part
use Rattle.slab_writes.specs.declared.forms.SlabWork.{SlabWork}

same_work : (work work' : SlabWork) → work.at.0 ≡ work'.at.0 → work.slab ≡ work'.slab → work.part ≡ work'.part → work.number ≡ work'.number → work ≡ work'
same_work work work' at slab is_part number =
    ap (λ (n : ℕ). record work { at = record { 0 = n } }) at
    ∙ ap (λ (n : ℕ). record work { at = work'.at; slab = n }) slab
    ∙ ap (λ (p : SlabPart). record work { at = work'.at; slab = work'.slab; part = p }) is_part
    ∙ ap (λ (n : ℕ). record work { at = work'.at; slab = work'.slab; part = work'.part; number = n }) number

-- not both parts are wanted
not_both : (need : Need) (journal : Slab) → Wants part.Journal need journal → Wants part.References need journal → ⊥
not_both need journal wanted (inr both) = both.1 wanted.1
not_both Full journal wanted (inl is) = absurd (cc is)
not_both Head journal wanted (inl is) = absurd (cc is)
not_both All journal wanted (inl is) = wanted.0

module _ (old new new' : Writes) (counters bytes bytes' : List ℕ) (work work' : SlabWork) where
  abbrev AreOne : Type 0
  AreOne = (new ≡ new') × (bytes ≡ bytes') × (work ≡ work')

  one_journal : WritesJournal old new bytes work → WritesJournal old new' bytes' work' → AreOne
  one_journal one other =
      let both = one_sealed old.journal new.journal new'.journal one.block other.block one.seals other.seals in (
        one.same ∙ ap (λ (j : Slab). record old { journal = j }) both.0 ∙ sym other.same,
        one.says ∙ ap (λ (b : SlabJournalBlock). block_bytes b.nonce b.sequence b.slab b.entries) both.1 ∙ sym other.says,
        same_work work work' (one.at ∙ sym other.at) (one.slab ∙ sym other.slab) (one.part ∙ sym other.part) (one.number ∙ sym other.number),
      )

  one_reference : WritesReference old new counters bytes work → WritesReference old new' counters bytes' work' → AreOne
  one_reference one other =
      let mine = one.hands_out in
      let theirs = other.hands_out in
      let both = one_is_handed_out old.blocks.blocks new.blocks.blocks new'.blocks.blocks last_point work.number work'.number mine.first theirs.first in
      let handed : new.blocks.handed ≡ new'.blocks.handed =
      mine.keeps ∙ ap (λ (n : ℕ). with_sectors old.blocks.applied n old.blocks.handed) both.0 ∙ sym theirs.keeps in
      let blocks : new.blocks ≡ new'.blocks =
      mine.same ∙ ap (λ (points : List Point). record old.blocks { handed = points; blocks = new.blocks.blocks }) handed
      ∙ ap (λ (dirty_points : List DirtyPoints). record old.blocks { handed = new'.blocks.handed; blocks = dirty_points }) both.1 ∙ sym theirs.same in (
        one.same ∙ ap (λ (r : References). record old { blocks = r }) blocks ∙ sym other.same,
        mine.says ∙ ap (λ (n : ℕ). reference_bytes (sectors_of old.blocks.geometry old.blocks.applied counters n)) both.0 ∙ sym theirs.says,
        same_work work work'
            (one.at ∙ ap (λ (n : ℕ). block_of old.journal.geometry (ReferenceBlock old.journal.slab n)) both.0 ∙ sym other.at)
            (one.slab ∙ sym other.slab) (one.part ∙ sym other.part) both.0,
      )

  pub one_due : (need : Need) → IsDue need old new counters bytes work → IsDue need old new' counters bytes' work' → AreOne
  one_due need (inl one) (inl other) = one_journal one.1 other.1
  one_due need (inl one) (inr other) = absurd (not_both need old.journal one.0 other.0)
  one_due need (inr one) (inl other) = absurd (not_both need old.journal other.0 one.0)
  one_due need (inr one) (inr other) = one_reference one.1 other.1
