-- Blocks of counters and of a slab's journal that may be written: for each way in which an update may be said elsewhere a block
-- over it. The image and the entries are those of the example.
use Rattle.std.proofs.Common.{ℕ, zero, suc, ◌≡◌, ◌⊎◌, ◌/◌, ◌<◌, ◌≤◌, true, List, [], ◌∷◌, Contains, length, refl, sym, subst, inl, inr, arith}
use Rattle.blk_base.specs.Counters.{sector_of_offset}
use Rattle.blk_base.specs.Regions.{ReferenceBlock, SlabJournalSlot, block_of, needed_blocks}
use Rattle.blk_base.specs.Sectors.{sector, zero_block}
use Rattle.blk_base.specs.declared.journal_entry.CommittedEntry.{CommittedEntry}
use Rattle.blk_base.specs.declared.layout.DataPlace.{DataPlace}
use Rattle.blk_base.specs.Forms.{pbn}
use Rattle.byte_fields.specs.Fields.{number_at}
use Rattle.disk_model.specs.declared.call.Call.{Call}
use Rattle.disk_model.specs.declared.call.Call.TheVariants.{Flush, Write}
use Rattle.disk_model.specs.Log.{Blocks, block_at}
use Rattle.image_model.proofs.Example.{small}
use Rattle.image_model.proofs.ZeroLaws.{no_slab_sector}
use Rattle.image_model.specs.Empty.{IsEmpty}
use Rattle.image_model.specs.Maps.{Image}
use Rattle.slab_codec.specs.declared.forms.SlabEntry.{SlabEntry}
use Rattle.count_laws.specs.Counters.{HasUpdate, IsKnown, MayWrite, SurelyCounters, SurelyJournal, entry_at, points_at}
use Rattle.count_laws.proofs.ClosedRows.{journal_with, only_entry}
use Rattle.count_laws.proofs.Example.{four, opened}
use Rattle.count_laws.proofs.WriteExample as example
use Rattle.count_laws.proofs.WriteExample.{all_counted}

-- block 150 is no block of counters, and slot 0 of the slab's journal alone
no_counters : (slab i : ℕ) → slab < 1 → i < 1 → 150 ≡ block_of small (ReferenceBlock slab i) → ⊥
no_counters slab i one below same = omega (arith, one, below, same)

no_updates_in_zeros : (slab number : ℕ) (entry : SlabEntry) → number < 8 → HasUpdate small slab number entry (sector number zero_block) → ⊥
no_updates_in_zeros slab number entry below has = no_slab_sector 1 slab 64 number has.sequence has.entries below has.valid

module _ (blocks : Blocks) (empty : IsEmpty small blocks) (log : List Call) where
  abbrev image : Image
  image = opened blocks empty

  -- A block over slot 0 of the journal, by its updates and by what becomes of those that were there.
  over : (window : List CommittedEntry) (bytes : List ℕ)
      → ((number : ℕ) (entry : SlabEntry) → number < 8 → HasUpdate small 0 number entry (sector number bytes) → IsKnown image four 0 entry)
      → ((x : DataPlace) (slot number point : ℕ) → x.slab < 1 → x.offset < 64 → number < 8 → 150 ≡ block_of small (SlabJournalSlot x.slab slot) → Contains (points_at small four x) point
      → SurelyJournal blocks log small x.slab slot number (HasUpdate small x.slab number (entry_at x point))
      → HasUpdate small x.slab number (entry_at x point) (sector number bytes) ⊎ Contains (points_at small window x) point
      ⊎ SurelyCounters blocks log small x.slab (sector_of_offset small x.offset) (λ old. point ≤ number_at 8 0 old))
      → MayWrite blocks log image four window 150 bytes
  over window bytes known said = record {
    sectors = λ slab n one below here. absurd (no_counters slab (n / 8) one (omega (arith, below)) here);
    behind = λ slab n one past below here. absurd (no_counters slab (n / 8) one (omega (arith, below)) here);
    no_lower = λ x n point there here has surely. absurd (let inside = there.0 in let number = there.2 in let offset = inside.1 in no_counters x.slab (n / 8) inside.0 (omega (arith, number, offset)) here);
    only = λ slab slot number entry one in_journal below here has. known_in slab slot number entry one below here has;
    overwritten = λ x slot number point inside in_journal below here has surely. said x slot number point inside.0 inside.1 below here has surely;
  }
    where
      known_in : (slab slot number : ℕ) (entry : SlabEntry) → slab < 1 → number < 8 → 150 ≡ block_of small (SlabJournalSlot slab slot) → HasUpdate small slab number entry (sector number bytes)
          → IsKnown image four slab entry
      known_in zero slot number entry one below here has = known number entry below has
      known_in (suc slab) slot number entry one below here has = absurd (omega (arith, one))

  none_known : (number : ℕ) (entry : SlabEntry) → number < 8 → HasUpdate small 0 number entry (sector number zero_block) → IsKnown image four 0 entry
  none_known number entry below has = absurd (no_updates_in_zeros 0 number entry below has)

  -- zeros over an update that the window has
  over_with_window : MayWrite blocks log image four four 150 zero_block
  over_with_window = over four zero_block none_known (λ x slot number point one inside below here has surely. inr (inl has))

module _ (blocks : Blocks) (empty : IsEmpty small blocks) (room : needed_blocks small ≤ length blocks) (whole : (b : ℕ) → b < length blocks → length (block_at blocks b) ≡ 4096) (older : List Call) where
  -- zeros over one that the counters have
  over_with_counters : MayWrite blocks (Flush true ∷ Write (pbn 149) example.written true ∷ older) (opened blocks empty) four [] 150 zero_block
  over_with_counters =
      over blocks empty (Flush true ∷ Write (pbn 149) example.written true ∷ older) [] zero_block (none_known blocks empty (Flush true ∷ Write (pbn 149) example.written true ∷ older))
      (λ x slot number point one inside below here has surely. inr (inr (all_counted blocks empty room whole older x point (one, inside) has)))

module _ (blocks : Blocks) (empty : IsEmpty small blocks) where
  -- and the block that has it again
  abbrev log_kept : List Call
  log_kept = Flush true ∷ Write (pbn 150) (journal_with 512) true ∷ []

  over_with_itself : MayWrite blocks log_kept (opened blocks empty) four [] 150 (journal_with 512)
  over_with_itself = over blocks empty log_kept [] (journal_with 512) known (λ x slot number point one inside below here has surely. inl (again x.slab x.offset slot number point one here surely))
    where
      known : (number : ℕ) (entry : SlabEntry) → number < 8 → HasUpdate small 0 number entry (sector number (journal_with 512)) → IsKnown (opened blocks empty) four 0 entry
      known number entry below has =
          subst (IsKnown (opened blocks empty) four 0) (sym (only_entry 512 number has.sequence has.entries entry (omega arith) below has.valid has.listed)) (inr (0, omega arith, refl))

      again : (slab offset slot number point : ℕ) → slab < 1 → 150 ≡ block_of small (SlabJournalSlot slab slot)
          → SurelyJournal blocks log_kept small slab slot number (HasUpdate small slab number (entry_at (record { slab = slab; offset = offset }) point))
          → HasUpdate small slab number (entry_at (record { slab = slab; offset = offset }) point) (sector number (journal_with 512))
      again (suc slab) offset slot number point one here surely = absurd (omega (arith, one))
      again zero offset zero number point one here surely = surely.0
      again zero offset (suc slot) number point one here surely = absurd (omega (arith, here))
