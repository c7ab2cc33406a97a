-- What stays where the pages and the counters of an image are written.
use Rattle.std.proofs.Common.{ℕ, ◌≡◌, ◌+◌, ◌<◌, ◌≤◌, List, length, All, refl, sym, ◌∙◌, subst, arith}
use Rattle.blk_base.specs.Regions.{Place, Superblock, JournalSlot, Root, IndexBlock, DataBlock, ReferenceBlock, SlabJournalSlot, IsPlace, block_of, needed_blocks}
use Rattle.blk_base.specs.Sectors.{sector}
use Rattle.blk_base.proofs.RegionLaws.{apart, data_block_high, inside}
use Rattle.blk_base.specs.declared.geometry.Geometry.{Geometry}
use Rattle.blk_base.specs.declared.place.Mapping.{Mapping}
use Rattle.blk_base.specs.declared.place.Mapping.TheVariants.{Unmapped, Zero, At}
use Rattle.blk_base.specs.declared.place.Pbn.{Pbn}
use Rattle.disk_model.specs.Log.{Blocks, block_at}
use Rattle.image_layout.specs.Values.{journal_of}
use Rattle.image_model.proofs.LookedLaws.{looked_high, looked_place}
use Rattle.image_model.specs.Counts.{IsKept}
use Rattle.image_model.specs.Maps.{Image, ArePagesGood, mapping_of, value_with}
use Rattle.image_model.specs.Sound.{AreUnshared}
use Rattle.image_model.proofs.JournalLaws.{journals_alike}
use Rattle.slab_codec.specs.Grammar.{IsSlabSector}
use Rattle.slab_codec.specs.declared.forms.SlabEntry.{SlabEntry}
use Rattle.recovery_laws.specs.Written.{AreOthersKept, IsCountersBlock}
use Rattle.recovery_laws.proofs.OldLaws.{mapped_is_data, mapped_is_no_page, no_page_there}
use Rattle.recovery_laws.proofs.WindowFacts.{IsKnown}

pub value_alike : (blocks blocks' : Blocks) (mapping : Mapping) → ((block : Pbn) → mapping ≡ At block → block_at blocks' block.0 ≡ block_at blocks block.0) → value_with blocks' mapping ≡ value_with blocks mapping
value_alike blocks blocks' Unmapped same = refl
value_alike blocks blocks' Zero same = refl
value_alike blocks blocks' (At block) same = same block refl

module _ (image : Image) (blocks' : Blocks) (good : ArePagesGood image) (last : ℕ) (known : All (IsKnown image.geometry last) image.window)
    (room : needed_blocks image.geometry ≤ length image.blocks) (size : length blocks' ≡ length image.blocks) (others : AreOthersKept image blocks') where
  abbrev g : Geometry
  g = image.geometry

  -- places of the journals
  abbrev pub IsJournalPlace : Place → Type 0
  IsJournalPlace (JournalSlot _) = Unit {0}
  IsJournalPlace (SlabJournalSlot _ _) = Unit {0}
  IsJournalPlace Superblock = ⊥
  IsJournalPlace (Root _) = ⊥
  IsJournalPlace (IndexBlock _) = ⊥
  IsJournalPlace (DataBlock _ _) = ⊥
  IsJournalPlace (ReferenceBlock _ _) = ⊥

  no_counters_there : (place : Place) → IsPlace g place → IsJournalPlace place → IsCountersBlock image (block_of g place) → ⊥
  no_counters_there place is journal (slab, i, there, same) =
      subst IsJournalPlace (apart g place (ReferenceBlock slab i) is there (sym same)) journal

  slot_kept : (slot : ℕ) → slot < g.journal → block_at blocks' (1 + slot) ≡ block_at image.blocks (1 + slot)
  slot_kept slot is =
      let below = inside g (JournalSlot slot) is in
      others (1 + slot) (omega arith) (omega (arith, below, room)) (looked_place g (JournalSlot slot) is tt) (no_page_there image good last known (JournalSlot slot) is tt) (no_counters_there (JournalSlot slot) is tt)

  pub same_journal : journal_of g blocks' ≡ journal_of g image.blocks
  same_journal = journals_alike g image.blocks blocks' size slot_kept

  slab_slot_kept : (slab slot : ℕ) → slab < g.slabs → slot < g.slab_journal → block_at blocks' (block_of g (SlabJournalSlot slab slot)) ≡ block_at image.blocks (block_of g (SlabJournalSlot slab slot))
  slab_slot_kept slab slot is below_slots =
      let below = inside g (SlabJournalSlot slab slot) (is, below_slots) in
      others (block_of g (SlabJournalSlot slab slot)) (omega arith) (omega (arith, below, room)) (looked_place g (SlabJournalSlot slab slot) (is, below_slots) tt)
      (no_page_there image good last known (SlabJournalSlot slab slot) (is, below_slots) tt) (no_counters_there (SlabJournalSlot slab slot) (is, below_slots) tt)

  pub kept_again : (slab : ℕ) (entry : SlabEntry) → slab < g.slabs → IsKept g image.blocks slab entry → IsKept g blocks' slab entry
  kept_again slab entry is kept = record {
    slot = kept.slot;
    number = kept.number;
    inside = kept.inside;
    sequence = kept.sequence;
    entries = kept.entries;
    valid = subst (λ (block : List ℕ). IsSlabSector g.nonce slab g.slab_blocks kept.number (sector kept.number block) kept.sequence kept.entries)
        (sym (slab_slot_kept slab kept.slot is kept.inside.0)) kept.valid;
    listed = kept.listed;
  }

  pub kept_before : (slab : ℕ) (entry : SlabEntry) → slab < g.slabs → IsKept g blocks' slab entry → IsKept g image.blocks slab entry
  kept_before slab entry is kept = record {
    slot = kept.slot;
    number = kept.number;
    inside = kept.inside;
    sequence = kept.sequence;
    entries = kept.entries;
    valid = subst (λ (block : List ℕ). IsSlabSector g.nonce slab g.slab_blocks kept.number (sector kept.number block) kept.sequence kept.entries)
        (slab_slot_kept slab kept.slot is kept.inside.0) kept.valid;
    listed = kept.listed;
  }

  -- the data of an address
  pub same_data : AreUnshared image → (address : ℕ) → value_with blocks' (mapping_of image address) ≡ value_with image.blocks (mapping_of image address)
  same_data unshared address = value_alike image.blocks blocks' (mapping_of image address)
      (λ block is.
      let stands = mapped_is_data image good last known address block is in
      let high = data_block_high g block.0 stands in
      let below = inside g (DataBlock stands.slab stands.offset) stands.inside in
      let at = stands.stands in
      others block.0 (omega (arith, high)) (omega (arith, below, at, room)) (looked_high g block.0 high) (mapped_is_no_page image good last known unshared address block is)
      (λ (slab, i, there, same). let one = apart g (ReferenceBlock slab i) (DataBlock stands.slab stands.offset) there stands.inside (same ∙ sym at) in absurd (cc one)))
