-- What stays where the pages, the counters and the slabs' journals of an image are written.
use Rattle.std.proofs.Common.{ℕ, ◌≡◌, ◌+◌, ◌<◌, ◌≤◌, length, All, sym, subst, arith}
use Rattle.blk_base.specs.Regions.{Place, JournalSlot, DataBlock, IsPlace, block_of, needed_blocks}
use Rattle.blk_base.proofs.RegionLaws.{apart, data_block_high, inside}
use Rattle.blk_base.specs.declared.geometry.Geometry.{Geometry}
use Rattle.disk_model.specs.Log.{Blocks, block_at}
use Rattle.image_layout.specs.Values.{journal_of}
use Rattle.image_model.proofs.LookedLaws.{looked_high, looked_place}
use Rattle.image_model.specs.Maps.{Image, ArePagesGood, mapping_of, value_with}
use Rattle.image_model.specs.Sound.{AreUnshared}
use Rattle.image_model.proofs.JournalLaws.{journals_alike}
use Rattle.recovery_laws.proofs.OldLaws.{mapped_is_data, mapped_is_no_page, no_page_there}
use Rattle.recovery_laws.proofs.WindowFacts.{IsKnown}
use Rattle.recovery_laws.proofs.StillLaws.{value_alike}
use Rattle.force_rebuild.specs.Kept.{AreOthersKept, IsSlabBlock, IsSlabPlace}

-- no other place is one of a slab's counters or its journal
pub no_slab_there : (g : Geometry) (place : Place) → IsPlace g place → (IsSlabPlace place → ⊥) → IsSlabBlock g (block_of g place) → ⊥
no_slab_there g place is none (other, there, slab, same) = none (subst IsSlabPlace (apart g other place there is same) slab)

module _ (image : Image) (blocks' : Blocks) (good : ArePagesGood image) (last : ℕ) (known : All (IsKnown image.geometry last) image.window)
    (room : needed_blocks image.geometry ≤ length image.blocks) (size : length blocks' ≡ length image.blocks) (others : AreOthersKept image blocks') where
  abbrev g : Geometry
  g = image.geometry

  slot_kept : (slot : ℕ) → slot < g.journal → block_at blocks' (1 + slot) ≡ block_at image.blocks (1 + slot)
  slot_kept slot is =
      let below = inside g (JournalSlot slot) is in
      others (1 + slot) (omega arith) (omega (arith, below, room)) (looked_place g (JournalSlot slot) is tt) (no_page_there image good last known (JournalSlot slot) is tt)
      (no_slab_there g (JournalSlot slot) is (λ none. none))

  pub same_journal : journal_of g blocks' ≡ journal_of g image.blocks
  same_journal = journals_alike g image.blocks blocks' size slot_kept

  -- the data of an address
  pub same_data : AreUnshared image → (address : ℕ) → value_with blocks' (mapping_of image address) ≡ value_with image.blocks (mapping_of image address)
  same_data unshared address = value_alike image.blocks blocks' (mapping_of image address)
      (λ block is.
      let stands = mapped_is_data image good last known address block is in
      let high = data_block_high g block.0 stands in
      let below = inside g (DataBlock stands.slab stands.offset) stands.inside in
      let at = stands.stands in
      others block.0 (omega (arith, high)) (omega (arith, below, at, room)) (looked_high g block.0 high) (mapped_is_no_page image good last known unshared address block is)
      (λ slab. no_slab_there g (DataBlock stands.slab stands.offset) stands.inside (λ none. none) (subst (IsSlabBlock g) (sym at) slab)))
