-- What a stop leaves while an image is rebuilt.
use Rattle.std.proofs.Common.{ℕ, ◌≡◌, ◌+◌, ◌*◌, ◌<◌, ◌≤◌, ◌^◌, IsTrue, List, length, All, Some, refl, sym, ap, subst, inl, inr, arith}
use Rattle.std.specs.List.{AllByRecursion}
use Rattle.blk_base.specs.Regions.{Place, Superblock, JournalSlot, Root, IndexBlock, DataBlock, ReferenceBlock, SlabJournalSlot, IsPlace, block_of, needed_blocks}
use Rattle.blk_base.specs.Sectors.{sector}
use Rattle.blk_base.proofs.RegionLaws.{data_block_high, inside}
use Rattle.blk_base.specs.declared.geometry.Geometry.{Geometry}
use Rattle.blk_base.specs.declared.place.PageId.{PageId}
use Rattle.blk_base.specs.declared.place.Pbn.{Pbn}
use Rattle.byte_fields.specs.Mappings.{mapping_bytes}
use Rattle.byte_fields.proofs.MappingLaws.{length-mapping}
use Rattle.disk_model.specs.declared.call.Call.{Call}
use Rattle.disk_model.specs.Images.{IsMixOf}
use Rattle.disk_model.specs.Log.{Blocks, block_at, contents}
use Rattle.disk_model.specs.OneImages.{AreAlikeIn, IsImageIn}
use Rattle.disk_model.proofs.ImageLaws.{all_weaker, block_of_mix, sector_of_mix}
use Rattle.image_model.proofs.LookedLaws.{IsOutside, looked_first, looked_high, looked_in_place, looked_low, looked_place}
use Rattle.image_model.specs.Looked.{is_looked_at, looked_in}
use Rattle.image_model.specs.Maps.{Image, head_of, page_at, says}
use Rattle.page_codec.proofs.SpellingLaws.{length-head}
use Rattle.page_codec.specs.Grammar.{HasHead, HoldsMapping, slot_bytes}
use Rattle.page_codec.specs.PageBytes.{head_bytes}
use Rattle.rebuild.proofs.WrittenLaws.{page_of_mix}
use Rattle.recovery_laws.proofs.BlockLaws.{part_of_mix}
use Rattle.recovery_laws.proofs.OldLaws.{own_slot, page_stands}
use Rattle.recovery_laws.proofs.PutLaws.{full_is_part}
use Rattle.recovery_laws.proofs.WindowFacts.{IsKnown}
use Rattle.recovery_laws.specs.Written.{IsFullPage, IsPageBlock, IsPartPage}
use Rattle.force_rebuild.proofs.OtherLaws.{no_slab_there}
use Rattle.force_rebuild.proofs.PutLaws.{IsFullBlock, IsPartBlock}
use Rattle.force_rebuild.proofs.SlabLaws.{length-slab_block}
use Rattle.force_rebuild.proofs.SoundLaws.{here, known, room, underway_is_kept}
use Rattle.force_rebuild.specs.Kept.{IsKept, IsSlabBlock, IsSlabPlace}
use Rattle.force_rebuild.specs.Rebuildable.{IsRebuildable}
use Rattle.force_rebuild.specs.Written.{AreRewritten, AreUnderway, commit_behind, slab_block}

-- a whole page that is mixed by sectors of whole ones
full_of_mix : (image : Image) (page : PageId) (at : Pbn) (options : List (List ℕ)) (bytes : List ℕ) → length bytes ≡ 4096 → IsMixOf options bytes
    → AllByRecursion (IsFullPage image page at) options → IsFullPage image page at bytes
full_of_mix image page at options bytes whole mix all =
    let head = head_of image page at in
    let headed : HasHead head bytes =
    part_of_mix options bytes 0 36 (head_bytes head) (length-head head) (omega arith) whole mix
    (all_weaker (IsFullPage image page at) (λ content. HasHead head content) options (λ content full. full.headed) all) in
    record {
      headed = headed;
      slots = λ slot small.
          let mapping = says image page at slot in record {
            headed = headed;
            spelled = part_of_mix options bytes (36 + 5 * slot) 5 (mapping_bytes mapping) (length-mapping mapping) (omega (arith, small)) whole mix
                (all_weaker (IsFullPage image page at) (λ content. slot_bytes slot content ≡ mapping_bytes mapping) options (λ content full. (full.slots slot small).spelled) all);
            held = sector_of_mix (λ (s : List ℕ). HoldsMapping image.geometry page.level mapping) options bytes 0 (omega arith) mix
                (all_weaker (IsFullPage image page at) (λ content. HoldsMapping image.geometry page.level mapping) options (λ content full. (full.slots slot small).held) all);
          };
    }

module _ (blocks : Blocks) (is : IsRebuildable blocks) where
  abbrev image : Image
  image = here blocks blocks is

  abbrev g : Geometry
  g = is.head.geometry

  all_known : All (IsKnown g is.last) is.window
  all_known = known blocks blocks is

  enough : needed_blocks g ≤ length blocks
  enough = room blocks blocks is

  pub page_inside : (page : PageId) (at : Pbn) → page_at image page ≡ Some at → at.0 < length blocks
  page_inside page at there = let wide = enough in elim (page_stands image is.pages is.last all_known page at there) [
    | inl root ↦ let below = inside g (Root page.tree) root.1 in let stands = root.2 in omega (arith, below, stands, wide)
    | inr data_block ↦
        let below = inside g (DataBlock data_block.slab data_block.offset) data_block.inside in let stands = data_block.stands in omega (arith, below, stands, wide)
  ]

  page_behind : (page : PageId) (at : Pbn) → page_at image page ≡ Some at → 1 ≤ at.0
  page_behind page at there = elim (page_stands image is.pages is.last all_known page at there) [
    | inl root ↦ let stands = root.2 in omega (arith, stands)
    | inr data_block ↦ let high = data_block_high g at.0 data_block in omega (arith, high)
  ]

  pub page_looked_at : (page : PageId) (at : Pbn) → page_at image page ≡ Some at → IsTrue (is_looked_at g at.0)
  page_looked_at page at there = elim (page_stands image is.pages is.last all_known page at there) [
    | inl root ↦ subst (λ (b : ℕ). IsTrue (is_looked_at g b)) root.2 (looked_place g (Root page.tree) root.1 tt)
    | inr stands ↦ looked_high g at.0 (data_block_high g at.0 stands)
  ]

  slab_outside : (place : Place) → IsSlabPlace place → IsOutside place
  slab_outside (ReferenceBlock slab i) slab_place = tt
  slab_outside (SlabJournalSlot slab i) slab_place = tt
  slab_outside Superblock none = absurd none
  slab_outside (JournalSlot _) none = absurd none
  slab_outside (Root _) none = absurd none
  slab_outside (IndexBlock _) none = absurd none
  slab_outside (DataBlock _ _) none = absurd none

  pub no_page_first : IsPageBlock image 0 → ⊥
  no_page_first (page, at, there, same) = let behind = page_behind page at there in omega (arith, same, behind)

  pub no_slab_first : IsSlabBlock g 0 → ⊥
  no_slab_first slab = no_slab_there g Superblock tt (λ none. none) slab

  -- blocks that are the same but for the index
  pub alike_is_kept : (now : Blocks) → AreAlikeIn (looked_in blocks) blocks now → IsKept image now
  alike_is_kept now alike =
      underway_is_kept blocks now is
      (record {
        size = alike.size;
        head = ap (sector 0) (alike.same 0 (let wide = enough in omega (arith, wide)) (looked_first blocks));
        pages = λ page at there.
            let good = is.pages page at there in
            subst (IsPartPage image page at) (sym (alike.same at.0 (page_inside page at there) (looked_in_place blocks is.head is.accepted at.0 (page_looked_at page at there))))
            (record { headed = good.headed; slots = λ slot below none. own_slot image page at slot (good.slots slot below) none });
        others = λ b behind below looked no_page no_slab. alike.same b below (looked_in_place blocks is.head is.accepted b looked);
      })

  module _ (named : is.head.geometry.nonce < 2 ^ 64) (old_whole : (b : ℕ) → b < length blocks → length (block_at blocks b) ≡ 4096) (calls : List Call) (now : Blocks) (left : IsImageIn (is_looked_at g) blocks calls now) where
    -- before the superblock is written
    pub part_image : ((b : ℕ) → AllByRecursion (IsPartBlock blocks is named b) (contents blocks calls b)) → AreUnderway image now
    part_image all = record {
      size = left.size;
      head =
          sector_of_mix (λ (s : List ℕ). s ≡ sector 0 (block_at blocks 0)) (contents blocks calls 0) (block_at now 0) 0 (omega arith)
          (left.sectors 0 (let wide = enough in omega (arith, wide)) (looked_low g 0 (omega arith)))
          (all_weaker (IsPartBlock blocks is named 0) (λ content. sector 0 content ≡ sector 0 (block_at blocks 0)) (contents blocks calls 0)
          (λ content part. ap (sector 0) (part.other no_page_first no_slab_first)) (all 0));
      pages = λ page at there.
          let below = page_inside page at there in
          page_of_mix image page at (contents blocks calls at.0) (block_at now at.0) (left.whole at.0 below) (left.sectors at.0 below (page_looked_at page at there))
          (all_weaker (IsPartBlock blocks is named at.0) (IsPartPage image page at) (contents blocks calls at.0) (λ content part. part.page page at there refl) (all at.0));
      others = λ b behind below looked no_page no_slab.
          block_of_mix (contents blocks calls b) (block_at blocks b) (block_at now b) (old_whole b below) (left.whole b below) (left.sectors b below looked)
          (all_weaker (IsPartBlock blocks is named b) (λ content. content ≡ block_at blocks b) (contents blocks calls b)
          (λ content part. part.other no_page no_slab) (all b));
    }

    -- once all else is on the device
    pub full_image : (counters : List ℕ) → ((b : ℕ) → 1 ≤ b → AllByRecursion (IsFullBlock blocks is named counters b) (contents blocks calls b))
        → AreRewritten image (commit_behind is.last) counters now
    full_image counters all = record {
      size = left.size;
      pages = λ page at there.
          let below = page_inside page at there in
          full_of_mix image page at (contents blocks calls at.0) (block_at now at.0) (left.whole at.0 below) (left.sectors at.0 below (page_looked_at page at there))
          (all_weaker (IsFullBlock blocks is named counters at.0) (IsFullPage image page at) (contents blocks calls at.0) (λ content full. full.page page at there refl)
          (all at.0 (page_behind page at there)));
      slabs = λ place there slab_place.
          let b = block_of g place in
          let wide = enough in
          let within = inside g place there in
          let below : b < length blocks = omega (arith, wide, within) in
          block_of_mix (contents blocks calls b) (slab_block g (commit_behind is.last) counters place) (block_at now b)
          (length-slab_block g (commit_behind is.last) counters place) (left.whole b below) (left.sectors b below (looked_place g place there (slab_outside place slab_place)))
          (all_weaker (IsFullBlock blocks is named counters b) (λ content. content ≡ slab_block g (commit_behind is.last) counters place) (contents blocks calls b)
          (λ content full. full.slab place there slab_place refl) (all b (slab_behind place there slab_place)));
      others = λ b behind below looked no_page no_slab.
          block_of_mix (contents blocks calls b) (block_at blocks b) (block_at now b) (old_whole b below) (left.whole b below) (left.sectors b below looked)
          (all_weaker (IsFullBlock blocks is named counters b) (λ content. content ≡ block_at blocks b) (contents blocks calls b)
          (λ content full. full.other no_page no_slab) (all b behind));
    }
      where
        slab_behind : (place : Place) → IsPlace g place → IsSlabPlace place → 1 ≤ block_of g place
        slab_behind (ReferenceBlock slab i) there slab_place = omega arith
        slab_behind (SlabJournalSlot slab i) there slab_place = omega arith
        slab_behind Superblock there none = absurd none
        slab_behind (JournalSlot _) there none = absurd none
        slab_behind (Root _) there none = absurd none
        slab_behind (IndexBlock _) there none = absurd none
        slab_behind (DataBlock _ _) there none = absurd none

  -- All else is on the device, and the superblock isn't.
  pub full_is_underway : (counters : List ℕ) (now : Blocks) → AreRewritten image (commit_behind is.last) counters now → sector 0 (block_at now 0) ≡ sector 0 (block_at blocks 0) → AreUnderway image now
  full_is_underway counters now full head = record {
    size = full.size;
    head = head;
    pages = λ page at there. full_is_part image page at (block_at now at.0) (full.pages page at there);
    others = full.others;
  }
