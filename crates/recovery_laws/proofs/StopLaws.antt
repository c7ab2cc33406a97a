-- What a stop leaves while an image is recovered.
use Rattle.std.proofs.Common.{ℕ, ◌≡◌, ◌⊎◌, ◌+◌, ◌*◌, ◌/◌, ◌%◌, ◌<◌, ◌≤◌, ◌^◌, IsTrue, List, length, All, Some, refl, ap, subst, inl, inr, arith}
use Rattle.std.specs.List.{AllByRecursion}
use Rattle.std.proofs.Math.Nat.{mod-lt}
use Rattle.std.proofs.lemmas.Bool.{cases_lt}
use Rattle.blk_base.specs.Counters.{sectors_per_slab}
use Rattle.blk_base.specs.Regions.{Root, DataBlock, ReferenceBlock, block_of, needed_blocks, references_of}
use Rattle.blk_base.specs.Sectors.{sector}
use Rattle.blk_base.proofs.RegionLaws.{data_block_high, inside}
use Rattle.blk_base.specs.declared.geometry.Geometry.{Geometry}
use Rattle.blk_base.specs.declared.place.PageId.{PageId}
use Rattle.blk_base.specs.declared.place.Pbn.{Pbn}
use Rattle.blk_base.specs.declared.sizes.TheConstants.{PAGE_SLOTS}
use Rattle.byte_fields.specs.Mappings.{mapping_bytes}
use Rattle.byte_fields.proofs.MappingLaws.{length-mapping}
use Rattle.disk_model.specs.declared.call.Call.{Call}
use Rattle.disk_model.specs.Log.{Blocks, block_at, contents}
use Rattle.disk_model.specs.OneImages.{IsImageIn}
use Rattle.disk_model.proofs.ImageLaws.{all_weaker, block_of_mix, sector_of_mix}
use Rattle.image_model.proofs.LookedLaws.{looked_high, looked_low, looked_place}
use Rattle.image_model.specs.Counts.{reference_sector_at}
use Rattle.image_model.specs.Looked.{is_looked_at}
use Rattle.image_model.specs.Maps.{Image, head_of, page_at, says}
use Rattle.page_codec.proofs.SpellingLaws.{length-head}
use Rattle.page_codec.specs.Grammar.{HasHead, HoldsMapping, IsSlot, slot_bytes}
use Rattle.page_codec.specs.PageBytes.{head_bytes}
use Rattle.recovery_laws.specs.Recoverable.{IsRecoverable}
use Rattle.recovery_laws.specs.Written.{AreFull, AreUnderway, IsCountersBlock, IsFullPage, IsFullSector, IsOldSector, IsPageBlock, IsPartPage}
use Rattle.recovery_laws.proofs.BlockLaws.{part_of_mix}
use Rattle.recovery_laws.proofs.CountsKept.{sectors_inside}
use Rattle.recovery_laws.proofs.OldLaws.{page_stands}
use Rattle.recovery_laws.proofs.PutLaws.{IsFullBlock, IsPartBlock, full_is_part}
use Rattle.recovery_laws.proofs.RecoverableLaws.{here, known, room}
use Rattle.recovery_laws.proofs.WindowFacts.{IsKnown}

module _ (blocks : Blocks) (able : IsRecoverable blocks) (named : able.head.geometry.nonce < 2 ^ 64) where
  abbrev image : Image
  image = here blocks blocks able

  abbrev g : Geometry
  g = able.head.geometry

  all_known : All (IsKnown g able.last) able.window
  all_known = known blocks blocks able

  enough : needed_blocks g ≤ length blocks
  enough = room blocks blocks able

  -- a block whose contents are of a kind, mixed by sectors, is of it

  pub page_below : (page : PageId) (at : Pbn) → page_at image page ≡ Some at → at.0 < needed_blocks g
  page_below page at there = elim (page_stands image able.pages able.last all_known page at there) [
    | inl root ↦ let below = inside g (Root page.tree) root.1 in let is = root.2 in omega (arith, below, is)
    | inr stands ↦ let below = inside g (DataBlock stands.slab stands.offset) stands.inside in let is = stands.stands in omega (arith, below, is)
  ]

  pub page_inside : (page : PageId) (at : Pbn) → page_at image page ≡ Some at → at.0 < length blocks
  page_inside page at there = let wide = enough in let below = page_below page at there in omega (arith, below, wide)

  page_behind : (page : PageId) (at : Pbn) → page_at image page ≡ Some at → 1 ≤ at.0
  page_behind page at there = elim (page_stands image able.pages able.last all_known page at there) [
    | inl root ↦ let is = root.2 in omega (arith, is)
    | inr stands ↦ let high = data_block_high g at.0 stands in omega (arith, high)
  ]

  pub page_looked_at : (page : PageId) (at : Pbn) → page_at image page ≡ Some at → IsTrue (is_looked_at g at.0)
  page_looked_at page at there = elim (page_stands image able.pages able.last all_known page at there) [
    | inl root ↦ subst (λ (b : ℕ). IsTrue (is_looked_at g b)) root.2 (looked_place g (Root page.tree) root.1 tt)
    | inr stands ↦ looked_high g at.0 (data_block_high g at.0 stands)
  ]

  pub no_page_first : IsPageBlock image 0 → ⊥
  no_page_first (page, at, there, same) = let behind = page_behind page at there in omega (arith, same, behind)

  pub no_counters_first : IsCountersBlock image 0 → ⊥
  no_counters_first (slab, i, is, same) = omega (arith, same)

  module _ (old_whole : (b : ℕ) → b < length blocks → length (block_at blocks b) ≡ 4096) (calls : List Call) (now : Blocks) (is : IsImageIn (is_looked_at g) blocks calls now) where
    mixed_head : (page : PageId) (at : Pbn) → page_at image page ≡ Some at → AllByRecursion (λ content. HasHead (head_of image page at) content) (contents blocks calls at.0)
        → HasHead (head_of image page at) (block_at now at.0)
    mixed_head page at there all =
        let below = page_inside page at there in
        part_of_mix (contents blocks calls at.0) (block_at now at.0) 0 36 (head_bytes (head_of image page at)) (length-head (head_of image page at)) (omega arith)
        (is.whole at.0 below) (is.sectors at.0 below (page_looked_at page at there)) all

    mixed_slot : (page : PageId) (at : Pbn) (slot : ℕ) → page_at image page ≡ Some at → slot < PAGE_SLOTS
        → AllByRecursion (λ content. IsSlot (head_of image page at) content slot (says image page at slot)) (contents blocks calls at.0)
        → HasHead (head_of image page at) (block_at now at.0) → IsSlot (head_of image page at) (block_at now at.0) slot (says image page at slot)
    mixed_slot page at slot there small all headed =
        let below = page_inside page at there in
        let mapping = says image page at slot in
        record {
          headed = headed;
          spelled =
              part_of_mix (contents blocks calls at.0) (block_at now at.0) (36 + 5 * slot) 5 (mapping_bytes mapping) (length-mapping mapping) (omega (arith, small))
              (is.whole at.0 below) (is.sectors at.0 below (page_looked_at page at there))
              (all_weaker (λ content. IsSlot (head_of image page at) content slot mapping) (λ content. slot_bytes slot content ≡ mapping_bytes mapping) (contents blocks calls at.0)
              (λ content said. said.spelled) all);
          held =
              sector_of_mix (λ (s : List ℕ). HoldsMapping g page.level mapping) (contents blocks calls at.0) (block_at now at.0) 0 (omega arith) (is.sectors at.0 below (page_looked_at page at there))
              (all_weaker (λ content. IsSlot (head_of image page at) content slot mapping) (λ content. HoldsMapping g page.level mapping) (contents blocks calls at.0)
              (λ content said. said.held) all);
        }

    page_part : (page : PageId) (at : Pbn) → page_at image page ≡ Some at → AllByRecursion (IsPartPage image page at) (contents blocks calls at.0) → IsPartPage image page at (block_at now at.0)
    page_part page at there all =
        let headed = mixed_head page at there (all_weaker (IsPartPage image page at) (λ content. HasHead (head_of image page at) content) (contents blocks calls at.0) (λ content part. part.headed) all) in
        record {
          headed = headed;
          slots = λ slot small none. mixed_slot page at slot there small
              (all_weaker (IsPartPage image page at) (λ content. IsSlot (head_of image page at) content slot (says image page at slot)) (contents blocks calls at.0)
              (λ content part. part.slots slot small none) all) headed;
        }

    page_full : (page : PageId) (at : Pbn) → page_at image page ≡ Some at → AllByRecursion (IsFullPage image page at) (contents blocks calls at.0) → IsFullPage image page at (block_at now at.0)
    page_full page at there all =
        let headed = mixed_head page at there (all_weaker (IsFullPage image page at) (λ content. HasHead (head_of image page at) content) (contents blocks calls at.0) (λ content part. part.headed) all) in
        record {
          headed = headed;
          slots = λ slot small. mixed_slot page at slot there small
              (all_weaker (IsFullPage image page at) (λ content. IsSlot (head_of image page at) content slot (says image page at slot)) (contents blocks calls at.0)
              (λ content part. part.slots slot small) all) headed;
        }

    -- a sector of counters
    counters_inside : (slab n : ℕ) → slab < g.slabs → n < 8 * references_of g → block_of g (ReferenceBlock slab (n / 8)) < length blocks
    counters_inside slab n is_slab below =
        let wide = enough in let within = inside g (ReferenceBlock slab (n / 8)) (is_slab, omega (arith, below)) in omega (arith, within, wide)

    sector_mixed : (P : List ℕ → Type 0) (slab n : ℕ) → slab < g.slabs → n < 8 * references_of g
        → AllByRecursion (λ content. P (sector (n % 8) content)) (contents blocks calls (block_of g (ReferenceBlock slab (n / 8)))) → P (reference_sector_at g now slab n)
    sector_mixed P slab n is_slab below all =
        let b = block_of g (ReferenceBlock slab (n / 8)) in
        sector_of_mix P (contents blocks calls b) (block_at now b) (n % 8) (mod-lt n (omega arith)) (is.sectors b (counters_inside slab n is_slab below) (looked_place g (ReferenceBlock slab (n / 8)) (is_slab, omega (arith, below)) tt)) all

    -- Before the superblock is written.

    pub part_image : ((b : ℕ) → AllByRecursion (IsPartBlock blocks able named b) (contents blocks calls b)) → AreUnderway image now
    part_image all = record {
      size = is.size;
      head =
          sector_of_mix (λ (s : List ℕ). s ≡ sector 0 (block_at blocks 0)) (contents blocks calls 0) (block_at now 0) 0 (omega arith)
          (is.sectors 0 (let wide = enough in omega (arith, wide)) (looked_low g 0 (omega arith)))
          (all_weaker (IsPartBlock blocks able named 0) (λ content. sector 0 content ≡ sector 0 (block_at blocks 0)) (contents blocks calls 0)
          (λ content part. ap (sector 0) (part.other no_page_first no_counters_first)) (all 0));
      pages = λ page at there. page_part page at there
          (all_weaker (IsPartBlock blocks able named at.0) (IsPartPage image page at) (contents blocks calls at.0) (λ content part. part.page page at there refl) (all at.0));
      counters = λ slab n is_slab below. sector_mixed (λ bytes. IsOldSector image slab n bytes ⊎ IsFullSector image slab n bytes) slab n is_slab below
          (all_weaker (IsPartBlock blocks able named (block_of g (ReferenceBlock slab (n / 8))))
          (λ content. IsOldSector image slab n (sector (n % 8) content) ⊎ IsFullSector image slab n (sector (n % 8) content)) (contents blocks calls (block_of g (ReferenceBlock slab (n / 8))))
          (λ content part. part.counters slab n is_slab below refl) (all (block_of g (ReferenceBlock slab (n / 8)))));
      others = λ b behind below looked no_page no_counters.
          block_of_mix (contents blocks calls b) (block_at blocks b) (block_at now b) (old_whole b below) (is.whole b below) (is.sectors b below looked)
          (all_weaker (IsPartBlock blocks able named b) (λ content. content ≡ block_at blocks b) (contents blocks calls b)
          (λ content part. part.other no_page no_counters) (all b));
    }

    -- Once all else is on the device.

    pub full_image : ((b : ℕ) → 1 ≤ b → AllByRecursion (IsFullBlock blocks able named b) (contents blocks calls b)) → AreFull image now
    full_image all = record {
      size = is.size;
      pages = λ page at there. page_full page at there
          (all_weaker (IsFullBlock blocks able named at.0) (IsFullPage image page at) (contents blocks calls at.0) (λ content full. full.page page at there refl) (all at.0 (page_behind page at there)));
      counters = λ slab n is_slab inside_slab. sector_mixed (IsFullSector image slab n) slab n is_slab (sectors_inside g n inside_slab)
          (all_weaker (IsFullBlock blocks able named (block_of g (ReferenceBlock slab (n / 8)))) (λ content. IsFullSector image slab n (sector (n % 8) content))
          (contents blocks calls (block_of g (ReferenceBlock slab (n / 8)))) (λ content full. full.counters slab n is_slab inside_slab refl) (all (block_of g (ReferenceBlock slab (n / 8))) (omega arith)));
      past = λ slab n is_slab behind below. sector_mixed (IsOldSector image slab n) slab n is_slab below
          (all_weaker (IsFullBlock blocks able named (block_of g (ReferenceBlock slab (n / 8)))) (λ content. IsOldSector image slab n (sector (n % 8) content))
          (contents blocks calls (block_of g (ReferenceBlock slab (n / 8)))) (λ content full. full.past slab n is_slab behind below refl) (all (block_of g (ReferenceBlock slab (n / 8))) (omega arith)));
      others = λ b behind below looked no_page no_counters.
          block_of_mix (contents blocks calls b) (block_at blocks b) (block_at now b) (old_whole b below) (is.whole b below) (is.sectors b below looked)
          (all_weaker (IsFullBlock blocks able named b) (λ content. content ≡ block_at blocks b) (contents blocks calls b)
          (λ content full. full.other no_page no_counters) (all b behind));
    }

  -- All else is on the device, and the superblock isn't.
  pub full_is_underway : (now : Blocks) → AreFull image now → sector 0 (block_at now 0) ≡ sector 0 (block_at blocks 0) → AreUnderway image now
  full_is_underway now full head = record {
    size = full.size;
    head = head;
    pages = λ page at there. full_is_part image page at (block_at now at.0) (full.pages page at there);
    counters = λ slab n is_slab below. elim (cases_lt n (sectors_per_slab g)) [
      | inl inside_slab ↦ inr (full.counters slab n is_slab inside_slab)
      | inr past ↦ inl (full.past slab n is_slab past below)
    ];
    others = full.others;
  }
