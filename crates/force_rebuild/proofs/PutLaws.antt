-- What the blocks of an image may have while its pages and slabs are written.
use Rattle.std.proofs.Common.{ℕ, ◌≡◌, ◌<◌, ◌^◌, true, false, List, [], ◌∷◌, ◌++◌, All, Some, refl, sym, ◌∙◌, ap, subst, inl, inr}
use Rattle.std.specs.List.{AllByRecursion}
use Rattle.blk_base.specs.Regions.{Place, Superblock, JournalSlot, Root, IndexBlock, DataBlock, ReferenceBlock, SlabJournalSlot, IsPlace, block_of}
use Rattle.blk_base.proofs.RegionLaws.{apart}
use Rattle.blk_base.specs.declared.geometry.Geometry.{Geometry}
use Rattle.blk_base.specs.declared.place.PageId.{PageId}
use Rattle.blk_base.specs.declared.place.Pbn.{Pbn}
use Rattle.disk_model.specs.declared.call.Call.{Call}
use Rattle.disk_model.specs.declared.call.Call.TheVariants.{Read, Write, Flush}
use Rattle.disk_model.specs.Log.{Blocks, IsWritten, block_at, settled, Misses}
use Rattle.disk_model.proofs.ImageLaws.{settled-misses}
use Rattle.image_format.proofs.StopLaws.{all_append, written_front, written_back}
use Rattle.image_model.specs.Maps.{Image, page_at, put_last}
use Rattle.plain_laws.proofs.OptionLaws.{option_cases}
use Rattle.recovery_laws.specs.Calls.{IsPagePut}
use Rattle.recovery_laws.specs.Written.{IsFullPage, IsPageBlock, IsPartPage}
use Rattle.recovery_laws.proofs.ContentLaws.{AllTaken, Puts, missed, settled_are, written_or_not}
use Rattle.recovery_laws.proofs.OldLaws.{no_page_there, own_slot}
use Rattle.recovery_laws.proofs.PageIdLaws.{one_page}
use Rattle.recovery_laws.proofs.PutLaws.{full_is_part}
use Rattle.recovery_laws.proofs.WindowFacts.{IsKnown}
use Rattle.rebuild.specs.Acts.{IsPageCall}
use Rattle.force_rebuild.proofs.SlabLaws.{IsSlabCall, IsSlabPut, slabs_right, slabs_written}
use Rattle.force_rebuild.proofs.SoundLaws.{here, known, sizes}
use Rattle.force_rebuild.specs.Calls.{ArePagePuts, slabs_below}
use Rattle.force_rebuild.specs.Kept.{IsSlabBlock, IsSlabPlace}
use Rattle.force_rebuild.specs.Rebuildable.{IsRebuildable}
use Rattle.force_rebuild.specs.Written.{commit_behind, slab_block}

module _ (blocks : Blocks) (is : IsRebuildable blocks) (named : is.head.geometry.nonce < 2 ^ 64) where
  abbrev image : Image
  image = here blocks blocks is

  abbrev g : Geometry
  g = is.head.geometry

  abbrev all_known : All (IsKnown g is.last) is.window
  all_known = known blocks blocks is

  -- No page stands at a place of a slab.

  page_apart : (place : Place) → IsPlace g place → IsSlabPlace place → IsPageBlock image (block_of g place) → ⊥
  page_apart (ReferenceBlock slab i) there slab_place = no_page_there image is.pages is.last all_known (ReferenceBlock slab i) there tt
  page_apart (SlabJournalSlot slab i) there slab_place = no_page_there image is.pages is.last all_known (SlabJournalSlot slab i) there tt
  page_apart Superblock there none = absurd none
  page_apart (JournalSlot _) there none = absurd none
  page_apart (Root _) there none = absurd none
  page_apart (IndexBlock _) there none = absurd none
  page_apart (DataBlock _ _) there none = absurd none

  -- While all is written.

  pub record IsPartBlock (b : ℕ) (content : List ℕ) : Type 0 where
    pub page : (page : PageId) (at : Pbn) → page_at image page ≡ Some at → at.0 ≡ b → IsPartPage image page at content
    pub other : (IsPageBlock image b → ⊥) → (IsSlabBlock g b → ⊥) → content ≡ block_at blocks b

  -- what stood there
  pub old_is_part : (b : ℕ) → IsPartBlock b (block_at blocks b)
  old_is_part b = record {
    page = λ page at there same.
        let good = is.pages page at there in
        subst (λ (k : ℕ). IsPartPage image page at (block_at blocks k)) same
        (record { headed = good.headed; slots = λ slot below none. own_slot image page at slot (good.slots slot below) none });
    other = λ no_page no_slab. refl;
  }

  page_put_full : (page other : PageId) (at other_at : Pbn) (bytes : List ℕ) → page_at image page ≡ Some at → IsFullPage image page at bytes → page_at image other ≡ Some other_at
      → other_at.0 ≡ at.0 → IsFullPage image other other_at bytes
  page_put_full page other at other_at bytes there full other_there same =
      let one_at : other_at ≡ at = ap (λ (k : ℕ). record { 0 = k }) same in
      let one : page ≡ other = one_page image is.pages is.last all_known (sizes blocks blocks is) named page other at there (other_there ∙ ap Some one_at) in
      subst (λ (a : Pbn). IsFullPage image other a bytes) (sym one_at) (subst (λ (p : PageId). IsFullPage image p at bytes) one full)

  page_put_part : (at : Pbn) (bytes : List ℕ) → IsPagePut image at bytes → IsPartBlock at.0 bytes
  page_put_part at bytes (page, there, full) = record {
    page = λ other other_at other_there same. full_is_part image other other_at bytes (page_put_full page other at other_at bytes there full other_there same);
    other = λ no_page no_slab. absurd (no_page (page, at, there, refl));
  }

  pub pages_part : (calls : List Call) → AllByRecursion (IsPageCall image) calls → AllByRecursion (Puts IsPartBlock) calls
  pages_part [] each = tt
  pages_part (Write at bytes true ∷ calls) each = (page_put_part at bytes each.0.1, pages_part calls each.1)
  pages_part (Write at bytes false ∷ calls) each = absurd each.0
  pages_part (Read _ _ _ ∷ calls) each = (tt, pages_part calls each.1)
  pages_part (Flush _ ∷ calls) each = absurd each.0

  -- Once all is written.
  module _ (counters : List ℕ) where
    abbrev commit : ℕ
    commit = commit_behind is.last

    pub record IsFullBlock (b : ℕ) (content : List ℕ) : Type 0 where
      pub page : (page : PageId) (at : Pbn) → page_at image page ≡ Some at → at.0 ≡ b → IsFullPage image page at content
      pub slab : (place : Place) → IsPlace g place → IsSlabPlace place → block_of g place ≡ b → content ≡ slab_block g commit counters place
      pub other : (IsPageBlock image b → ⊥) → (IsSlabBlock g b → ⊥) → content ≡ block_at blocks b

    pub full_block_is_part : (b : ℕ) (content : List ℕ) → IsFullBlock b content → IsPartBlock b content
    full_block_is_part b content full = record {
      page = λ page at there same. full_is_part image page at content (full.page page at there same);
      other = full.other;
    }

    page_full : (at : Pbn) (bytes : List ℕ) → IsPagePut image at bytes → IsFullBlock at.0 bytes
    page_full at bytes (page, there, full) = record {
      page = λ other other_at other_there same. page_put_full page other at other_at bytes there full other_there same;
      slab = λ place stands slab_place same. absurd (page_apart place stands slab_place (page, at, there, sym same));
      other = λ no_page no_slab. absurd (no_page (page, at, there, refl));
    }

    slab_full : (b : ℕ) (bytes : List ℕ) → IsSlabPut g commit counters b bytes → IsFullBlock b bytes
    slab_full b bytes put = record {
      page = λ page at there same. absurd (page_apart put.place put.there put.slab (page, at, there, same ∙ sym put.stands));
      slab = λ place there slab_place same.
          let one = apart g put.place place put.there there (put.stands ∙ sym same) in
          put.made ∙ ap (slab_block g commit counters) one;
      other = λ no_page no_slab. absurd (no_slab (put.place, put.there, put.slab, put.stands));
    }

    pages_full : (calls : List Call) → AllByRecursion (IsPageCall image) calls → AllByRecursion (Puts IsFullBlock) calls
    pages_full [] each = tt
    pages_full (Write at bytes true ∷ calls) each = (page_full at bytes each.0.1, pages_full calls each.1)
    pages_full (Write at bytes false ∷ calls) each = absurd each.0
    pages_full (Read _ _ _ ∷ calls) each = (tt, pages_full calls each.1)
    pages_full (Flush _ ∷ calls) each = absurd each.0

    pages_taken : (calls : List Call) → AllByRecursion (IsPageCall image) calls → AllByRecursion AllTaken calls
    pages_taken [] each = tt
    pages_taken (Write at bytes true ∷ calls) each = (refl, pages_taken calls each.1)
    pages_taken (Write at bytes false ∷ calls) each = absurd each.0
    pages_taken (Read _ _ _ ∷ calls) each = (tt, pages_taken calls each.1)
    pages_taken (Flush _ ∷ calls) each = absurd each.0

    slabs_full : (calls : List Call) → AllByRecursion (IsSlabCall g commit counters) calls → AllByRecursion (Puts IsFullBlock) calls
    slabs_full [] each = tt
    slabs_full (Write at bytes true ∷ calls) each = (slab_full at.0 bytes each.0, slabs_full calls each.1)
    slabs_full (Write at bytes false ∷ calls) each = absurd each.0
    slabs_full (Read _ _ _ ∷ calls) each = absurd each.0
    slabs_full (Flush _ ∷ calls) each = absurd each.0

    slabs_taken : (calls : List Call) → AllByRecursion (IsSlabCall g commit counters) calls → AllByRecursion AllTaken calls
    slabs_taken [] each = tt
    slabs_taken (Write at bytes true ∷ calls) each = (refl, slabs_taken calls each.1)
    slabs_taken (Write at bytes false ∷ calls) each = absurd each.0
    slabs_taken (Read _ _ _ ∷ calls) each = absurd each.0
    slabs_taken (Flush _ ∷ calls) each = absurd each.0

    module _ (puts : List Call) (are : ArePagePuts image puts) where
      abbrev pub writes : List Call
      writes = slabs_below g commit counters g.slabs ++ puts

      pub writes_full : AllByRecursion (Puts IsFullBlock) writes
      writes_full =
          all_append (Puts IsFullBlock) (slabs_below g commit counters g.slabs) puts
          (slabs_full (slabs_below g commit counters g.slabs) (slabs_right g commit counters)) (pages_full puts are.each)

      writes_taken : AllByRecursion AllTaken writes
      writes_taken =
          all_append AllTaken (slabs_below g commit counters g.slabs) puts
          (slabs_taken (slabs_below g commit counters g.slabs) (slabs_right g commit counters)) (pages_taken puts are.each)

      -- a block that isn't written has all already
      block_already : (b : ℕ) → (IsWritten writes b → ⊥) → IsFullBlock b (block_at blocks b)
      block_already b none = record {
        page = λ page at there same.
            let good = is.pages page at there in
            subst (λ (k : ℕ). IsFullPage image page at (block_at blocks k)) same
            (record {
              headed = good.headed;
              slots = λ slot below. elim (option_cases (put_last is.window page slot)) [
                | inl left ↦ own_slot image page at slot (good.slots slot below) left
                | inr (mapping, put) ↦
                    let written = are.all page at slot mapping there below put in
                    absurd (none (subst (IsWritten writes) same (written_back (slabs_below g commit counters g.slabs) puts at.0 written)))
              ];
            });
        slab = λ place there slab_place same.
            absurd (none (subst (IsWritten writes) same
            (written_front (slabs_below g commit counters g.slabs) puts (block_of g place) (slabs_written g commit counters place there slab_place))));
        other = λ no_page no_slab. refl;
      }

      settled_missed : (calls : List Call) (b : ℕ) → AllByRecursion (λ call. Misses call b) calls → settled blocks calls b ≡ block_at blocks b ∷ []
      settled_missed [] b misses = refl
      settled_missed (call ∷ calls) b misses = settled-misses blocks calls call b misses.0 ∙ settled_missed calls b misses.1

      -- once all is written and flushed, each block has all
      pub settled_full : (b : ℕ) → AllByRecursion (IsFullBlock b) (settled blocks writes b)
      settled_full b = elim (written_or_not writes b) [
        | inl written ↦ settled_are IsFullBlock blocks writes b writes_taken writes_full written
        | inr misses ↦ subst (AllByRecursion (IsFullBlock b)) (sym (settled_missed writes b misses)) (block_already b (missed writes b misses), tt)
      ]
