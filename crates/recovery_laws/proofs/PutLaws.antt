-- What the blocks of an image may have while recovery writes its pages and counters.
use Rattle.std.proofs.Common.{ℕ, ◌≡◌, ◌⊎◌, ◌+◌, ◌*◌, ◌/◌, ◌%◌, ◌<◌, ◌≤◌, ◌^◌, true, false, List, [], ◌∷◌, All, Some, Ok, refl, sym, ◌∙◌, ap, ap₂, subst, inl, inr, arith}
use Rattle.std.specs.List.{AllByRecursion}
use Rattle.std.proofs.lemmas.Bool.{cases_lt}
use Rattle.blk_base.specs.Counters.{counters_per_sector, sector_of_offset, sectors_per_slab}
use Rattle.blk_base.specs.Regions.{ReferenceBlock, IsPlace, block_of, references_of}
use Rattle.blk_base.specs.Sectors.{sector}
use Rattle.blk_base.proofs.RegionLaws.{apart}
use Rattle.blk_base.specs.declared.geometry.Geometry.{Geometry}
use Rattle.blk_base.specs.declared.place.PageId.{PageId}
use Rattle.blk_base.specs.declared.place.Pbn.{Pbn}
use Rattle.byte_fields.specs.Fields.{number_at}
use Rattle.disk_model.specs.declared.call.Call.{Call}
use Rattle.disk_model.specs.declared.call.Call.TheVariants.{Read, Write, Flush}
use Rattle.disk_model.specs.Log.{Blocks, block_at, settled, Misses, IsWritten}
use Rattle.disk_model.proofs.ImageLaws.{settled-misses}
use Rattle.image_model.proofs.EmptyLaws.{sizes_of_image}
use Rattle.image_model.specs.Counts.{IsUpdate, Stores, commit_at, commit_of, reference_sector_at}
use Rattle.image_model.specs.Maps.{Image, page_at, put_last}
use Rattle.plain_laws.proofs.OptionLaws.{option_cases}
use Rattle.replay_counts.specs.Recovered.{IsInSector}
use Rattle.recovery_laws.specs.Recoverable.{IsRecoverable}
use Rattle.recovery_laws.specs.Calls.{ArePuts, IsCountersPut, IsPagePut, IsPut}
use Rattle.recovery_laws.specs.Written.{IsCountersBlock, IsFullPage, IsFullSector, IsOldSector, IsPageBlock, IsPartPage}
use Rattle.recovery_laws.proofs.ContentLaws.{AllTaken, Puts, missed, settled_are, written_or_not}
use Rattle.recovery_laws.proofs.CountsKept.{counter_is_stored, sectors_inside}
use Rattle.recovery_laws.proofs.OldLaws.{no_page_there, own_slot, part_of_good}
use Rattle.recovery_laws.proofs.PageIdLaws.{one_page}
use Rattle.recovery_laws.proofs.RecoverableLaws.{here, known}
use Rattle.recovery_laws.proofs.WindowFacts.{IsKnown}

pub full_is_part : (image : Image) (page : PageId) (at : Pbn) (bytes : List ℕ) → IsFullPage image page at bytes → IsPartPage image page at bytes
full_is_part image page at bytes full = record { headed = full.headed; slots = λ slot below none. full.slots slot below }

module _ (blocks : Blocks) (able : IsRecoverable blocks) (named : able.head.geometry.nonce < 2 ^ 64) where
  abbrev image : Image
  image = here blocks blocks able

  abbrev g : Geometry
  g = able.head.geometry

  abbrev all_known : All (IsKnown g able.last) able.window
  all_known = known blocks blocks able

  -- What may stand in a block.

  pub record IsPartBlock (b : ℕ) (content : List ℕ) : Type 0 where
    pub page : (page : PageId) (at : Pbn) → page_at image page ≡ Some at → at.0 ≡ b → IsPartPage image page at content
    pub counters : (slab n : ℕ) → slab < g.slabs → n < 8 * references_of g → block_of g (ReferenceBlock slab (n / 8)) ≡ b
        → IsOldSector image slab n (sector (n % 8) content) ⊎ IsFullSector image slab n (sector (n % 8) content)
    pub other : (IsPageBlock image b → ⊥) → (IsCountersBlock image b → ⊥) → content ≡ block_at blocks b

  pub record IsFullBlock (b : ℕ) (content : List ℕ) : Type 0 where
    pub page : (page : PageId) (at : Pbn) → page_at image page ≡ Some at → at.0 ≡ b → IsFullPage image page at content
    pub counters : (slab n : ℕ) → slab < g.slabs → n < sectors_per_slab g → block_of g (ReferenceBlock slab (n / 8)) ≡ b
        → IsFullSector image slab n (sector (n % 8) content)
    pub past : (slab n : ℕ) → slab < g.slabs → sectors_per_slab g ≤ n → n < 8 * references_of g → block_of g (ReferenceBlock slab (n / 8)) ≡ b
        → IsOldSector image slab n (sector (n % 8) content)
    pub other : (IsPageBlock image b → ⊥) → (IsCountersBlock image b → ⊥) → content ≡ block_at blocks b

  pub full_block_is_part : (b : ℕ) (content : List ℕ) → IsFullBlock b content → IsPartBlock b content
  full_block_is_part b content full = record {
    page = λ page at there same. full_is_part image page at content (full.page page at there same);
    counters = λ slab n is below same. elim (cases_lt n (sectors_per_slab g)) [
      | inl inside_slab ↦ inr (full.counters slab n is inside_slab same)
      | inr past ↦ inl (full.past slab n is past below same)
    ];
    other = full.other;
  }

  -- what stood there
  old_sector : (slab n b : ℕ) → block_of g (ReferenceBlock slab (n / 8)) ≡ b → IsOldSector image slab n (sector (n % 8) (block_at blocks b))
  old_sector slab n b same = ap (λ (k : ℕ). sector (n % 8) (block_at blocks k)) (sym same)

  pub old_is_part : (b : ℕ) → IsPartBlock b (block_at blocks b)
  old_is_part b = record {
    page = λ page at there same. subst (λ (k : ℕ). IsPartPage image page at (block_at blocks k)) same (part_of_good image page at (able.pages page at there));
    counters = λ slab n is below same. inl (old_sector slab n b same);
    other = λ no_page no_counters. refl;
  }

  -- what is written
  counters_page : (page : PageId) (at : Pbn) (slab i : ℕ) → page_at image page ≡ Some at → IsPlace g (ReferenceBlock slab i) → block_of g (ReferenceBlock slab i) ≡ at.0 → ⊥
  counters_page page at slab i there is same =
      no_page_there image able.pages able.last all_known (ReferenceBlock slab i) is tt (page, at, there, sym same)

  counters_place : (slab n : ℕ) → slab < g.slabs → n < 8 * references_of g → IsPlace g (ReferenceBlock slab (n / 8))
  counters_place slab n is below = (is, omega (arith, below))

  page_put_full : (at : Pbn) (bytes : List ℕ) → IsPagePut image at bytes → IsFullBlock at.0 bytes
  page_put_full at bytes (page, there, full) = record {
    page = λ other other_at other_there same.
        let one_at : other_at ≡ at = ap (λ (k : ℕ). record { 0 = k }) same in
        let one : page ≡ other =
        one_page image able.pages able.last all_known (sizes_of_image blocks able.head able.opens.accepted) named page other at there (other_there ∙ ap Some one_at) in
        subst (λ (a : Pbn). IsFullPage image other a bytes) (sym one_at) (subst (λ (p : PageId). IsFullPage image p at bytes) one full);
    counters = λ slab n is inside_slab same. absurd (counters_page page at slab (n / 8) there (counters_place slab n is (sectors_inside g n inside_slab)) same);
    past = λ slab n is past below same. absurd (counters_page page at slab (n / 8) there (counters_place slab n is below) same);
    other = λ no_page no_counters. absurd (no_page (page, at, there, refl));
  }

  counters_put_full : (at : Pbn) (bytes : List ℕ) → IsCountersPut image at bytes → IsFullBlock at.0 bytes
  counters_put_full at bytes put = record {
    page = λ page page_at_is there same. absurd (counters_page page page_at_is put.slab put.i there put.inside (put.stands ∙ sym same));
    counters = λ slab n is inside_slab same.
        let one = apart g (ReferenceBlock put.slab put.i) (ReferenceBlock slab (n / 8)) put.inside (counters_place slab n is (sectors_inside g n inside_slab)) (put.stands ∙ sym same) in
        let slab_is : put.slab ≡ slab = cc one in
        let number : put.i ≡ n / 8 = cc one in
        subst (λ (s : ℕ). IsFullSector image s n (sector (n % 8) bytes)) slab_is (put.full n (sym number) inside_slab);
    past = λ slab n is past below same.
        let one = apart g (ReferenceBlock put.slab put.i) (ReferenceBlock slab (n / 8)) put.inside (counters_place slab n is below) (put.stands ∙ sym same) in
        let slab_is : put.slab ≡ slab = cc one in
        let number : put.i ≡ n / 8 = cc one in
        subst (λ (s : ℕ). IsOldSector image s n (sector (n % 8) bytes)) slab_is (put.past n (sym number) past);
    other = λ no_page no_counters. absurd (no_counters (put.slab, put.i, put.inside, put.stands));
  }

  pub puts_full : (calls : List Call) → AllByRecursion (IsPut image) calls → AllByRecursion (Puts IsFullBlock) calls
  puts_full [] each = tt
  puts_full (Write at bytes true ∷ calls) each =
      (elim each.0.1 [ inl page ↦ page_put_full at bytes page | inr counters ↦ counters_put_full at bytes counters ], puts_full calls each.1)
  puts_full (Write at bytes false ∷ calls) each = absurd each.0
  puts_full (Read _ _ _ ∷ calls) each = (tt, puts_full calls each.1)
  puts_full (Flush _ ∷ calls) each = absurd each.0

  pub puts_part : (calls : List Call) → AllByRecursion (Puts IsFullBlock) calls → AllByRecursion (Puts IsPartBlock) calls
  puts_part [] full = tt
  puts_part (Read at bytes ok ∷ calls) full = (tt, puts_part calls full.1)
  puts_part (Flush ok ∷ calls) full = (tt, puts_part calls full.1)
  puts_part (Write at bytes ok ∷ calls) full = (full_block_is_part at.0 bytes full.0, puts_part calls full.1)

  pub puts_taken : (calls : List Call) → AllByRecursion (IsPut image) calls → AllByRecursion AllTaken calls
  puts_taken [] each = tt
  puts_taken (Write at bytes true ∷ calls) each = (refl, puts_taken calls each.1)
  puts_taken (Write at bytes false ∷ calls) each = absurd each.0
  puts_taken (Read _ _ _ ∷ calls) each = (tt, puts_taken calls each.1)
  puts_taken (Flush _ ∷ calls) each = absurd each.0

  -- A block that isn't written has all already.
  module _ (puts : List Call) (are : ArePuts image puts) where
    module _ (b : ℕ) (none : IsWritten puts b → ⊥) where
      full_already : (page : PageId) (at : Pbn) → page_at image page ≡ Some at → at.0 ≡ b → IsFullPage image page at (block_at blocks b)
      full_already page at there same =
          let good = able.pages page at there in
          subst (λ (k : ℕ). IsFullPage image page at (block_at blocks k)) same
          (record {
            headed = good.headed;
            slots = λ slot below. elim (option_cases (put_last able.window page slot)) [
              | inl left ↦ own_slot image page at slot (good.slots slot below) left
              | inr (mapping, put) ↦ absurd (none (subst (IsWritten puts) same (are.pages page at slot mapping there below put)))
            ];
          })

      sector_already : (slab n : ℕ) → slab < g.slabs → n < sectors_per_slab g → block_of g (ReferenceBlock slab (n / 8)) ≡ b → IsFullSector image slab n (reference_sector_at g blocks slab n)
      sector_already slab n is inside_slab same =
          let none_in : (point : ℕ) → commit_at g blocks slab n < point → IsInSector image slab n point → ⊥ =
          λ point above in_sector. none (subst (IsWritten puts) same (are.counters slab n point is inside_slab above in_sector)) in
          record {
            commit = record { reached = inl refl; most = λ point above in_sector. absurd (none_in point above in_sector) };
            counters = λ place inside_place slab_is sector_is.
                let was = able.stored place inside_place in
                let bytes_are : reference_sector_at g blocks place.slab (sector_of_offset g place.offset) ≡ reference_sector_at g blocks slab n =
                ap₂ (λ (s m : ℕ). reference_sector_at g blocks s m) slab_is sector_is in
                let none_here : (point : ℕ) → commit_of image place < point → IsUpdate image place point → ⊥ =
                λ point above update. none_in point (subst (λ (bytes : List ℕ). number_at 8 0 bytes < point) bytes_are above)
                (place.offset, inside_place.1, sector_is, subst (λ (s : ℕ). IsUpdate image (record { slab = s; offset = place.offset }) point) slab_is update) in
                let counter = counter_is_stored image place was.0 none_here was.1 in
                subst (λ (k : ℕ). Stores image place (Ok k))
                (sym counter ∙ ap (number_at 1 (8 + place.offset % counters_per_sector g)) bytes_are) was.1;
            rest = λ offset behind sector_is. inr refl;
          }

      pub block_already : IsFullBlock b (block_at blocks b)
      block_already = record {
        page = full_already;
        counters = λ slab n is inside_slab same.
            subst (IsFullSector image slab n) (sym (old_sector slab n b same)) (sector_already slab n is inside_slab same);
        past = λ slab n is past below same. old_sector slab n b same;
        other = λ no_page no_counters. refl;
      }

    settled_missed : (calls : List Call) (b : ℕ) → AllByRecursion (λ call. Misses call b) calls → settled blocks calls b ≡ block_at blocks b ∷ []
    settled_missed [] b misses = refl
    settled_missed (call ∷ calls) b misses = settled-misses blocks calls call b misses.0 ∙ settled_missed calls b misses.1

    -- once all is written and flushed, each block has all
    pub settled_full : (b : ℕ) → AllByRecursion (IsFullBlock b) (settled blocks puts b)
    settled_full b = elim (written_or_not puts b) [
      | inl written ↦ settled_are IsFullBlock blocks puts b (puts_taken puts are.each) (puts_full puts are.each) written
      | inr misses ↦
          subst (AllByRecursion (IsFullBlock b)) (sym (settled_missed puts b misses)) (block_already b (missed puts b misses), tt)
    ]
