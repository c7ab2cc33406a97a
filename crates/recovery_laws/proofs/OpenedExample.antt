-- An image that was just made and then opened: it is sound, its superblock says that it isn't closed, and it has nothing.
use Rattle.std.proofs.Common.{ℕ, ◌≡◌, ◌+◌, ◌-◌, ◌/◌, ◌%◌, ◌<◌, ◌^◌, false, zero, suc, List, [], ◌++◌, length, replicate, Ok, refl, sym, ◌∙◌, ap, subst, arith}
use Rattle.std.proofs.Math.Nat.{mod-lt}
use Rattle.std.proofs.lemmas.List.{drop-replicate}
use Rattle.byte_fields.proofs.FieldLaws.{number_at-drop}
use Rattle.blk_base.specs.Counters.{sector_of_offset}
use Rattle.blk_base.specs.Limits.{IsGeometry}
use Rattle.blk_base.specs.Regions.{Place, JournalSlot, Root, ReferenceBlock, SlabJournalSlot, IsPlace, block_of, references_of}
use Rattle.blk_base.specs.Sectors.{sector, zero_block}
use Rattle.blk_base.specs.declared.geometry.Geometry.{Geometry}
use Rattle.blk_base.specs.declared.geometry.Super.{Super}
use Rattle.blk_base.specs.declared.layout.DataPlace.{DataPlace}
use Rattle.blk_base.specs.declared.place.Mapping.TheVariants.{Unmapped}
use Rattle.byte_fields.specs.Fields.{number_at}
use Rattle.disk_model.specs.Log.{Blocks, block_at}
use Rattle.disk_model.proofs.LookedLaws.{one_in-all}
use Rattle.disk_model.proofs.OneImageLaws.{one_image-opening}
use Rattle.image_layout.specs.Opened.{super_of_image}
use Rattle.image_model.proofs.EmptyLaws.{all_counted, blank_slot, no_sector, no_updates, not_shared, pages_good, root_says, sizes_of_image, stored_counter, the_image, window_is}
use Rattle.image_model.proofs.ZeroLaws.{no_commit, no_slab_sector, zero_sector}
use Rattle.image_model.specs.Counts.{IsKept, Stores, block_of_data, counter_of, reference_sector_at}
use Rattle.image_model.specs.Empty.{IsMade, empty_root, made_block}
use Rattle.image_model.specs.Looked.{HasOneImageButIndex, looked_in}
use Rattle.image_model.specs.Maps.{mapping_in}
use Rattle.image_model.specs.Sound.{IsDataPlace, IsSound}
use Rattle.slab_codec.specs.Grammar.{IsSlabSector}
use Rattle.slab_codec.specs.declared.forms.SlabEntry.{SlabEntry}
use Rattle.recovery_laws.specs.Calls.{ArePuts, recovery_calls}
use Rattle.recovery_laws.specs.Kept.{IsRecovered, IsToRecover}
use Rattle.recovery_laws.proofs.WholeLaws.{recovered}

abbrev pub opened_super : Geometry → Super
opened_super g = record { geometry = g; clean = false; start = 1 }

module _ (g : Geometry) (blocks : Blocks) (accepted : super_of_image blocks ≡ Ok (opened_super g))
    (made : (place : Place) → IsPlace g place → IsMade place → block_at blocks (block_of g place) ≡ made_block g place) where
  sizes : IsGeometry g
  sizes = sizes_of_image blocks (opened_super g) accepted

  slots_zero : (slot : ℕ) → slot < g.journal → block_at blocks (block_of g (JournalSlot slot)) ≡ zero_block
  slots_zero slot inside = made (JournalSlot slot) inside tt

  root_is : (tree : ℕ) → tree < 60 → block_at blocks (block_of g (Root tree)) ≡ empty_root g tree
  root_is tree inside = made (Root tree) inside tt

  says_none : (tree slot : ℕ) → tree < 60 → slot < 812 → mapping_in (block_at blocks (block_of g (Root tree))) slot ≡ Unmapped
  says_none tree slot inside below = root_says g blocks root_is tree slot inside below

  references_zero : (slab n : ℕ) → slab < g.slabs → n / 8 < references_of g → reference_sector_at g blocks slab n ≡ sector (n % 8) zero_block
  references_zero slab n inside below = ap (sector (n % 8)) (made (ReferenceBlock slab (n / 8)) (inside, below) tt)

  -- zeros, wherever they stand
  zero_counter : (at : ℕ) → number_at 1 at (replicate 512 0) ≡ 0
  unfolding number_at
  zero_counter at =
      let place : at ≡ at + 0 = omega arith in
      ap (λ (k : ℕ). number_at 1 k (replicate 512 0)) place ∙ sym (number_at-drop 1 0 at (replicate 512 0)) ∙ ap (number_at 1 0) (drop-replicate at 512 0) ∙ zero_first (512 - at)
    where
      zero_first : (n : ℕ) → number_at 1 0 (replicate n 0) ≡ 0
      zero_first zero = refl
      zero_first (suc n) = refl

  counter_zero : (place : DataPlace) → IsDataPlace g place → counter_of (the_image g blocks) place ≡ 0
  counter_zero place inside =
      let offset = inside.1 in
      let n = sector_of_offset g place.offset in
      let below : n / 8 < references_of g = omega (arith, offset) in
      ap (number_at 1 (8 + place.offset % 504)) (references_zero place.slab n inside.0 below ∙ zero_sector (n % 8) (mod-lt n (omega arith))) ∙ zero_counter (8 + place.offset % 504)

  none_kept : (slab : ℕ) (entry : SlabEntry) → slab < g.slabs → IsKept g blocks slab entry → ⊥
  none_kept slab entry inside is =
      no_slab_sector g.nonce slab g.slab_blocks is.number is.sequence is.entries is.inside.1
      (subst (λ (block : List ℕ). IsSlabSector g.nonce slab g.slab_blocks is.number (sector is.number block) is.sequence is.entries)
      (made (SlabJournalSlot slab is.slot) (inside, is.inside.0) tt) is.valid)

  stored_none : (place : DataPlace) → IsDataPlace g place → Stores (the_image g blocks) place (Ok 0)
  stored_none place inside =
      let none = counter_zero place inside in
      subst (λ (n : ℕ). Stores (the_image g blocks) place (Ok n)) none (stored_counter g blocks none_kept place inside (omega (arith, none)))

  pub opened_is_sound : IsSound blocks
  opened_is_sound = record {
    head = opened_super g;
    last = 0;
    window = [];
    opens = record { accepted = accepted; sequences = λ unclean. omega arith; is_window = window_is g blocks sizes slots_zero };
    pages = pages_good g blocks sizes says_none (blank_slot g blocks root_is);
    stored = λ place inside. (0, stored_none place inside);
    unshared = not_shared g blocks sizes says_none;
    counts = λ place inside. (0, stored_none place inside, all_counted g blocks sizes says_none (block_of_data g place));
    timely = record {
      commits = λ slab n inside below.
          let none = ap (number_at 8 0) (references_zero slab n inside (omega (arith, below))) ∙ no_commit (n % 8) (mod-lt n (omega arith)) in omega (arith, none);
      updates = λ slab entry inside is. absurd (none_kept slab entry inside is);
      sectors = λ slot number sequence head entries inside below is. absurd (no_sector g blocks sizes slots_zero slot number sequence head entries inside below is);
    };
    closed = λ clean. absurd (cc clean);
  }

  -- It may be recovered, without a write but that of the superblock.
  pub opened_is_to_recover : g.nonce < 2 ^ 64 → ((b : ℕ) → b < length blocks → length (block_at blocks b) ≡ 4096) → IsToRecover blocks [] blocks
  unfolding opened_is_sound
  opened_is_to_recover named whole = record { one = one_in-all (looked_in blocks) blocks [] blocks (one_image-opening blocks whole); sound = opened_is_sound; unclean = refl; named = named }

  pub nothing_to_put : ArePuts (the_image g blocks) []
  nothing_to_put = record {
    each = tt;
    pages = λ page at slot mapping there below put. absurd (cc put);
    counters = λ slab n point inside below above is. absurd (no_updates g blocks none_kept (record { slab = slab; offset = is.0 }) point (inside, is.1) is.3);
  }

  -- and then it is recovered
  pub whole_run : g.nonce < 2 ^ 64 → ((b : ℕ) → b < length blocks → length (block_at blocks b) ≡ 4096)
      → (now : Blocks) × HasOneImageButIndex blocks (recovery_calls (the_image g blocks) 0 [] ++ []) now × IsRecovered (the_image g blocks) 0 now
  unfolding opened_is_sound opened_is_to_recover
  whole_run named whole = recovered blocks blocks [] [] (opened_is_to_recover named whole) nothing_to_put
