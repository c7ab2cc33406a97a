-- While an image is recovered, and afterwards, it can be recovered and says the same, whether it is sound or not.
use Rattle.std.proofs.Common.{ℕ, ◌≡◌, ◌+◌, ◌%◌, ◌<◌, ◌≤◌, List, [], length, get_or, Contains, All, Some, Ok, refl, sym, ◌∙◌, ap, subst, inl, inr, arith}
use Rattle.plain_laws.proofs.OptionLaws.{option_cases, some_is}
use Rattle.std.proofs.Math.Nat.{mod-lt}
use Rattle.std.proofs.lemmas.Bool.{cases_lt}
use Rattle.blk_base.specs.Counters.{counters_per_sector, sector_of_offset, sectors_per_slab}
use Rattle.blk_base.specs.Regions.{journal_slot_of, needed_blocks}
use Rattle.blk_base.specs.Sectors.{sector, zero_block}
use Rattle.blk_base.specs.declared.geometry.Geometry.{Geometry}
use Rattle.blk_base.specs.declared.journal_entry.CommittedEntry.{CommittedEntry}
use Rattle.blk_base.specs.declared.layout.DataPlace.{DataPlace}
use Rattle.blk_base.specs.declared.place.PageId.{PageId}
use Rattle.blk_base.specs.declared.place.Pbn.{Pbn}
use Rattle.blk_base.specs.declared.sizes.TheConstants.{PAGE_SLOTS}
use Rattle.byte_fields.specs.Fields.{number_at}
use Rattle.disk_model.specs.Log.{Blocks, block_at}
use Rattle.image_layout.specs.Opened.{super_of_image}
use Rattle.image_layout.specs.Superblock.{super_of}
use Rattle.image_layout.specs.Values.{journal_of}
use Rattle.image_model.proofs.CountLaws.{none_in_nothing, one_stored}
use Rattle.image_model.proofs.EmptyLaws.{sizes_of_image}
use Rattle.image_model.proofs.MapLaws.{slot_says_its_mapping}
use Rattle.image_model.specs.Counts.{IsUpdate, Stores, reference_sector_at}
use Rattle.image_model.specs.Maps.{Image, ArePagesGood, head_of, mapping_of, page_at, put_last, says, value_with}
use Rattle.image_model.specs.Sound.{IsDataPlace, Opens, image_of}
use Rattle.image_model.specs.Windows.{IsThere, IsWindow}
use Rattle.journal_codec.specs.Grammar.{IsSector}
use Rattle.recovery_laws.specs.Kept.{SayTheSame, recovered_super}
use Rattle.recovery_laws.specs.Recoverable.{IsClosedStill, IsJournalOfItsTime, IsRecoverable, StillSays}
use Rattle.recovery_laws.specs.Written.{AreFull, AreOthersKept, AreRestKept, AreUnderway, IsFullSector, IsOldSector, IsRestKept}
use Rattle.recovery_laws.proofs.CountsKept.{sector_inside, sectors_inside, stores_full, stores_same}
use Rattle.recovery_laws.proofs.OldLaws.{says_own, says_put}
use Rattle.recovery_laws.proofs.SameMapLaws.{same_map, same_mapping, same_page, still_unshared}
use Rattle.recovery_laws.proofs.StillLaws.{kept_again, kept_before, same_data, same_journal}
use Rattle.recovery_laws.proofs.SuperLaws.{first_of_image, first_sector_says, room_of_image}
use Rattle.recovery_laws.proofs.WindowFacts.{IsKnown, window_known}

module _ (blocks blocks' : Blocks) (able : IsRecoverable blocks) where
  abbrev pub here : Image
  here = image_of able.head blocks able.window

  abbrev g : Geometry
  g = able.head.geometry

  pub known : All (IsKnown g able.last) able.window
  known = window_known g (journal_of g blocks) able.last able.head.start able.window able.opens.is_window

  pub room : needed_blocks g ≤ length blocks
  room = room_of_image blocks able.head able.opens.accepted

  some : 0 < length blocks
  some = let enough = room in omega (arith, enough)

  pub old_rest : (slab n : ℕ) (bytes : List ℕ) → IsOldSector here slab n bytes → IsRestKept here slab n bytes
  old_rest slab n bytes same offset behind sector_is = inr (ap (number_at 1 (8 + offset % counters_per_sector g)) same)

  -- What is the same whatever the window is afterwards, where each linked page says the same and each count is stored.
  module _ (window' : List CommittedEntry) where
    abbrev there : Image
    there = record { geometry = g; blocks = blocks'; window = window' }

    module _ (same_says : (page : PageId) (at : Pbn) (slot : ℕ) → page_at here page ≡ Some at → slot < PAGE_SLOTS → says there page at slot ≡ says here page at slot)
        (same_values : (address : ℕ) → value_with blocks' (mapping_of here address) ≡ value_with blocks (mapping_of here address))
        (stores : (place : DataPlace) (count : ℕ) → IsDataPlace g place → Stores here place (Ok count) → Stores there place (Ok count)) where
      stores_back : (place : DataPlace) (count : ℕ) → IsDataPlace g place → Stores there place (Ok count) → Stores here place (Ok count)
      stores_back place count inside is =
          let was = able.stored place inside in
          let one = one_stored there place (Ok count) (Ok was.0) is (stores place was.0 inside was.1) in
          let same : was.0 ≡ count = cc one in
          subst (λ (n : ℕ). Stores here place (Ok n)) same was.1

      pub say_the_same : SayTheSame here there
      say_the_same = record {
        geometry = refl;
        map = same_map g blocks blocks' able.window window' same_says;
        values = λ address. ap (value_with blocks') (same_mapping g blocks blocks' able.window window' same_says address) ∙ same_values address;
        counts = λ place count inside. (stores_back place count inside, stores place count inside);
      }

      pub still_stored : (place : DataPlace) → IsDataPlace g place → (count : ℕ) × Stores there place (Ok count)
      still_stored place inside = let was = able.stored place inside in (was.0, stores place was.0 inside was.1)

  -- Where the blocks but the pages and the counters are as they were.
  module _ (size : length blocks' ≡ length blocks) (others : AreOthersKept here blocks') where
    journal : journal_of g blocks' ≡ journal_of g blocks
    journal = same_journal here blocks' able.pages able.last known room size others

    pub updates_before : (window' : List CommittedEntry) → ((committed : CommittedEntry) → Contains window' committed → Contains able.window committed)
        → (place : DataPlace) (point : ℕ) → IsDataPlace g place → IsUpdate (record { geometry = g; blocks = blocks'; window = window' }) place point → IsUpdate here place point
    updates_before window' within place point inside (inl kept) = inl (kept_before here blocks' able.pages able.last known room size others place.slab _ inside.0 kept)
    updates_before window' within place point inside (inr (committed, has, updates)) = inr (committed, within committed has, updates)

    updates_again : (place : DataPlace) (point : ℕ) → IsDataPlace g place → IsUpdate here place point
        → IsUpdate (record { geometry = g; blocks = blocks'; window = able.window }) place point
    updates_again place point inside (inl kept) = inl (kept_again here blocks' able.pages able.last known room size others place.slab _ inside.0 kept)
    updates_again place point inside (inr committed) = inr committed

    pub values_kept : (address : ℕ) → value_with blocks' (mapping_of here address) ≡ value_with blocks (mapping_of here address)
    values_kept address = same_data here blocks' able.pages able.last known room size others able.unshared address

    pub sectors_early : IsJournalOfItsTime g blocks' able.last
    sectors_early slot number sequence head entries inside below is =
        able.timely slot number sequence head entries inside below
        (subst (λ (blocks_of : Blocks). IsSector g.nonce number (sector number (get_or blocks_of slot zero_block)) sequence head entries) journal is)

  -- While it is recovered.
  module _ (underway : AreUnderway here blocks') where
    abbrev during : Image
    during = image_of able.head blocks' able.window

    pub part_says : (page : PageId) (at : Pbn) (slot : ℕ) → page_at here page ≡ Some at → slot < PAGE_SLOTS → says during page at slot ≡ says here page at slot
    part_says page at slot stands below = elim (option_cases (put_last able.window page slot)) [
      | inr (mapping, put) ↦ says_put during page at slot mapping put ∙ sym (says_put here page at slot mapping put)
      | inl none ↦
          says_own during page at slot none
          ∙ slot_says_its_mapping (head_of here page at) (block_at blocks' at.0) slot (says here page at slot) ((underway.pages page at stands).slots slot below none)
    ]

    pub part_stores : (place : DataPlace) (count : ℕ) → IsDataPlace g place → Stores here place (Ok count) → Stores during place (Ok count)
    part_stores place count inside stores =
        let before = updates_before underway.size underway.others able.window (λ committed has. has) in
        elim (underway.counters place.slab (sector_of_offset g place.offset) inside.0 (sectors_inside g (sector_of_offset g place.offset) (sector_inside g place inside))) [
          | inl same ↦
              stores_same g blocks blocks' able.window able.window before place count inside
              (λ point is. updates_again underway.size underway.others place point inside is) same stores
          | inr full ↦ stores_full g blocks blocks' able.window able.window before place count inside full stores
        ]

    pub part_pages : ArePagesGood during
    part_pages page at stands =
        let part = underway.pages page at (sym (same_page g blocks blocks' able.window able.window part_says page) ∙ stands) in
        record {
          headed = part.headed;
          slots = λ slot below. elim (option_cases (put_last able.window page slot)) [
            | inr (mapping, put) ↦ inl (some_is (put_last able.window page slot) mapping put)
            | inl none ↦ inr (says here page at slot, part.slots slot below none)
          ];
        }

    pub part_opens : Opens blocks' able.head able.last able.window
    part_opens = record {
      accepted =
          let size = underway.size in
          let some_too : 0 < length blocks' = let enough = some in omega (arith, size, enough) in
          first_of_image blocks' some_too ∙ first_sector_says (block_at blocks' 0) (block_at blocks 0) (length blocks') underway.head
          ∙ ap (super_of (block_at blocks 0)) size ∙ sym (first_of_image blocks some) ∙ able.opens.accepted;
      sequences = able.opens.sequences;
      is_window = subst (λ (blocks_of : Blocks). IsWindow g able.head.start blocks_of able.last able.window) (sym (journal underway.size underway.others)) able.opens.is_window;
    }

    pub part_rest : AreRestKept here blocks'
    part_rest slab n is below = elim (underway.counters slab n is below) [
      | inl same ↦ old_rest slab n (reference_sector_at g blocks' slab n) same
      | inr whole ↦ whole.rest
    ]

    unfoldable pub underway_still : StillSays here blocks'
    underway_still = record {
      is = record {
        head = able.head;
        last = able.last;
        window = able.window;
        opens = part_opens;
        pages = part_pages;
        stored = still_stored able.window part_says (values_kept underway.size underway.others) part_stores;
        unshared = still_unshared g blocks blocks' able.window able.window part_says able.unshared;
        timely = sectors_early underway.size underway.others;
      };
      same = say_the_same able.window part_says (values_kept underway.size underway.others) part_stores;
      others = underway.others;
      rest = part_rest;
    }

  -- Once its superblock is written.
  module _ (full : AreFull here blocks') (accepted : super_of_image blocks' ≡ Ok (recovered_super g able.last)) where
    abbrev after : Image
    after = image_of (recovered_super g able.last) blocks' []

    pub full_says : (page : PageId) (at : Pbn) (slot : ℕ) → page_at here page ≡ Some at → slot < PAGE_SLOTS → says after page at slot ≡ says here page at slot
    full_says page at slot stands below =
        slot_says_its_mapping (head_of here page at) (block_at blocks' at.0) slot (says here page at slot) ((full.pages page at stands).slots slot below)

    pub before : (place : DataPlace) (point : ℕ) → IsDataPlace g place → IsUpdate after place point → IsUpdate here place point
    before = updates_before full.size full.others [] (λ committed has. absurd (none_in_nothing committed has))

    pub sector_full : (place : DataPlace) → IsDataPlace g place
        → IsFullSector here place.slab (sector_of_offset g place.offset) (reference_sector_at g blocks' place.slab (sector_of_offset g place.offset))
    sector_full place inside = full.counters place.slab (sector_of_offset g place.offset) inside.0 (sector_inside g place inside)

    pub after_stores : (place : DataPlace) (count : ℕ) → IsDataPlace g place → Stores here place (Ok count) → Stores after place (Ok count)
    after_stores place count inside stores = stores_full g blocks blocks' able.window [] before place count inside (sector_full place inside) stores

    pub after_pages : ArePagesGood after
    after_pages page at stands =
        let whole = full.pages page at (sym (same_page g blocks blocks' able.window [] full_says page) ∙ stands) in
        record { headed = whole.headed; slots = λ slot below. inr (says here page at slot, whole.slots slot below) }

    none_there : (sequence head : ℕ) → able.last + 2 ≤ sequence → IsThere g (journal_of g blocks') sequence head → ⊥
    none_there sequence head from is =
        let sizes = sizes_of_image blocks able.head able.opens.accepted in
        let slots = sizes.journal.0 in
        let early = sectors_early full.size full.others (journal_slot_of g sequence) 0 sequence head is.0 (mod-lt sequence (omega (arith, slots))) (omega arith) is.1 in
        omega (arith, early, from)

    after_window : IsWindow g (able.last + 2) (journal_of g blocks') (able.last + 1) []
    after_window = record {
      is_last = record { there = inl (omega arith); none = λ sequence head from later below is. none_there sequence head from is };
      first = able.last + 2;
      is_first = inl (omega arith, refl);
      blocks = [];
      count = omega arith;
      replayable = tt;
      entries = refl;
    }

    pub after_opens : Opens blocks' (recovered_super g able.last) (able.last + 1) []
    after_opens = record { accepted = accepted; sequences = λ is. absurd (cc is); is_window = after_window }

    pub full_rest : AreRestKept here blocks'
    full_rest slab n is below = elim (cases_lt n (sectors_per_slab g)) [
      | inl inside ↦ (full.counters slab n is inside).rest
      | inr past ↦ old_rest slab n (reference_sector_at g blocks' slab n) (full.past slab n is past below)
    ]

    pub early : IsJournalOfItsTime g blocks' (able.last + 1)
    early slot number sequence head entries inside below is =
        let no_later = sectors_early full.size full.others slot number sequence head entries inside below is in omega (arith, no_later)

    unfoldable pub full_closed : IsClosedStill here able.last blocks'
    full_closed = record {
      still = record {
        is = record {
          head = recovered_super g able.last;
          last = able.last + 1;
          window = [];
          opens = after_opens;
          pages = after_pages;
          stored = still_stored [] full_says (values_kept full.size full.others) after_stores;
          unshared = still_unshared g blocks blocks' able.window [] full_says able.unshared;
          timely = early;
        };
        same = say_the_same [] full_says (values_kept full.size full.others) after_stores;
        others = full.others;
        rest = full_rest;
      };
      closed = refl;
    }
