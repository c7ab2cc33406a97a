-- While an image is rebuilt it can be rebuilt and maps the same; and afterwards it is sound.
use Rattle.std.proofs.Common.{ℕ, ◌≡◌, ◌+◌, ◌*◌, ◌/◌, ◌%◌, ◌<◌, ◌≤◌, ◌^◌, List, [], length, get_or, All, Some, Ok, slice_index, refl, sym, ◌∙◌, ap, subst, inl, inr, arith}
use Rattle.plain_laws.proofs.OptionLaws.{option_cases, some_is}
use Rattle.std.proofs.Math.Nat.{mod-lt}
use Rattle.blk_base.specs.Counters.{counters_per_sector, limit_of, sector_of_offset}
use Rattle.blk_base.specs.Limits.{IsGeometry}
use Rattle.blk_base.specs.Regions.{ReferenceBlock, SlabJournalSlot, journal_slot_of, needed_blocks, references_of}
use Rattle.blk_base.specs.Sectors.{sector, zero_block}
use Rattle.blk_base.specs.declared.geometry.Geometry.{Geometry}
use Rattle.blk_base.specs.declared.journal_entry.CommittedEntry.{CommittedEntry}
use Rattle.blk_base.specs.declared.layout.DataPlace.{DataPlace}
use Rattle.blk_base.specs.declared.place.PageId.{PageId}
use Rattle.blk_base.specs.declared.place.Pbn.{Pbn}
use Rattle.blk_base.specs.declared.sizes.TheConstants.{PAGE_SLOTS}
use Rattle.byte_fields.specs.Fields.{number_at}
use Rattle.count_updates.proofs.NumberLaws.{block_inside}
use Rattle.count_updates.specs.Numbers.{block_number}
use Rattle.disk_model.specs.Log.{Blocks, block_at}
use Rattle.image_layout.specs.Opened.{super_of_image}
use Rattle.image_layout.specs.Superblock.{super_of}
use Rattle.image_layout.specs.Values.{journal_of}
use Rattle.image_model.proofs.CountLaws.{none_in_nothing}
use Rattle.image_model.proofs.EmptyLaws.{sizes_of_image}
use Rattle.image_model.proofs.MapLaws.{slot_says_its_mapping}
use Rattle.image_model.proofs.ZeroLaws.{no_slab_sector}
use Rattle.image_model.specs.Counts.{HasMappings, IsKept as IsListed, IsUpdate, Stores, block_of_data, commit_at, counter_of, reference_sector_at}
use Rattle.image_model.specs.Maps.{Image, ArePagesGood, head_of, mapping_of, page_at, put_last, says, value_with}
use Rattle.image_model.specs.Sound.{IsClosed, IsDataPlace, IsOfItsTime, image_of}
use Rattle.image_model.specs.Windows.{IsThere, IsWindow}
use Rattle.journal_codec.specs.Grammar.{IsSector}
use Rattle.recovery_laws.proofs.CountsKept.{sector_inside, sectors_inside, stores_counter}
use Rattle.recovery_laws.proofs.OldLaws.{says_own, says_put}
use Rattle.recovery_laws.proofs.SameMapLaws.{same_map, same_mapping, same_mappings, same_page, still_unshared}
use Rattle.recovery_laws.proofs.SuperLaws.{first_of_image, first_sector_says, room_of_image}
use Rattle.recovery_laws.proofs.WindowFacts.{IsKnown, window_known}
use Rattle.recovery_laws.specs.Kept.{recovered_super}
use Rattle.slab_codec.specs.Grammar.{IsSlabSector}
use Rattle.slab_codec.specs.declared.forms.SlabEntry.{SlabEntry}
use Rattle.force_rebuild.proofs.CounterLaws.{commit_says, counter_says}
use Rattle.force_rebuild.proofs.OtherLaws.{same_data, same_journal}
use Rattle.force_rebuild.specs.Kept.{AreOthersKept, IsKept, IsRebuilt, MapTheSame}
use Rattle.recovery_laws.specs.Recoverable.{IsJournalOfItsTime}
use Rattle.force_rebuild.specs.Rebuildable.{AreCountable, IsRebuildable}
use Rattle.force_rebuild.specs.Written.{AreMappings, AreRewritten, AreUnderway, commit_behind, counted_block, counters_of_slab}

module _ (blocks blocks' : Blocks) (is : IsRebuildable blocks) where
  abbrev pub here : Image
  here = image_of is.head blocks is.window

  abbrev g : Geometry
  g = is.head.geometry

  pub sizes : IsGeometry g
  sizes = sizes_of_image blocks is.head is.accepted

  pub known : All (IsKnown g is.last) is.window
  known = window_known g (journal_of g blocks) is.last is.head.start is.window is.is_window

  pub room : needed_blocks g ≤ length blocks
  room = room_of_image blocks is.head is.accepted

  some : 0 < length blocks
  some = let enough = room in omega (arith, enough)

  -- Where each linked page says the same, and the data is the same.
  module _ (window' : List CommittedEntry) where
    abbrev there : Image
    there = record { geometry = g; blocks = blocks'; window = window' }

    module _ (same_says : (page : PageId) (at : Pbn) (slot : ℕ) → page_at here page ≡ Some at → slot < PAGE_SLOTS → says there page at slot ≡ says here page at slot)
        (same_values : (address : ℕ) → value_with blocks' (mapping_of here address) ≡ value_with blocks (mapping_of here address)) where
      map_the_same : MapTheSame here there
      map_the_same = record {
        geometry = refl;
        map = same_map g blocks blocks' is.window window' same_says;
        values = λ address. ap (value_with blocks') (same_mapping g blocks blocks' is.window window' same_says address) ∙ same_values address;
      }

      still_mapped : (place : DataPlace) (count : ℕ) → HasMappings here (block_of_data g place) count → HasMappings there (block_of_data g place) count
      still_mapped place count = same_mappings g blocks blocks' is.window window' same_says (block_of_data g place) count

      still_countable : AreCountable there
      still_countable place inside = let was = is.countable place inside in (was.0, still_mapped place was.0 was.1, was.2)

  module _ (size : length blocks' ≡ length blocks) (others : AreOthersKept here blocks') where
    journal : journal_of g blocks' ≡ journal_of g blocks
    journal = same_journal here blocks' is.pages is.last known room size others

    values_kept : (address : ℕ) → value_with blocks' (mapping_of here address) ≡ value_with blocks (mapping_of here address)
    values_kept address = same_data here blocks' is.pages is.last known room size others is.unshared address

    sectors_early : IsJournalOfItsTime g blocks' is.last
    sectors_early slot number sequence head entries inside below sector_is =
        is.timely slot number sequence head entries inside below
        (subst (λ (blocks_of : Blocks). IsSector g.nonce number (sector number (get_or blocks_of slot zero_block)) sequence head entries) journal sector_is)

  -- While it is rebuilt.
  module _ (underway : AreUnderway here blocks') where
    abbrev during : Image
    during = image_of is.head blocks' is.window

    part_says : (page : PageId) (at : Pbn) (slot : ℕ) → page_at here page ≡ Some at → slot < PAGE_SLOTS → says during page at slot ≡ says here page at slot
    part_says page at slot stands below = elim (option_cases (put_last is.window page slot)) [
      | inr (mapping, put) ↦ says_put during page at slot mapping put ∙ sym (says_put here page at slot mapping put)
      | inl none ↦
          says_own during page at slot none
          ∙ slot_says_its_mapping (head_of here page at) (block_at blocks' at.0) slot (says here page at slot) ((underway.pages page at stands).slots slot below none)
    ]

    part_pages : ArePagesGood during
    part_pages page at stands =
        let part = underway.pages page at (sym (same_page g blocks blocks' is.window is.window part_says page) ∙ stands) in
        record {
          headed = part.headed;
          slots = λ slot below. elim (option_cases (put_last is.window page slot)) [
            | inr (mapping, put) ↦ inl (some_is (put_last is.window page slot) mapping put)
            | inl none ↦ inr (says here page at slot, part.slots slot below none)
          ];
        }

    part_accepted : super_of_image blocks' ≡ Ok is.head
    part_accepted =
        let size = underway.size in
        let some_too : 0 < length blocks' = let enough = some in omega (arith, size, enough) in
        first_of_image blocks' some_too ∙ first_sector_says (block_at blocks' 0) (block_at blocks 0) (length blocks') underway.head
        ∙ ap (super_of (block_at blocks 0)) size ∙ sym (first_of_image blocks some) ∙ is.accepted

    pub underway_is_kept : IsKept here blocks'
    underway_is_kept =
        let values = values_kept underway.size underway.others in
        record {
          rebuildable = record {
            head = is.head;
            last = is.last;
            window = is.window;
            accepted = part_accepted;
            sequences = is.sequences;
            is_window = subst (λ (blocks_of : Blocks). IsWindow g is.head.start blocks_of is.last is.window) (sym (journal underway.size underway.others)) is.is_window;
            pages = part_pages;
            unshared = still_unshared g blocks blocks' is.window is.window part_says is.unshared;
            countable = still_countable is.window part_says values;
            timely = sectors_early underway.size underway.others;
          };
          same = map_the_same is.window part_says values;
          others = underway.others;
        }

  -- Once its superblock is written.
  module _ (counters : List ℕ) (are : AreMappings here counters) (full : AreRewritten here (commit_behind is.last) counters blocks')
      (accepted : super_of_image blocks' ≡ Ok (recovered_super g is.last)) (more : is.last + 3 < 2 ^ 54) where
    abbrev after : Image
    after = image_of (recovered_super g is.last) blocks' []

    full_says : (page : PageId) (at : Pbn) (slot : ℕ) → page_at here page ≡ Some at → slot < PAGE_SLOTS → says after page at slot ≡ says here page at slot
    full_says page at slot stands below =
        slot_says_its_mapping (head_of here page at) (block_at blocks' at.0) slot (says here page at slot) ((full.pages page at stands).slots slot below)

    after_pages : ArePagesGood after
    after_pages page at stands =
        let whole = full.pages page at (sym (same_page g blocks blocks' is.window [] full_says page) ∙ stands) in
        record { headed = whole.headed; slots = λ slot below. inr (says here page at slot, whole.slots slot below) }

    values : (address : ℕ) → value_with blocks' (mapping_of here address) ≡ value_with blocks (mapping_of here address)
    values = values_kept full.size full.others

    early : IsJournalOfItsTime g blocks' is.last
    early = sectors_early full.size full.others

    none_there : (sequence head : ℕ) → is.last + 2 ≤ sequence → IsThere g (journal_of g blocks') sequence head → ⊥
    none_there sequence head from stands =
        let slots = sizes.journal.0 in
        let soon = early (journal_slot_of g sequence) 0 sequence head stands.0 (mod-lt sequence (omega (arith, slots))) (omega arith) stands.1 in
        omega (arith, soon, from)

    after_window : IsWindow g (is.last + 2) (journal_of g blocks') (is.last + 1) []
    after_window = record {
      is_last = record { there = inl (omega arith); none = λ sequence head from later below stands. none_there sequence head from stands };
      first = is.last + 2;
      is_first = inl (omega arith, refl);
      blocks = [];
      count = omega arith;
      replayable = tt;
      entries = refl;
    }

    -- The counts.

    no_entry : (slab : ℕ) (entry : SlabEntry) → slab < g.slabs → IsListed g blocks' slab entry → ⊥
    no_entry slab entry inside kept =
        no_slab_sector g.nonce slab g.slab_blocks kept.number kept.sequence kept.entries kept.inside.1
        (subst (λ (block : List ℕ). IsSlabSector g.nonce slab g.slab_blocks kept.number (sector kept.number block) kept.sequence kept.entries)
        (full.slabs (SlabJournalSlot slab kept.slot) (inside, kept.inside.0) tt) kept.valid)

    no_update : (place : DataPlace) (point : ℕ) → IsDataPlace g place → IsUpdate after place point → ⊥
    no_update place point inside (inl kept) = no_entry place.slab _ inside.0 kept
    no_update place point inside (inr (committed, has, updates)) = none_in_nothing committed has

    sector_is : (slab n : ℕ) → slab < g.slabs → n < 8 * references_of g
        → reference_sector_at g blocks' slab n ≡ sector (n % 8) (counted_block g (commit_behind is.last) (counters_of_slab g counters slab) (n / 8))
    sector_is slab n inside below = ap (sector (n % 8)) (full.slabs (ReferenceBlock slab (n / 8)) (inside, omega (arith, below)) tt)

    commit_is : (slab n : ℕ) → slab < g.slabs → n < 8 * references_of g → commit_at g blocks' slab n ≡ commit_behind is.last
    commit_is slab n inside below =
        let few = more in
        ap (number_at 8 0) (sector_is slab n inside below)
        ∙ commit_says g (commit_behind is.last) (counters_of_slab g counters slab) (n / 8) (n % 8) (mod-lt n (omega arith)) (omega (arith, few))

    counter_is : (place : DataPlace) → IsDataPlace g place → counter_of after place ≡ slice_index counters (block_number g place)
    counter_is place inside =
        let n = sector_of_offset g place.offset in
        ap (number_at 1 (8 + place.offset % counters_per_sector g)) (sector_is place.slab n inside.0 (sectors_inside g n (sector_inside g place inside)))
        ∙ counter_says g (commit_behind is.last) counters place inside n refl

    fits : (place : DataPlace) → IsDataPlace g place → slice_index counters (block_number g place) ≤ limit_of g
    fits place inside = let size = are.size in let below = block_inside g place inside in are.limit (block_number g place) 0 (omega (arith, size, below))

    stored : (place : DataPlace) → IsDataPlace g place → Stores after place (Ok (slice_index counters (block_number g place)))
    stored place inside =
        let same = counter_is place inside in
        let most = fits place inside in
        subst (λ (n : ℕ). Stores after place (Ok n)) same
        (stores_counter after place (λ point above update. no_update place point inside update) (omega (arith, same, most)))

    mapped : (place : DataPlace) → IsDataPlace g place → HasMappings after (block_of_data g place) (slice_index counters (block_number g place))
    mapped place inside = still_mapped [] full_says values place (slice_index counters (block_number g place)) (are.each place inside)

    after_timely : IsOfItsTime g blocks' (is.last + 1)
    after_timely = record {
      commits = λ slab n inside below. let commit = commit_is slab n inside below in omega (arith, commit);
      updates = λ slab entry inside kept. absurd (no_entry slab entry inside kept);
      sectors = λ slot number sequence head entries inside below sector_there.
          let soon = early slot number sequence head entries inside below sector_there in omega (arith, soon);
    }

    after_closed : IsClosed after (is.last + 2) (is.last + 1)
    after_closed = record {
      next = omega arith;
      window = refl;
      updates = λ place point inside update. absurd (no_update place point inside update);
      sectors = early;
    }

    pub rewritten_is_rebuilt : IsRebuilt here is.last blocks'
    rewritten_is_rebuilt = record {
      sound = record {
        head = recovered_super g is.last;
        last = is.last + 1;
        window = [];
        opens = record { accepted = accepted; sequences = λ unclean. absurd (cc unclean); is_window = after_window };
        pages = after_pages;
        stored = λ place inside. (slice_index counters (block_number g place), stored place inside);
        unshared = still_unshared g blocks blocks' is.window [] full_says is.unshared;
        counts = λ place inside. (slice_index counters (block_number g place), stored place inside, mapped place inside);
        timely = after_timely;
        closed = λ clean. after_closed;
      };
      same = map_the_same [] full_says values;
      closed = refl;
      kept = record {
        rebuildable = record {
          head = recovered_super g is.last;
          last = is.last + 1;
          window = [];
          accepted = accepted;
          sequences = let few = more in omega (arith, few);
          is_window = after_window;
          pages = after_pages;
          unshared = still_unshared g blocks blocks' is.window [] full_says is.unshared;
          countable = still_countable [] full_says values;
          timely = after_timely.sectors;
        };
        same = map_the_same [] full_says values;
        others = full.others;
      };
    }
