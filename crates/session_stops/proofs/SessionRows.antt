-- A whole session on an empty image of the default sizes: its superblock is written, a leaf, a block of the journal that has
-- the four entries of the example of counts, and once that is committed the leaf with what they say, its root, and a block of
-- counters. Then the head may rise over all of them. For each clause of what stands there is a case that is refused.
use Rattle.std.proofs.Common.{ℕ, zero, suc, ◌≡◌, ◌+◌, ◌-◌, ◌<◌, ◌≤◌, ◌^◌, true, false, List, [], ◌∷◌, length, replicate, take, Contains, All, Some, None, refl, sym, ◌∙◌, ap, ap₂, subst, inl, inr, arith}
use Rattle.std.proofs.lemmas.List.{length-replicate, take-replicate}
use Rattle.std.proofs.lemmas.List.Elements.{All-cons, All-nil}
use Rattle.blk_base.specs.Counters.{sector_of_offset}
use Rattle.blk_base.specs.Regions.{IsDataBlock, needed_blocks}
use Rattle.blk_base.specs.Sectors.{sector, zero_block}
use Rattle.blk_base.specs.declared.geometry.Geometry.{Geometry}
use Rattle.blk_base.specs.declared.geometry.Super.{Super}
use Rattle.blk_base.specs.declared.journal_entry.CommittedEntry.{CommittedEntry}
use Rattle.blk_base.specs.declared.journal_entry.Entry.{Entry}
use Rattle.blk_base.specs.declared.layout.DataPlace.{DataPlace}
use Rattle.blk_base.specs.declared.place.Mapping.TheVariants.{Unmapped, Zero, At}
use Rattle.blk_base.specs.declared.place.PageId.{PageId}
use Rattle.blk_base.specs.declared.place.Pbn.{Pbn}
use Rattle.blk_base.specs.Forms.{pbn}
use Rattle.blk_base.proofs.Example.{place, leaf as leaf_page, root}
use Rattle.byte_fields.specs.Fields.{number_at}
use Rattle.disk_model.specs.declared.call.Call.{Call}
use Rattle.disk_model.specs.declared.call.Call.TheVariants.{Write, Flush}
use Rattle.disk_model.specs.Log.{Blocks, block_at}
use Rattle.disk_model.proofs.LookedLaws.{one_in-all}
use Rattle.image_model.specs.Empty.{IsEmpty, empty_super}
use Rattle.image_model.specs.Maps.{Image, put_last}
use Rattle.image_model.specs.Maps as maps
use Rattle.image_model.specs.Sound.{IsDataPlace}
use Rattle.image_model.specs.Windows.{IsOfImage}
use Rattle.image_model.proofs.Example.{small, head_of_root}
use Rattle.image_model.specs.Looked.{looked_in}
use Rattle.journal_codec.specs.Grammar.{HoldsEntry}
use Rattle.journal_codec.specs.BlockBytes.{block_bytes}
use Rattle.page_codec.proofs.HeldLaws.{held_unmapped}
use Rattle.recovery_laws.proofs.SuperLaws.{room_of_image}
use Rattle.journal_stops.specs.Mapped.{page_after}
use Rattle.journal_stops.specs.Rings.{IsAtRest, IsUnderWay, ring_slot_of}
use Rattle.journal_stops.specs.Sealed.{Sealed, IsSealed, entries_of, window_of}
use Rattle.journal_stops.proofs.EntryLaws.{window_of_all}
use Rattle.journal_stops.proofs.StepLaws.{spelled_whole, is_written}
use Rattle.count_laws.specs.Counters.{CountsStand, MayWrite, SurelyCounters, UpdateStands, points_at}
use Rattle.count_laws.specs.Turns.{AreInTurn}
use Rattle.count_laws.proofs.CounterRows.{later_commit}
use Rattle.count_laws.proofs.Example.{data_block, four, four_turn, leaf, leaf_turn, opened, remap}
use Rattle.count_laws.proofs.TurnRows.{leaf_missing}
use Rattle.count_laws.proofs.WriteExample.{all_counted, may_write, written}
use Rattle.session_stops.specs.Beginnings.{IsToServe, opened_in}
use Rattle.session_stops.specs.Pages.{NewPagesStand, PagesStand, SaysTheRest, SlotStands}
use Rattle.session_stops.specs.Sessions.{AreFew, HasNoPage, IsBehind, IsOfCounts, MayRise, StandsAtRest, StandsUnderWay, entries_next, window_from}
use Rattle.session_stops.proofs.BeginRows.{head_of_serve, log_opened, not_yet, one, to_serve}
use Rattle.session_stops.proofs.CallSteps.{rest_counts, rest_data, rest_page, rest_quiet}
use Rattle.session_stops.proofs.PageRows.{empty_leaf, full_leaf, leaf_says, linked_root, only_roots, root_says_all, says_with, slots_stand}
use Rattle.session_stops.proofs.PageRows as pages
use Rattle.session_stops.proofs.SessionSteps.{session_begins, session_ends, session_opens, session_rises}

module _ (blocks : Blocks) (empty : IsEmpty small blocks) (whole : (b : ℕ) → b < length blocks → length (block_at blocks b) ≡ 4096) where
  abbrev pub to : IsToServe blocks
  to = to_serve blocks empty whole

  abbrev image : Image
  image = opened blocks empty

  abbrev pub g : Geometry
  g = to.sound.head.geometry

  abbrev pub start : ℕ
  start = to.sound.head.start

  super_is : to.sound.head ≡ empty_super small
  super_is = head_of_serve blocks empty whole

  pub sizes_are : g ≡ small
  sizes_are = ap (λ (head : Super). head.geometry) super_is

  pub start_is : start ≡ 1
  start_is = ap (λ (head : Super). head.start) super_is

  pub opened_is : opened_in blocks to ≡ image
  opened_is =
      ap₂ (λ (head : Super) (window : List CommittedEntry). record { geometry = head.geometry; blocks = blocks; window = window }) super_is (to.sound.closed to.clean).window

  wide : needed_blocks small ≤ length blocks
  wide = room_of_image blocks (empty_super small) empty.accepted

  -- The superblock is written, and flushed; before that nothing stands.

  pub at_rest : StandsAtRest blocks (log_opened blocks empty whole) blocks to []
  at_rest = session_opens blocks to blocks [] (one_in-all (looked_in blocks) blocks [] blocks (one blocks empty whole))

  too_early : StandsAtRest blocks [] blocks to [] → ⊥
  too_early stands = not_yet blocks empty whole to stands.behind.super

  -- The leaf is written at a data block that no page has. A root's block is none, and no data block.

  abbrev pub log_leaf : List Call
  log_leaf = Flush true ∷ Write (pbn 85) empty_leaf true ∷ log_opened blocks empty whole

  no_page_yet : HasNoPage (opened_in blocks to) [] (pbn 85)
  no_page_yet p at linked same =
      let low = only_roots blocks empty whole p at (subst (λ (o : Image). page_after o [] p ≡ Some at) opened_is linked) in omega (arith, same, low)

  page_there : HasNoPage image [] (pbn 9) → ⊥
  page_there none = none root (pbn 9) refl refl

  pub with_leaf : StandsAtRest blocks log_leaf blocks to []
  with_leaf =
      rest_quiet blocks to blocks (Write (pbn 85) empty_leaf true ∷ log_opened blocks empty whole) [] (Flush true) (λ b. tt)
      (rest_data blocks to blocks (log_opened blocks empty whole) [] (pbn 85) empty_leaf true
      (subst (λ (sizes : Geometry). IsDataBlock sizes 85) (sym sizes_are) (data_block 0 (omega arith))) no_page_yet at_rest)

  -- The block, sealed with the first sequence and that as its head.

  abbrev last_one : List Entry
  last_one = remap 5 (At (pbn 86)) Zero ∷ []

  abbrev last_two : List Entry
  last_two = remap 6 Unmapped (At (pbn 86)) ∷ last_one

  abbrev last_three : List Entry
  last_three = remap 5 Unmapped (At (pbn 86)) ∷ last_two

  abbrev pub entries : List Entry
  entries = leaf ∷ last_three

  abbrev pub block : Sealed
  block = record { head = start; entries = entries }

  held : All HoldsEntry entries
  held = All-cons HoldsEntry leaf last_three (omega arith, omega arith, omega arith, (omega arith, omega arith))
      (All-cons HoldsEntry (remap 5 Unmapped (At (pbn 86))) last_two (omega arith, tt, (omega arith, omega arith))
      (All-cons HoldsEntry (remap 6 Unmapped (At (pbn 86))) last_one (omega arith, tt, (omega arith, omega arith))
      (All-cons HoldsEntry (remap 5 (At (pbn 86)) Zero) [] (omega arith, (omega arith, omega arith), tt) (All-nil HoldsEntry))))

  of_image : All (IsOfImage small) entries
  of_image = All-cons (IsOfImage small) leaf last_three ((leaf_turn blocks empty).0, data_block 0 (omega arith))
      (All-cons (IsOfImage small) (remap 5 Unmapped (At (pbn 86))) last_two (omega arith, tt, data_block 1 (omega arith))
      (All-cons (IsOfImage small) (remap 6 Unmapped (At (pbn 86))) last_one (omega arith, tt, data_block 1 (omega arith))
      (All-cons (IsOfImage small) (remap 5 (At (pbn 86)) Zero) [] (omega arith, data_block 1 (omega arith), tt) (All-nil (IsOfImage small)))))

  pub is_sealed : IsSealed g start [] block
  is_sealed =
      let first = start_is in
      let slots = ap (λ (sizes : Geometry). sizes.journal) sizes_are in record {
        holds = record { named = (omega (arith, first), omega (arith, first)); head_below = omega arith; few = omega arith; each = held };
        each = subst (λ (sizes : Geometry). All (IsOfImage sizes) entries) (sym sizes_are) of_image;
        rises = omega arith;
        ring = omega (arith, slots);
        reach = omega arith;
      }

  -- the entries that it commits are those of the example
  pub all_is : four ≡ entries_of start (block ∷ [])
  all_is = ap (λ (n : ℕ). entries_of n (block ∷ [])) (sym start_is)

  next_is : four ≡ entries_next start [] block
  next_is = ap (λ (n : ℕ). entries_of n (block ∷ [])) (let first = start_is in let it : 1 ≡ start + 0 = omega (arith, first) in it)

  pub window_is : four ≡ window_of start (block ∷ [])
  window_is = all_is ∙ sym (window_of_all start (block ∷ []) refl)

  pub rest_is : [] ≡ window_from start (start + 1) (block ∷ [])
  rest_is = ap (λ (n : ℕ). entries_of (start + 1) (take n (block ∷ []))) (let it : 0 ≡ start + 1 - (start + 1) = omega arith in it)

  pub turns : AreInTurn (opened_in blocks to) (entries_of start (block ∷ []))
  turns = subst (λ (o : Image). AreInTurn o (entries_of start (block ∷ []))) (sym opened_is) (subst (AreInTurn image) all_is (four_turn blocks empty))

  pub made : NewPagesStand blocks log_leaf (opened_in blocks to) (entries_next start [] block)
  made =
      subst (λ (o : Image). NewPagesStand blocks log_leaf o (entries_next start [] block)) (sym opened_is)
      (subst (NewPagesStand blocks log_leaf image) next_is (tt, (tt, (tt, ((record { spelled = refl; held = held_unmapped small 0 }, tt), tt)))))

  -- It is written, and then flushed.

  abbrev pub block_is : List ℕ
  block_is = block_bytes g.nonce (start + 0) start entries

  abbrev pub log_block : List Call
  log_block = Write (record { 0 = ring_slot_of g (start + 0) }) block_is true ∷ log_leaf

  pub under_way : StandsUnderWay blocks log_block blocks to [] block
  under_way =
      session_begins blocks to blocks log_leaf [] block (record { 0 = ring_slot_of g (start + 0) }) block_is true refl is_sealed (spelled_whole g (start + 0) block is_sealed.holds)
      with_leaf with_leaf.behind turns made

  abbrev pub log_committed : List Call
  log_committed = Flush true ∷ log_block

  pub committed : StandsAtRest blocks log_committed blocks to (block ∷ [])
  committed =
      session_ends blocks to blocks log_block [] block
      (is_written blocks log_leaf g start [] block (record { 0 = ring_slot_of g (start + 0) }) block_is refl (spelled_whole g (start + 0) block is_sealed.holds)) (omega arith) under_way

  -- The leaf is written with what they say, and its root; each is flushed.

  linked_there : (p : PageId) (at : Pbn) → page_after image four p ≡ Some at → page_after (opened_in blocks to) (entries_of start (block ∷ [])) p ≡ Some at
  linked_there p at linked =
      subst (λ (o : Image). page_after o (entries_of start (block ∷ [])) p ≡ Some at) (sym opened_is)
      (subst (λ (list : List CommittedEntry). page_after image list p ≡ Some at) all_is linked)

  said_there : (p : PageId) (at : Pbn) (bytes : List ℕ) → SaysTheRest image four [] p at bytes
      → SaysTheRest (opened_in blocks to) (entries_of start (block ∷ [])) (window_of start (block ∷ [])) p at bytes
  said_there p at bytes says =
      subst (λ (o : Image). SaysTheRest o (entries_of start (block ∷ [])) (window_of start (block ∷ [])) p at bytes) (sym opened_is)
      (subst (λ (list : List CommittedEntry). SaysTheRest image list (window_of start (block ∷ [])) p at bytes) all_is
      (says_with blocks empty whole p at bytes (window_of start (block ∷ [])) says))

  abbrev pub log_full : List Call
  log_full = Flush true ∷ Write (pbn 85) full_leaf true ∷ log_committed

  with_full : StandsAtRest blocks log_full blocks to (block ∷ [])
  with_full =
      rest_quiet blocks to blocks (Write (pbn 85) full_leaf true ∷ log_committed) (block ∷ []) (Flush true) (λ b. tt)
      (rest_page blocks to blocks log_committed (block ∷ []) leaf_page (pbn 85) full_leaf true (linked_there leaf_page (pbn 85) refl)
      (said_there leaf_page (pbn 85) full_leaf (leaf_says blocks empty whole)) committed)

  abbrev pub log_root : List Call
  log_root = Flush true ∷ Write (pbn 9) linked_root true ∷ log_full

  with_root : StandsAtRest blocks log_root blocks to (block ∷ [])
  with_root =
      rest_quiet blocks to blocks (Write (pbn 9) linked_root true ∷ log_full) (block ∷ []) (Flush true) (λ b. tt)
      (rest_page blocks to blocks log_full (block ∷ []) root (pbn 9) linked_root true (linked_there root (pbn 9) refl)
      (said_there root (pbn 9) linked_root (root_says_all blocks empty whole)) with_full)

  -- And the block of counters.

  of_counts : IsOfCounts small 149
  of_counts = inl (0, 0, (omega arith, omega arith), refl)

  not_of_counts : IsOfCounts small 85 → ⊥
  not_of_counts (inl (slab, i, inside, same)) = omega (arith, same)
  not_of_counts (inr (slab, slot, inside, same)) = omega (arith, same)

  past_the_slab : IsOfCounts small 154 → ⊥
  past_the_slab (inl (slab, i, inside, same)) = let in_slab = inside.0 in let here = inside.1 in omega (arith, same, in_slab, here)
  past_the_slab (inr (slab, slot, inside, same)) = let in_slab = inside.0 in let here = inside.1 in omega (arith, same, in_slab, here)

  abbrev pub log_counts : List Call
  log_counts = Flush true ∷ Write (pbn 149) written true ∷ log_root

  may_there : MayWrite blocks log_root (opened_in blocks to) (entries_of start (block ∷ [])) (window_of start (block ∷ [])) 149 written
  may_there =
      subst (λ (o : Image). MayWrite blocks log_root o (entries_of start (block ∷ [])) (window_of start (block ∷ [])) 149 written) (sym opened_is)
      (subst (λ (list : List CommittedEntry). MayWrite blocks log_root image list (window_of start (block ∷ [])) 149 written) all_is
      (subst (λ (list : List CommittedEntry). MayWrite blocks log_root image four list 149 written) window_is (may_write blocks empty wide whole log_root)))

  pub with_counts : StandsAtRest blocks log_counts blocks to (block ∷ [])
  with_counts =
      rest_quiet blocks to blocks (Write (pbn 149) written true ∷ log_root) (block ∷ []) (Flush true) (λ b. tt)
      (rest_counts blocks to blocks log_root (block ∷ []) (pbn 149) written true (subst (λ (sizes : Geometry). IsOfCounts sizes 149) (sym sizes_are) of_counts) may_there with_root)

  -- Now the head may rise over all of them.

  pub each_counted : (x : DataPlace) (point : ℕ) → IsDataPlace g x → Contains (points_at g (entries_of start (block ∷ [])) x) point
      → SurelyCounters blocks log_counts g x.slab (sector_of_offset g x.offset) (λ bytes. point ≤ number_at 8 0 bytes)
  each_counted x point there has =
      subst (λ (sizes : Geometry). SurelyCounters blocks log_counts sizes x.slab (sector_of_offset sizes x.offset) (λ bytes. point ≤ number_at 8 0 bytes)) (sym sizes_are)
      (all_counted blocks empty wide whole log_root x point (subst (λ (sizes : Geometry). IsDataPlace sizes x) sizes_are there)
      (subst (λ (list : List CommittedEntry). Contains (points_at small list x) point) (sym all_is)
      (subst (λ (sizes : Geometry). Contains (points_at sizes (entries_of start (block ∷ [])) x) point) sizes_are has)))

  may_rise : MayRise blocks log_counts blocks to (block ∷ []) (start + 1)
  may_rise = record {
    low = omega arith;
    high = omega arith;
    slots = λ p at slot mapping linked small_slot left put.
        subst (λ (o : Image). SlotStands blocks log_counts (maps.head_of o p at) slot mapping) (sym opened_is)
        (slots_stand blocks empty whole log_counts (pages.full_five, tt) (pages.full_six, tt) (pages.root_first, tt) p at slot mapping
        (subst (λ (list : List CommittedEntry). page_after image list p ≡ Some at) (sym all_is) (subst (λ (o : Image). page_after o (entries_of start (block ∷ [])) p ≡ Some at) opened_is linked))
        (subst (λ (list : List CommittedEntry). put_last list p slot ≡ Some mapping) (sym window_is) put));
    updates = λ x point there has. inr (inl (each_counted x point there
        (subst (λ (list : List CommittedEntry). Contains (points_at g list x) point) (sym window_is ∙ all_is) has)));
  }

  pub risen : IsBehind blocks log_counts blocks to (block ∷ []) (start + 1)
  risen = session_rises blocks to blocks log_counts (block ∷ []) (start + 1) may_rise with_counts

  -- What stands behind the journal is refused where one part of it doesn't stand.

  -- on a device of another size
  other_size : IsBehind [] (log_opened blocks empty whole) blocks to [] start → ⊥
  other_size behind = let size = behind.size in let long = wide in omega (arith, size, long)

  -- where the superblock may be what it was
  no_super : IsBehind blocks [] blocks to [] start → ⊥
  no_super behind = not_yet blocks empty whole to behind.super

  -- As many blocks as a session may have stand, none of which has an entry; and not one more.
  abbrev bare : Sealed
  bare = record { head = start; entries = [] }

  no_entries : (first n : ℕ) → entries_of first (replicate n bare) ≡ []
  no_entries first zero = refl
  no_entries first (suc n) = no_entries first n

  none_full : (n : ℕ) → AreFew (replicate n bare)
  none_full zero = tt
  none_full (suc n) = (omega arith, none_full n)

  as_many_as_may : (n : ℕ) → n + 2 ≡ 2 ^ 18 → IsBehind blocks (log_opened blocks empty whole) blocks to (replicate n bare) start
  as_many_as_may n many =
      let size = length-replicate n bare in
      let behind = at_rest.behind in
      let all : entries_of start [] ≡ entries_of start (replicate n bare) = sym (no_entries start n) in
      let window : window_from start start [] ≡ window_from start start (replicate n bare) =
      ap (entries_of start) (take_none (start + 0 - start))
      ∙ sym (ap (λ (k : ℕ). entries_of start (take k (replicate n bare))) (let it : start + length (replicate n bare) - start ≡ n = omega (arith, size) in it)
      ∙ ap (entries_of start) (take-replicate n n bare (omega arith)) ∙ no_entries start n) in
      record {
        size = refl;
        super = behind.super;
        reach = omega (arith, size, many);
        few = none_full n;
        turns = subst (AreInTurn (opened_in blocks to)) all tt;
        pages = subst (λ (w : List CommittedEntry). PagesStand blocks (log_opened blocks empty whole) (opened_in blocks to) (entries_of start (replicate n bare)) w) window
            (subst (λ (list : List CommittedEntry). PagesStand blocks (log_opened blocks empty whole) (opened_in blocks to) list (window_from start start [])) all behind.pages);
        counts = subst (λ (w : List CommittedEntry). CountsStand blocks (log_opened blocks empty whole) (opened_in blocks to) (entries_of start (replicate n bare)) w) window
            (subst (λ (list : List CommittedEntry). CountsStand blocks (log_opened blocks empty whole) (opened_in blocks to) list (window_from start start [])) all behind.counts);
      }
    where
      take_none : (k : ℕ) → ◌≡◌ {A = List Sealed} (take k []) []
      take_none zero = refl
      take_none (suc k) = refl

  too_many : (log : List Call) (list : List Sealed) → length list + 1 ≡ 2 ^ 18 → IsBehind blocks log blocks to list start → ⊥
  too_many log list many behind = let reach = behind.reach in omega (arith, reach, many)

  -- with a block of more entries than fit
  too_full : (log : List Call) (big : Sealed) → length big.entries ≡ 193 → IsBehind blocks log blocks to (big ∷ []) start → ⊥
  too_full log big many behind = let few = behind.few.0 in omega (arith, few, many)

  few_here : AreFew (block ∷ [])
  few_here = (omega arith, tt)

  as_many_as_fit : (big : Sealed) → length big.entries ≡ 192 → AreFew (big ∷ [])
  as_many_as_fit big many = (omega (arith, many), tt)

  -- with an entry whose leaf isn't linked
  abbrev early : Sealed
  early = record { head = start; entries = remap 5 Unmapped Zero ∷ [] }

  out_of_turn : (log : List Call) → IsBehind blocks log blocks to (early ∷ []) start → ⊥
  out_of_turn log behind =
      leaf_missing blocks empty
      (subst (AreInTurn image) (ap (λ (n : ℕ). entries_of n (early ∷ [])) start_is)
      (subst (λ (o : Image). AreInTurn o (entries_of start (early ∷ []))) opened_is behind.turns))

  -- where a root may have been overwritten
  no_root : IsBehind blocks (Write (pbn 9) zero_block false ∷ log_opened blocks empty whole) blocks to [] start → ⊥
  no_root behind =
      let stands = subst (λ (o : Image). PagesStand blocks (Write (pbn 9) zero_block false ∷ log_opened blocks empty whole) o [] (window_from start start [])) opened_is behind.pages in
      pages.zeros_unheaded (maps.head_of image root (pbn 9)) (stands root (pbn 9) refl).headed.0

  -- where a sector of counters may be one of a later session
  later_sector : (bytes : List ℕ) → number_at 8 0 (sector 0 bytes) ≡ 519 → IsBehind blocks (Write (pbn 149) bytes false ∷ log_opened blocks empty whole) blocks to [] start → ⊥
  later_sector bytes is behind =
      let stands = subst (λ (o : Image). CountsStand blocks (Write (pbn 149) bytes false ∷ log_opened blocks empty whole) o [] (window_from start start [])) opened_is behind.counts in
      later_commit blocks empty (sector 0 bytes) is (stands.sectors 0 0 (omega arith) (omega arith)).0

  -- At rest, and under way: not where the journal isn't, nor where the rest of it doesn't stand.

  not_at_rest : (log : List Call) (list : List Sealed) → (IsAtRest blocks log g start list → ⊥) → StandsAtRest blocks log blocks to list → ⊥
  not_at_rest log list never stands = never stands.journal

  not_under_way : (log : List Call) (list : List Sealed) (next : Sealed) → (IsUnderWay blocks log g start list next → ⊥) → StandsUnderWay blocks log blocks to list next → ⊥
  not_under_way log list next never stands = never stands.journal

  -- the next block may not name a head that can't be let go of yet: the leaf that is linked alone by the window
  not_behind : (log : List Call) (next : Sealed) → (IsBehind blocks log blocks to [] next.head → ⊥) → StandsUnderWay blocks log blocks to [] next → ⊥
  not_behind log next never stands = never stands.behind

  -- its entries come in turn
  next_out_of_turn : (log : List Call) → StandsUnderWay blocks log blocks to [] early → ⊥
  next_out_of_turn log stands =
      leaf_missing blocks empty
      (subst (AreInTurn image) (ap (λ (n : ℕ). entries_of n (early ∷ [])) start_is)
      (subst (λ (o : Image). AreInTurn o (entries_of start (early ∷ []))) opened_is stands.turns))

  -- and the pages that they make stand empty: not where one is written with a mapping meanwhile
  leaf_written : StandsUnderWay blocks (Write (pbn 85) full_leaf false ∷ log_block) blocks to [] block → ⊥
  leaf_written stands =
      pages.leaf_full_there blocks empty whole log_block
      (subst (NewPagesStand blocks (Write (pbn 85) full_leaf false ∷ log_block) image) (sym next_is)
      (subst (λ (o : Image). NewPagesStand blocks (Write (pbn 85) full_leaf false ∷ log_block) o (entries_next start [] block)) opened_is stands.made))

  -- The head may not fall, and not rise past the next block; and not over a slot or an update that doesn't stand.

  -- it may stay where it is
  stays : (log : List Call) → MayRise blocks log blocks to [] to.sound.head.start
  stays log = record {
    low = omega arith;
    high = omega arith;
    slots = λ page at slot mapping linked inside left put. absurd (cc put);
    updates = λ place point inside has. inl has;
  }

  falls : (log : List Call) (later : ℕ) → later + 1 ≡ start → MayRise blocks log blocks to (block ∷ []) later → ⊥
  falls log later below may = let low = may.low in omega (arith, low, below)

  past_the_next : (log : List Call) → MayRise blocks log blocks to (block ∷ []) (start + 2) → ⊥
  past_the_next log may = let high = may.high in omega (arith, high)

  -- a link that the root doesn't say yet
  not_linked : (log : List Call) → (SlotStands blocks log head_of_root 0 (At (pbn 85)) → ⊥) → MayRise blocks log blocks to (block ∷ []) (start + 1) → ⊥
  not_linked log never may =
      never
      (subst (λ (o : Image). SlotStands blocks log (maps.head_of o root (pbn 9)) 0 (At (pbn 85))) opened_is
      (may.slots root (pbn 9) 0 (At (pbn 85)) (linked_there root (pbn 9) refl) (omega arith)
      (subst (λ (list : List CommittedEntry). put_last list root 0 ≡ None) rest_is refl)
      (subst (λ (list : List CommittedEntry). put_last list root 0 ≡ Some (At (pbn 85))) window_is refl)))

  -- an update of the window that nothing else has
  not_counted : (log : List Call) → (UpdateStands blocks log small [] (place 0) 512 → ⊥) → MayRise blocks log blocks to (block ∷ []) (start + 1) → ⊥
  not_counted log never may =
      let sizes_back = sym sizes_are in
      never (subst (λ (list : List CommittedEntry). UpdateStands blocks log small list (place 0) 512) (sym rest_is)
      (subst (λ (sizes : Geometry). UpdateStands blocks log sizes (window_from start (start + 1) (block ∷ [])) (place 0) 512) sizes_are
      (may.updates (place 0) 512 (subst (λ (sizes : Geometry). IsDataPlace sizes (place 0)) sizes_back (omega arith, omega arith))
      (subst (λ (sizes : Geometry). Contains (points_at sizes (window_of start (block ∷ [])) (place 0)) 512) sizes_back
      (subst (λ (list : List CommittedEntry). Contains (points_at small list (place 0)) 512) window_is (0, omega arith, refl))))))
