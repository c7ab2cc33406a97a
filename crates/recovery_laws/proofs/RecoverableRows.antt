-- Images that recovery takes, and what it keeps of them: for each clause a case that it accepts, and one that it refuses.
use Rattle.std.proofs.Common.{ℕ, ◌≡◌, ◌+◌, ◌<◌, ◌≤◌, ◌^◌, true, false, List, [], ◌∷◌, get_or, length, Some, Ok, Err, ap, subst, refl, sym, arith}
use Rattle.std.proofs.lemmas.List.{append-nil}
use Rattle.blk_base.specs.Forms.{pbn}
use Rattle.blk_base.specs.Limits.{IsGeometry}
use Rattle.blk_base.specs.Regions.{Place, JournalSlot, Root, IsPlace, block_of}
use Rattle.blk_base.specs.Sectors.{sector, zero_block}
use Rattle.blk_base.specs.declared.geometry.Geometry.{Geometry}
use Rattle.blk_base.specs.declared.geometry.Super.{Super}
use Rattle.blk_base.specs.declared.journal_entry.Entry.{Entry}
use Rattle.blk_base.specs.declared.layout.DataPlace.{DataPlace}
use Rattle.blk_base.specs.declared.place.Mapping.TheVariants.{Unmapped, At}
use Rattle.blk_base.specs.declared.place.PageId.{PageId}
use Rattle.blk_base.specs.declared.place.Pbn.{Pbn}
use Rattle.disk_model.specs.declared.call.Call.{Call}
use Rattle.disk_model.specs.declared.call.Call.TheVariants.{Write}
use Rattle.disk_model.specs.Log.{Blocks, block_at}
use Rattle.image_layout.specs.Opened.{super_of_image}
use Rattle.image_layout.specs.Values.{journal_of}
use Rattle.image_model.proofs.CountLaws.{one_stored}
use Rattle.image_model.proofs.EmptyLaws.{all_counted, blank_slot, no_sector, not_shared, pages_good, root_says, sizes_of_image, stored_counter, the_image, window_is}
use Rattle.image_model.proofs.Example.{small}
use Rattle.slab_codec.specs.declared.forms.SlabEntry.{SlabEntry}
use Rattle.image_model.specs.Counts.{HasMappings, IsKept, Stores, block_of_data, counter_of}
use Rattle.image_model.specs.Empty.{IsMade, empty_root, made_block}
use Rattle.image_model.specs.Maps.{Image, IsTreePage, head_of, mapping_in, mapping_of, page_at}
use Rattle.image_model.specs.Sound.{IsDataPlace}
use Rattle.journal_codec.specs.Grammar.{IsSector}
use Rattle.page_codec.specs.Grammar.{HasHead}
use Rattle.recovery_laws.specs.Calls.{some_puts}
use Rattle.recovery_laws.specs.Kept.{AreIndexMissed, recovered_super}
use Rattle.recovery_laws.specs.Recoverable.{AreStopsStill, HasRecoverable, IsClosedStill, IsJournalOfItsTime, IsRecoverable, StillSays, as_recoverable, recoverable_image, sound_recoverable}
use Rattle.recovery_laws.proofs.KeptRows.{index_written, others_kept, rest_kept, same_as_itself}
use Rattle.recovery_laws.proofs.OpenedExample.{opened_is_sound, opened_is_to_recover, opened_super}
use Rattle.recovery_laws.proofs.ShowLaws.{begun_still}

-- An image that was just made and opened: nothing in its journal is from a later time, it can be recovered, and nothing of it
-- is lost before the first call.
module _ (g : Geometry) (blocks : Blocks) (accepted : super_of_image blocks ≡ Ok (opened_super g))
    (made : (place : Place) → IsPlace g place → IsMade place → block_at blocks (block_of g place) ≡ made_block g place) where
  opened_can : IsRecoverable blocks
  opened_can = sound_recoverable blocks (opened_is_sound g blocks accepted made)

  opened_of_its_time : IsJournalOfItsTime opened_can.head.geometry blocks opened_can.last
  opened_of_its_time = opened_can.timely

  module _ (named : g.nonce < 2 ^ 64) (whole : (b : ℕ) → b < length blocks → length (block_at blocks b) ≡ 4096) where
    opened_has : HasRecoverable blocks [] blocks
    opened_has = as_recoverable blocks [] blocks (opened_is_to_recover g blocks accepted made named whole)

    nothing_called : AreStopsStill blocks opened_has.is blocks [] []
    nothing_called = begun_still blocks blocks [] opened_has [] (some_puts tt)

-- One whose counters have some number below the limit each, whatever it is: they needn't be right. A block without a mapping
-- is stored once.
module _ (g : Geometry) (blocks : Blocks) (accepted : super_of_image blocks ≡ Ok (opened_super g))
    (slots : (slot : ℕ) → slot < g.journal → block_at blocks (block_of g (JournalSlot slot)) ≡ zero_block)
    (roots : (tree : ℕ) → tree < 60 → block_at blocks (block_of g (Root tree)) ≡ empty_root g tree)
    (updates : (slab : ℕ) (entry : SlabEntry) → slab < g.slabs → IsKept g blocks slab entry → ⊥)
    (fits : (place : DataPlace) → IsDataPlace g place → counter_of (the_image g blocks) place ≤ 254) where
  sizes : IsGeometry g
  sizes = sizes_of_image blocks (opened_super g) accepted

  none_said : (tree slot : ℕ) → tree < 60 → slot < 812 → mapping_in (block_at blocks (block_of g (Root tree))) slot ≡ Unmapped
  none_said tree slot inside below = root_says g blocks roots tree slot inside below

  any_counters : IsRecoverable blocks
  any_counters = record {
    head = opened_super g;
    last = 0;
    window = [];
    opens = record { accepted = accepted; sequences = λ unclean. omega arith; is_window = window_is g blocks sizes slots };
    pages = pages_good g blocks sizes none_said (blank_slot g blocks roots);
    stored = λ place inside. (counter_of (the_image g blocks) place, stored_counter g blocks updates place inside (fits place inside));
    unshared = not_shared g blocks sizes none_said;
    timely = λ slot number sequence head entries inside below is. absurd (no_sector g blocks sizes slots slot number sequence head entries inside below is);
  }

  stored_once : (place : DataPlace) → IsDataPlace g place → counter_of (the_image g blocks) place ≡ 1
      → Stores (recoverable_image blocks any_counters) place (Ok 1) × HasMappings (recoverable_image blocks any_counters) (block_of_data g place) 0
  unfolding any_counters
  stored_once place inside one = (
    subst (λ (n : ℕ). Stores (the_image g blocks) place (Ok n)) one (stored_counter g blocks updates place inside (fits place inside)),
    all_counted g blocks sizes none_said (block_of_data g place),
  )

-- No image: of which each clause is broken. opens: there is no superblock
no_image : IsRecoverable [] → ⊥
no_image able = let accepted = able.opens.accepted in absurd (cc accepted)

module _ (blocks : Blocks) (able : IsRecoverable blocks) where
  -- pages: zeros are none
  page_of_zeros : (page : PageId) (at : Pbn) → page_at (recoverable_image blocks able) page ≡ Some at → block_at blocks at.0 ≡ zero_block → (HasHead (head_of (recoverable_image blocks able) page at) zero_block → ⊥) → ⊥
  page_of_zeros page at there zeros unheaded =
      unheaded (subst (HasHead (head_of (recoverable_image blocks able) page at)) zeros (able.pages page at there).headed)

  -- stored: a count leaves its range
  count_leaves : (place : DataPlace) (point : ℕ) → IsDataPlace able.head.geometry place → Stores (recoverable_image blocks able) place (Err point) → ⊥
  count_leaves place point inside leaves =
      let count = able.stored place inside in
      let one = one_stored (recoverable_image blocks able) place (Err point) (Ok count.0) leaves count.1 in absurd (cc one)

  -- unshared: an address has the block of a page
  page_shared : (at : Pbn) (address : ℕ) → IsTreePage (recoverable_image blocks able) at → mapping_of (recoverable_image blocks able) address ≡ At at → ⊥
  page_shared at address is mapped = able.unshared at address is mapped

  -- timely: no sector of the journal has a sequence two past the last one
  too_late : (head : ℕ) (entries : List Entry) → 3 < able.head.geometry.journal
      → IsSector able.head.geometry.nonce 0 (sector 0 (get_or (journal_of able.head.geometry blocks) 3 zero_block)) (able.last + 2) head entries → ⊥
  too_late head entries inside sector_is = let early = able.timely 3 0 (able.last + 2) head entries inside (omega arith) sector_is in omega (arith, early)

  -- It says the same as itself,
  pub says_itself : StillSays (recoverable_image blocks able) blocks
  says_itself = record {
    is = able;
    same = same_as_itself (recoverable_image blocks able);
    others = others_kept (recoverable_image blocks able);
    rest = rest_kept (recoverable_image blocks able);
  }

  -- and is closed where its superblock is the one that recovery writes.
  closed_itself : able.head ≡ recovered_super able.head.geometry 7 → IsClosedStill (recoverable_image blocks able) 7 blocks
  unfolding says_itself
  closed_itself closed = record { still = says_itself; closed = closed }

-- Blocks without a superblock say nothing of it, nor do those of other sizes.
pub nothing_says : (image : Image) → StillSays image [] → ⊥
nothing_says image still = let accepted = still.is.opens.accepted in absurd (cc accepted)

another_says : (blocks : Blocks) (head : Super) (image : Image) → super_of_image blocks ≡ Ok head → image.geometry.logical + 1 ≡ head.geometry.logical → StillSays image blocks → ⊥
another_says blocks head image accepted more still =
    let accepted_too = still.is.opens.accepted in
    let same_head : still.is.head ≡ head = cc (accepted, accepted_too) in
    let here = ap (λ (h : Super). h.geometry.logical) same_head in
    let there = ap (λ (g : Geometry). g.logical) still.same.geometry in
    omega (arith, here, there, more)

-- Not closed: the superblock says so, or the next session begins one behind the last sequence.
not_closed : (blocks : Blocks) (head : Super) (image : Image) → super_of_image blocks ≡ Ok head → head.clean ≡ false → IsClosedStill image 7 blocks → ⊥
not_closed blocks head image accepted unclosed is =
    let accepted_too = is.still.is.opens.accepted in
    let same_head : is.still.is.head ≡ head = cc (accepted, accepted_too) in
    let clean = ap (λ (h : Super). h.clean) is.closed in
    let unclean = ap (λ (h : Super). h.clean) same_head in
    absurd (cc (clean, unclean, unclosed))

one_behind : (blocks : Blocks) (head : Super) (image : Image) → super_of_image blocks ≡ Ok head → head.start ≡ 8 → IsClosedStill image 7 blocks → ⊥
one_behind blocks head image accepted starts is =
    let accepted_too = is.still.is.opens.accepted in
    let same_head : is.still.is.head ≡ head = cc (accepted, accepted_too) in
    let start = ap (λ (h : Super). h.start) is.closed in
    let start_too = ap (λ (h : Super). h.start) same_head in
    omega (arith, start, start_too, starts)

-- Stops. index: its last block was written; still: all that is left is no image
stops_with_the_index_written : (blocks : Blocks) (able : IsRecoverable blocks) → able.head.geometry ≡ small → AreStopsStill blocks able [] [] (Write (pbn 84) [] false ∷ []) → ⊥
stops_with_the_index_written blocks able sizes stops =
    index_written (subst (λ (g : Geometry). AreIndexMissed g (Write (pbn 84) [] false ∷ [])) sizes stops.index)

stops_without_image : (blocks : Blocks) (able : IsRecoverable blocks) (calls : List Call) → AreStopsStill blocks able [] [] calls → ⊥
stops_without_image blocks able calls stops =
    nothing_says (recoverable_image blocks able)
    (stops.still calls [] [] (sym (append-nil calls)) (record { size = refl; whole = λ b below. absurd (omega (arith, below)); sectors = λ b below. absurd (omega (arith, below)) }))

-- To recover: it isn't closed, and its nonce can be written.
closed_already : (opening blocks : Blocks) (first : List Call) (to : HasRecoverable opening first blocks) → to.is.head.clean ≡ true → ⊥
closed_already opening blocks first to clean = let unclean = to.unclean in absurd (cc (clean, unclean))

nonce_too_great : (opening blocks : Blocks) (first : List Call) (to : HasRecoverable opening first blocks) → to.is.head.geometry.nonce ≡ 2 ^ 64 → ⊥
nonce_too_great opening blocks first to great = let named = to.named in omega (arith, great, named)
