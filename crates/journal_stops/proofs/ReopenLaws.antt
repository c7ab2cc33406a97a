-- A journal that is opened with its blocks is at rest, if its last block is whole and nothing is later.
use Rattle.std.proofs.Common.{ℕ, zero, suc, ◌≡◌, ◌+◌, ◌-◌, ◌<◌, ◌≤◌, ◌^◌, Bool, IsTrue, List, [], ◌∷◌, ◌++◌, length, replicate, get_or, refl, sym, ◌∙◌, ap, subst, inl, inr, arith, length-append}
use Rattle.std.proofs.Math.Nat.{mod-lt}
use Rattle.std.proofs.lemmas.Bool.{cases_lt}
use Rattle.std.proofs.lemmas.List.{length-map, length-replicate, take_at}
use Rattle.blk_base.specs.Regions.{journal_slot_of}
use Rattle.blk_base.specs.Sectors.{sector, zero_block}
use Rattle.blk_base.specs.declared.geometry.Geometry.{Geometry}
use Rattle.blk_base.specs.declared.journal_entry.CommittedEntry.{CommittedEntry}
use Rattle.blk_base.specs.declared.journal_entry.Entry.{Entry}
use Rattle.disk_model.specs.Log.{Blocks, block_at}
use Rattle.image_layout.specs.Values.{journal_of}
use Rattle.image_model.specs.Windows.{in_slot, IsFirst, IsLast, IsReplayable, AreReplayable, IsWindow, entries_from}
use Rattle.image_model.specs.Sound.{IsSound}
use Rattle.image_model.proofs.EmptyLaws.{sizes_of_image}
use Rattle.journal_codec.specs.Grammar.{IsSector, IsRun, IsPrefix}
use Rattle.journal_codec.specs.BlockBytes.{entries_in}
use Rattle.journal_codec.proofs.ReadLaws.{one_reading}
use Rattle.vdo_model.specs.Journals.{Surely, block_of_slot}
use Rattle.journal_stops.specs.Rings.{ring_slot_of, IsWhole, HasNothingLater, StandWhole, IsAtRest}
use Rattle.journal_stops.specs.Sealed.{Sealed, next_of, head_of, lists_of, since, window_of}
use Rattle.journal_stops.proofs.ShownLaws.{slot_there, begins_anew}

module _ (g : Geometry) (start : ℕ) (image : Blocks) (last first : ℕ) (low : start ≤ first) (slots : 0 < g.journal)
    (whole_last : start ≤ last → (head : ℕ) (entries : List Entry) (whole : Bool) → IsPrefix g.nonce (in_slot g (journal_of g image) last) last head entries whole → IsTrue whole) where
  -- of the blocks before the window nothing is said
  abbrev reaped : List Sealed
  reaped = replicate (first - start) (record { head = start; entries = [] })

  reaped_size : length reaped ≡ first - start
  reaped_size = length-replicate (first - start) _

  whole_block : (sequence : ℕ) (entries : List Entry) → first ≤ sequence → sequence ≤ last → IsReplayable g (journal_of g image) last sequence entries
      → (head : ℕ) × IsWhole g sequence (record { head = head; entries = entries }) (in_slot g (journal_of g image) sequence)
  whole_block sequence entries from within is =
      let prefix = is.has.1 in
      let whole : IsTrue is.whole = elim (cases_lt sequence last) [
        | inl earlier ↦ is.complete earlier
        | inr not_earlier ↦ let same : sequence ≡ last = omega (arith, within, not_earlier) in
            whole_last (omega (arith, from, within, low)) is.has.0 entries is.whole (subst (λ (n : ℕ). IsPrefix g.nonce (in_slot g (journal_of g image) n) n is.has.0 entries is.whole) same prefix)
      ] in
      (is.has.0, subst (λ (n : ℕ). IsRun g.nonce (in_slot g (journal_of g image) sequence) sequence is.has.0 n entries) (prefix.all.0 whole) prefix.run)

  stands_there : (sequence : ℕ) (block : Sealed) → IsWhole g sequence block (in_slot g (journal_of g image) sequence) → Surely image [] (ring_slot_of g sequence) (IsWhole g sequence block)
  stands_there sequence block is = (subst (IsWhole g sequence block) (slot_there g image (journal_slot_of g sequence) (mod-lt sequence slots)) is, tt)

  reaped_stand : (n : ℕ) → start + n ≤ first → StandWhole image [] g start first (replicate n (record { head = start; entries = [] }))
  reaped_stand zero below = tt
  reaped_stand (suc n) below =
      let size = length-replicate {A = Sealed} n (record { head = start; entries = [] }) in
      (λ reached. absurd (omega (arith, reached, size, below)), reaped_stand n (omega (arith, below)))

  -- the blocks of a window, and those before it
  blocks_stand : (lists : List (List Entry)) → first + length lists ≤ last + 1 → AreReplayable g (journal_of g image) last first lists
      → (blocks : List Sealed) × (lists_of blocks ≡ lists) × StandWhole image [] g start first (blocks ++ reaped)
  blocks_stand [] within are = ([], refl, reaped_stand (first - start) (omega (arith, low)))
  blocks_stand (entries ∷ older) within are =
      let before = blocks_stand older (omega (arith, within)) are.1 in
      let sequence = first + length older in
      let found = whole_block sequence entries (omega arith) (omega (arith, within)) are.0 in
      let block : Sealed = record { head = found.0; entries = entries } in
      let count : length before.0 ≡ length older = sym (length-map before.0 (λ (b : Sealed). b.entries)) ∙ ap length before.1 in
      let here : sequence ≡ next_of start (before.0 ++ reaped) = omega (arith, count, reaped_size, length-append before.0 reaped, low) in (
        block ∷ before.0,
        ap (λ (rest : List (List Entry)). entries ∷ rest) before.1,
        (λ reached. (found.1.fits, are.0.each, subst (λ (n : ℕ). Surely image [] (ring_slot_of g n) (IsWhole g n block)) here (stands_there sequence block found.1)), before.2),
      )

  -- the head that they name is the first sequence of the window
  head_is : (blocks : List Sealed) → first + length blocks ≡ last + 1 → IsFirst g start (journal_of g image) last first → StandWhole image [] g start first (blocks ++ reaped)
      → head_of start (blocks ++ reaped) ≡ first
  head_is [] count (inl none) stand =
      let same = none.1 in
      let zero_is : first - start ≡ 0 = omega (arith, same) in
      subst (λ (n : ℕ). head_of start (replicate n (record { head = start; entries = [] })) ≡ first) (sym zero_is) (sym same)
  head_is [] count (inr some) stand = let below = some.1.1.head_below in absurd (omega (arith, count, below))
  head_is (block ∷ older) count (inl none) stand = let behind = none.0 in let same = none.1 in absurd (omega (arith, count, behind, same))
  head_is (block ∷ older) count (inr some) stand =
      let here : next_of start (older ++ reaped) ≡ last = omega (arith, count, reaped_size, length-append older reaped, low) in
      let whole = (stand.0 (omega (arith, here, count))).2.0.sectors 0 (omega arith) in
      let place = journal_slot_of g last in
      let said = subst (λ (n : ℕ). IsSector g.nonce 0 (sector 0 (block_at image (ring_slot_of g n))) n block.head (entries_in 0 block.entries)) here whole in
      let there = subst (λ (bytes : List ℕ). IsSector g.nonce 0 (sector 0 bytes) last first some.1.0) (slot_there g image place (mod-lt last slots)) some.1.1 in
      (one_reading g.nonce 0 (sector 0 (block_at image (ring_slot_of g last))) last block.head last first (entries_in 0 block.entries) some.1.0 said there).1

  -- the window is theirs
  window_is : (blocks : List Sealed) (lists : List (List Entry)) → lists_of blocks ≡ lists → first + length lists ≡ last + 1 → head_of start (blocks ++ reaped) ≡ first
      → window_of start (blocks ++ reaped) ≡ entries_from first lists
  window_is blocks lists same count head =
      let size : length blocks ≡ length lists = sym (length-map blocks (λ (b : Sealed). b.entries)) ∙ ap length same in
      let newest : length blocks ≡ next_of start (blocks ++ reaped) - first = omega (arith, size, count, reaped_size, length-append blocks reaped, low) in
      let taken : since start first (blocks ++ reaped) ≡ blocks = take_at blocks reaped (next_of start (blocks ++ reaped) - first) newest in
      ap (λ (h : ℕ). entries_from h (lists_of (since start h (blocks ++ reaped)))) head ∙ ap (λ (list : List Sealed). entries_from first (lists_of list)) taken ∙ ap (entries_from first) same

  at_rest : (blocks : List Sealed) → 1 ≤ start → first + length blocks ≡ last + 1 → last < start + 2 ^ 32 → last + 2 ≤ first + g.journal → (length blocks ≡ 0 → first ≡ start)
      → head_of start (blocks ++ reaped) ≡ first → StandWhole image [] g start first (blocks ++ reaped)
      → ((slot : ℕ) → slot < g.journal → HasNothingLater g (last + 1) (get_or (journal_of g image) slot zero_block)) → IsAtRest image [] g start (blocks ++ reaped)
  at_rest blocks some count reach ring empty head stand none =
      let next : next_of start (blocks ++ reaped) ≡ last + 1 = omega (arith, count, reaped_size, length-append blocks reaped, low) in
      record {
        some = some;
        ring = record {
          head = omega (arith, head, low);
          newest = λ any. elim (cases_lt 0 (length blocks)) [
            | inl more ↦ omega (arith, head, next, count, more)
            | inr nothing ↦ let same = empty (omega (arith, nothing)) in absurd (omega (arith, any, same, nothing, reaped_size, length-append blocks reaped))
          ];
          ring = omega (arith, head, next, ring);
          reach = omega (arith, next, reach);
        };
        whole = subst (λ (h : ℕ). StandWhole image [] g start h (blocks ++ reaped)) (sym head) stand;
        none = λ slot below. (
          subst (λ (n : ℕ). HasNothingLater g n (block_at image (block_of_slot slot))) (sym next)
              (subst (HasNothingLater g (last + 1)) (slot_there g image slot below) (none slot below)),
          tt,
        );
      }

  empty_from_start : (n : ℕ) → first + n ≡ last + 1 → IsFirst g start (journal_of g image) last first → n ≡ 0 → first ≡ start
  empty_from_start n count (inl none) nothing = none.1
  empty_from_start n count (inr some) nothing = let below = some.1.1.head_below in absurd (omega (arith, count, below, nothing))

last_in_reach : (g : Geometry) (start : ℕ) (journal : Blocks) (last : ℕ) → IsLast g start journal last → last < start + 2 ^ 32
last_in_reach g start journal last is = elim is.there [
  | inl none ↦ omega (arith, none)
  | inr some ↦ some.1
]

-- The journal of an image that is opened with its window is at rest, with the blocks of the window.
pub reopened : (image : Blocks) (g : Geometry) (start last : ℕ) (window : List CommittedEntry) (is : IsWindow g start (journal_of g image) last window)
    → 1 ≤ start → start ≤ is.first → last + 2 ≤ is.first + g.journal
    → (start ≤ last → (head : ℕ) (entries : List Entry) (whole : Bool) → IsPrefix g.nonce (in_slot g (journal_of g image) last) last head entries whole → IsTrue whole)
    → ((slot number sequence head : ℕ) (entries : List Entry) → slot < g.journal → number < 8
    → IsSector g.nonce number (sector number (get_or (journal_of g image) slot zero_block)) sequence head entries → sequence ≤ last)
    → (blocks : List Sealed) × IsAtRest image [] g start blocks × (next_of start blocks ≡ last + 1) × (head_of start blocks ≡ is.first)
    × (window_of start blocks ≡ window)
reopened image g start last window is some low ring whole_last timely =
    let first = is.first in
    let slots : 0 < g.journal = omega (arith, ring, is.count) in
    let found = blocks_stand g start image last first low slots whole_last is.blocks (omega (arith, is.count)) is.replayable in
    let before : List Sealed = reaped g start image last first low slots whole_last in
    let size : length found.0 ≡ length is.blocks = sym (length-map found.0 (λ (b : Sealed). b.entries)) ∙ ap length found.1 in
    let count : first + length found.0 ≡ last + 1 = omega (arith, is.count, size) in
    let head = head_is g start image last first low slots whole_last found.0 count is.is_first found.2 in (
      found.0 ++ before,
      at_rest g start image last first low slots whole_last found.0 some count (last_in_reach g start (journal_of g image) last is.is_last) ring
          (empty_from_start g start image last first low slots whole_last (length found.0) count is.is_first) head found.2
          (λ slot below number small sequence h entries has. let at_most = timely slot number sequence h entries below small has in omega (arith, at_most)),
      (let behind : length before ≡ first - start = length-replicate (first - start) _ in omega (arith, count, behind, length-append found.0 before, low)),
      head,
      window_is g start image last first low slots whole_last found.0 is.blocks found.1 is.count head ∙ sym is.entries,
    )

-- A sound image is at rest, with no block, from two past its last sequence on; and a clean one from the next one on.

pub sound_at_rest : (image : Blocks) (s : IsSound image) (start : ℕ) → s.last + 2 ≤ start → IsAtRest image [] s.head.geometry start []
sound_at_rest image s start after =
    let sizes = sizes_of_image image s.head s.opens.accepted in
    begins_anew image s.head.geometry start (omega (arith, after)) (omega (arith, sizes.journal))
    (λ slot number sequence head entries below small is. let at_most = s.timely.sectors slot number sequence head entries below small is in omega (arith, at_most, after))

pub closed_at_rest : (image : Blocks) (s : IsSound image) (start : ℕ) → IsTrue s.head.clean → s.head.start ≤ start → IsAtRest image [] s.head.geometry start []
closed_at_rest image s start clean after =
    let sizes = sizes_of_image image s.head s.opens.accepted in
    let closed = s.closed clean in
    begins_anew image s.head.geometry start (omega (arith, after, closed.next)) (omega (arith, sizes.journal))
    (λ slot number sequence head entries below small is. let at_most = closed.sectors slot number sequence head entries below small is in omega (arith, at_most, after, closed.next))
