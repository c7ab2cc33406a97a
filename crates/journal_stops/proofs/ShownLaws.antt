-- What an image shows of the journal: its window.
use Rattle.std.proofs.Common.{ℕ, zero, suc, ◌≡◌, ◌⊎◌, ◌+◌, ◌-◌, ◌*◌, ◌<◌, ◌≤◌, Bool, true, false, All, List, [], ◌∷◌, ◌++◌, length, take, drop, get_or, refl, sym, ◌∙◌, ap, subst, inl, inr, arith}
use Rattle.std.proofs.Math.Nat.{mod-lt}
use Rattle.std.proofs.lemmas.Bool.{cases_lt}
use Rattle.std.proofs.lemmas.Bool.Decides.{eqb_tells}
use Rattle.std.proofs.lemmas.Grind.{get_or_after_one}
use Rattle.std.proofs.lemmas.List.{get_or-take, length-map, length-take-le, length-take, drop-take, take-take}
use Rattle.std.proofs.lemmas.List.Elements.{All-take}
use Rattle.blk_base.specs.Regions.{journal_slot_of}
use Rattle.blk_base.specs.Sectors.{sector, zero_block}
use Rattle.blk_base.specs.declared.geometry.Geometry.{Geometry}
use Rattle.blk_base.specs.declared.journal_entry.Entry.{Entry}
use Rattle.disk_model.specs.declared.call.Call.{Call}
use Rattle.disk_model.specs.Images.{IsImage}
use Rattle.disk_model.specs.Log.{Blocks, block_at, contents}
use Rattle.disk_model.proofs.ImageLaws.{all_weaker, sector_of_mix}
use Rattle.image_layout.specs.Values.{journal_of}
use Rattle.image_model.specs.Windows.{in_slot, IsThere, IsFirst, IsLast, IsOfImage, IsReplayable, AreReplayable, IsWindow}
use Rattle.journal_codec.specs.Grammar.{IsSector, IsRun, IsPrefix}
use Rattle.journal_codec.specs.BlockBytes.{entries_in}
use Rattle.journal_codec.proofs.PrefixLaws.{prefix_partial, prefix_whole}
use Rattle.journal_codec.proofs.ReadLaws.{one_reading}
use Rattle.vdo_model.specs.Journals.{Surely, block_of_slot}
use Rattle.journal_stops.specs.Rings.{ring_slot_of, IsWhole, IsEarlier, HasNothingLater, IsTornOver, StandWhole, IsRing, IsAtRest, IsUnderWay}
use Rattle.journal_stops.specs.Sealed.{Sealed, IsSealed, next_of, head_of, lists_of, since, window_of, front_of}
use Rattle.journal_stops.proofs.StepLaws.{head_within, ring_has_slots}

-- What stands in the journal's blocks, as an image has them.

-- these blocks stand whole in the journal
abbrev AreShown : Geometry → Blocks → ℕ → ℕ → List Sealed → Type 0
AreShown g journal start from [] = Unit {0}
AreShown g journal start from (block ∷ older) =
    (from ≤ next_of start older → (length block.entries ≤ 192) × All (IsOfImage g) block.entries
    × IsWhole g (next_of start older) block (in_slot g journal (next_of start older)))
    × AreShown g journal start from older

-- nothing in this slot is later
abbrev NoneIn : Geometry → Blocks → ℕ → ℕ → Type 0
NoneIn g journal next slot = HasNothingLater g next (get_or journal slot zero_block)

pub slot_there : (g : Geometry) (image : Blocks) (slot : ℕ) → slot < g.journal → get_or (journal_of g image) slot zero_block ≡ block_at image (block_of_slot slot)
slot_there g image slot below = get_or-take g.journal (drop 1 image) slot zero_block below ∙ get_or_after_one image slot zero_block

module _ (opening : Blocks) (log : List Call) (g : Geometry) (start : ℕ) (image : Blocks) (inside : 1 + g.journal ≤ length opening) (is : IsImage opening log image) where
  -- a sector of a block has what all contents have
  sector_shown : (P : List ℕ → Type 0) (slot number : ℕ) → slot < g.journal → number < 8 → Surely opening log (block_of_slot slot) (λ content. P (sector number content))
      → P (sector number (get_or (journal_of g image) slot zero_block))
  sector_shown P slot number below small all =
      subst (λ (block : List ℕ). P (sector number block)) (sym (slot_there g image slot below))
      (sector_of_mix P (contents opening log (block_of_slot slot)) (block_at image (block_of_slot slot)) number small (is.sectors (block_of_slot slot) (omega (arith, inside, below))) all)

  whole_shown : (from : ℕ) (blocks : List Sealed) → 0 < g.journal → StandWhole opening log g start from blocks → AreShown g (journal_of g image) start from blocks
  whole_shown from [] some whole = tt
  whole_shown from (block ∷ older) some whole =
      let sequence = next_of start older in
      let slot = journal_slot_of g sequence in (
        λ reached. let was = whole.0 reached in (
          was.0,
          was.1,
          record {
            fits = omega (arith, was.0);
            sectors = λ i small. sector_shown (λ bytes. IsSector g.nonce i bytes sequence block.head (entries_in i block.entries)) slot i (mod-lt sequence some) small
                (all_weaker (IsWhole g sequence block) (λ content. IsSector g.nonce i (sector i content) sequence block.head (entries_in i block.entries)) (contents opening log (block_of_slot slot))
                (λ content is_whole. is_whole.sectors i small) was.2);
          },
        ),
        whole_shown from older some whole.1,
      )

  none_shown : (next slot : ℕ) → slot < g.journal → Surely opening log (block_of_slot slot) (HasNothingLater g next) → NoneIn g (journal_of g image) next slot
  none_shown next slot below none number small =
      sector_shown (IsEarlier g next number) slot number below small
      (all_weaker (HasNothingLater g next) (λ content. IsEarlier g next number (sector number content)) (contents opening log (block_of_slot slot)) (λ content has. has number small) none)

  torn_shown : (sequence : ℕ) (block : Sealed) → 0 < g.journal → Surely opening log (ring_slot_of g sequence) (IsTornOver g sequence block)
      → IsTornOver g sequence block (in_slot g (journal_of g image) sequence)
  torn_shown sequence block some torn number small =
      sector_shown (λ bytes. IsSector g.nonce number bytes sequence block.head (entries_in number block.entries) ⊎ IsEarlier g sequence number bytes) (journal_slot_of g sequence) number (mod-lt sequence some) small
      (all_weaker (IsTornOver g sequence block) (λ content. IsSector g.nonce number (sector number content) sequence block.head (entries_in number block.entries) ⊎ IsEarlier g sequence number (sector number content))
      (contents opening log (ring_slot_of g sequence)) (λ content has. has number small) torn)

-- The blocks of the window.

shown_replayable : (g : Geometry) (journal : Blocks) (last sequence : ℕ) (block : Sealed) → All (IsOfImage g) block.entries → IsWhole g sequence block (in_slot g journal sequence)
    → IsReplayable g journal last sequence block.entries
shown_replayable g journal last sequence block each whole = record {
  whole = true;
  has = (block.head, prefix_whole g.nonce (in_slot g journal sequence) sequence block.head block.entries whole);
  complete = λ earlier. refl;
  each = each;
}

-- the newest k of the blocks, the first of which has this sequence
some_replayable : (g : Geometry) (journal : Blocks) (start last first k : ℕ) (blocks : List Sealed) → first + k ≡ next_of start blocks → k ≤ length blocks
    → AreShown g journal start first blocks → AreReplayable g journal last first (lists_of (take k blocks))
some_replayable g journal start last first zero blocks at most shown = tt
some_replayable g journal start last first (suc k) [] at most shown = absurd (omega (arith, most))
some_replayable g journal start last first (suc k) (block ∷ older) at most shown =
    let count : length (lists_of (take k older)) ≡ k = length-map (take k older) (λ (b : Sealed). b.entries) ∙ length-take-le k older (omega (arith, most)) in
    let here : next_of start older ≡ first + length (lists_of (take k older)) = omega (arith, at, count) in
    let was = shown.0 (omega (arith, here)) in (
      subst (λ (n : ℕ). IsReplayable g journal last n block.entries) here (shown_replayable g journal last (next_of start older) block was.1 was.2),
      some_replayable g journal start last first k older (omega (arith, at)) (omega (arith, most)) shown.1,
    )

shown_since : (g : Geometry) (journal : Blocks) (start from later : ℕ) (blocks : List Sealed) → from ≤ later → AreShown g journal start from blocks → AreShown g journal start later blocks
shown_since g journal start from later [] le shown = tt
shown_since g journal start from later (block ∷ older) le shown =
    (λ reached. shown.0 (omega (arith, le, reached)), shown_since g journal start from later older le shown.1)

since_count : (start from : ℕ) (blocks : List Sealed) → start ≤ from → from ≤ next_of start blocks → from + length (lists_of (since start from blocks)) ≡ next_of start blocks
since_count start from blocks low high =
    let count = length-map (since start from blocks) (λ (b : Sealed). b.entries) ∙ length-take-le (next_of start blocks - from) blocks (omega (arith, low, high)) in
    omega (arith, count, low, high)

since_replayable : (g : Geometry) (journal : Blocks) (start last from : ℕ) (blocks : List Sealed) → start ≤ from → from ≤ next_of start blocks
    → AreShown g journal start from blocks → AreReplayable g journal last from (lists_of (since start from blocks))
since_replayable g journal start last from blocks low high shown =
    some_replayable g journal start last from (next_of start blocks - from) blocks (omega (arith, low, high)) (omega (arith, low)) shown

-- The window of a journal in which these blocks stand and nothing is later.

not_there : (g : Geometry) (journal : Blocks) (next : ℕ) → ((slot : ℕ) → slot < g.journal → NoneIn g journal next slot) → 0 < g.journal
    → (sequence head : ℕ) → next ≤ sequence → IsThere g journal sequence head → ⊥
not_there g journal next none some sequence head later there =
    let less = none (journal_slot_of g sequence) (mod-lt sequence some) 0 (omega arith) sequence head there.0 there.1 in omega (arith, less, later)

newest_there : (g : Geometry) (journal : Blocks) (start last : ℕ) (block : Sealed) (older : List Sealed) → IsRing g start (block ∷ older) → last + 1 ≡ next_of start (block ∷ older)
    → AreShown g journal start block.head (block ∷ older) → IsThere g journal last block.head
newest_there g journal start last block older ring at shown =
    let newest = ring.newest (omega arith) in
    let whole = (shown.0 (omega (arith, newest))).2 in
    let here : next_of start older ≡ last = omega (arith, at) in
    subst (λ (n : ℕ). IsThere g journal n block.head) here (entries_in 0 block.entries, whole.sectors 0 (omega arith))

shown_last : (g : Geometry) (journal : Blocks) (start last : ℕ) (blocks : List Sealed) → IsRing g start blocks → last + 1 ≡ next_of start blocks
    → AreShown g journal start (head_of start blocks) blocks → ((sequence head : ℕ) → next_of start blocks ≤ sequence → IsThere g journal sequence head → ⊥) → IsLast g start journal last
shown_last g journal start last [] ring at shown none = record {
  there = inl (omega (arith, at));
  none = λ sequence head low later reach there. none sequence head (omega (arith, at, later)) there;
}
shown_last g journal start last (block ∷ older) ring at shown none = record {
  there = inr (omega (arith, at), omega (arith, at, ring.reach), (block.head, newest_there g journal start last block older ring at shown));
  none = λ sequence head low later reach there. none sequence head (omega (arith, at, later)) there;
}

shown_first : (g : Geometry) (journal : Blocks) (start last : ℕ) (blocks : List Sealed) → IsRing g start blocks → last + 1 ≡ next_of start blocks
    → AreShown g journal start (head_of start blocks) blocks → IsFirst g start journal last (head_of start blocks)
shown_first g journal start last [] ring at shown = inl (omega (arith, at), refl)
shown_first g journal start last (block ∷ older) ring at shown = inr (omega (arith, at), newest_there g journal start last block older ring at shown)

shown_window : (g : Geometry) (journal : Blocks) (start last : ℕ) (blocks : List Sealed) → IsRing g start blocks → last + 1 ≡ next_of start blocks
    → AreShown g journal start (head_of start blocks) blocks → ((sequence head : ℕ) → next_of start blocks ≤ sequence → IsThere g journal sequence head → ⊥)
    → IsWindow g start journal last (window_of start blocks)
shown_window g journal start last blocks ring at shown none =
    let head = head_of start blocks in
    let within = head_within g start blocks ring in
    record {
      is_last = shown_last g journal start last blocks ring at shown none;
      first = head;
      is_first = shown_first g journal start last blocks ring at shown;
      blocks = lists_of (since start head blocks);
      count = since_count start head blocks ring.head within ∙ sym at;
      replayable = since_replayable g journal start last head blocks ring.head within shown;
      entries = refl;
    }

-- Of a block that was torn, the front is there.

-- which of the first sectors are the new ones: all, or those before one that isn't
front_count : (g : Geometry) (sequence : ℕ) (block : Sealed) (content : List ℕ) → IsTornOver g sequence block content → (k : ℕ) → k ≤ 8
    → (n : ℕ) × (n ≤ k) × ((i : ℕ) → i < n → IsSector g.nonce i (sector i content) sequence block.head (entries_in i block.entries))
    × (n < k → IsEarlier g sequence n (sector n content))
front_count g sequence block content torn zero le = (0, omega arith, (λ i below. absurd (omega arith)), (λ below. absurd (omega arith)))
front_count g sequence block content torn (suc k) le =
    let before = front_count g sequence block content torn k (omega arith) in
    let n = before.0 in
    elim (cases_lt n k) [
      | inl ended ↦ (n, omega (arith, ended), before.2, λ below. before.3 ended)
      | inr so_far ↦ let same : n ≡ k = omega (arith, so_far, before.1) in elim (torn k (omega arith)) [
        | inl new ↦ (
          suc k,
          omega arith,
          (λ i below. elim (cases_lt i n) [
            | inl front ↦ before.2 i front
            | inr here ↦ let is : k ≡ i = omega (arith, here, below, same) in
                subst (λ (j : ℕ). IsSector g.nonce j (sector j content) sequence block.head (entries_in j block.entries)) is new
          ]),
          (λ below. absurd (omega arith)),
        )
        | inr old ↦ (n, omega (arith, same), before.2, λ below. subst (λ (j : ℕ). IsEarlier g sequence j (sector j content)) (sym same) old)
      ]
    ]

in_front : (n i : ℕ) (entries : List Entry) → i < n → entries_in i (take (24 * n) entries) ≡ entries_in i entries
in_front n i entries below =
    let m = 24 * n - 24 * i in
    let all : 24 * n ≡ 24 * i + m = omega arith in
    ap (λ k. take 24 (drop (24 * i) (take k entries))) all ∙ ap (take 24) (drop-take (24 * i) m entries) ∙ take-take 24 m (drop (24 * i) entries) (omega arith)

front_prefix : (g : Geometry) (sequence : ℕ) (block : Sealed) (content : List ℕ) → IsTornOver g sequence block content
    → IsSector g.nonce 0 (sector 0 content) sequence block.head (entries_in 0 block.entries)
    → (n : ℕ) × (1 ≤ n) × (n ≤ 8) × ((whole : Bool) × IsPrefix g.nonce content sequence block.head (take (24 * n) block.entries) whole)
front_prefix g sequence block content torn first =
    let found = front_count g sequence block content torn 8 (omega arith) in
    let n = found.0 in
    let some : 1 ≤ n = elim (cases_lt n 1) [
      | inl none ↦ let zero_is : n ≡ 0 = omega (arith, none) in
          let old = subst (λ (j : ℕ). IsEarlier g sequence j (sector j content)) zero_is (found.3 (omega (arith, none))) in
          let less = old sequence block.head (entries_in 0 block.entries) first in absurd (omega (arith, less))
      | inr some ↦ some
    ] in
    let run : IsRun g.nonce content sequence block.head n (take (24 * n) block.entries) = record {
      fits = let size = length-take (24 * n) block.entries in omega (arith, size);
      sectors = λ i below. subst (λ (part : List Entry). IsSector g.nonce i (sector i content) sequence block.head part) (sym (in_front n i block.entries below)) (found.2 i below);
    } in (
      n,
      some,
      found.1,
      elim (cases_lt n 8) [
        | inl ended ↦ (
          false,
          prefix_partial g.nonce content sequence block.head n (take (24 * n) block.entries) some ended run
              (λ more longer. let less = found.3 ended sequence block.head (entries_in n more) (longer.sectors n (omega arith)) in absurd (omega (arith, less))),
        )
        | inr all ↦ let eight : n ≡ 8 = omega (arith, all, found.1) in (
          true,
          prefix_whole g.nonce content sequence block.head (take (24 * n) block.entries)
              (subst (λ (k : ℕ). IsRun g.nonce content sequence block.head k (take (24 * n) block.entries)) eight run),
        )
      ],
    )

-- The window of each image.

pub window_at_rest : (opening : Blocks) (log : List Call) (g : Geometry) (start : ℕ) (blocks : List Sealed) (image : Blocks) (last : ℕ) → 1 + g.journal ≤ length opening
    → IsAtRest opening log g start blocks → IsImage opening log image → last + 1 ≡ next_of start blocks → IsWindow g start (journal_of g image) last (window_of start blocks)
window_at_rest opening log g start blocks image last inside rest is at =
    let some = ring_has_slots g start blocks rest.ring in
    shown_window g (journal_of g image) start last blocks rest.ring at (whole_shown opening log g start image inside is (head_of start blocks) blocks some rest.whole)
    (λ sequence head later there. not_there g (journal_of g image) (next_of start blocks)
    (λ slot below. none_shown opening log g start image inside is (next_of start blocks) slot below (rest.none slot below)) some sequence head later there)

-- While the next block is under way: its slot, and the others
module _ (g : Geometry) (journal : Blocks) (start : ℕ) (blocks : List Sealed) (block : Sealed) (some : 0 < g.journal)
    (others : (slot : ℕ) → slot < g.journal → (slot ≡ journal_slot_of g (next_of start blocks) → ⊥) → NoneIn g journal (next_of start blocks) slot) where
  -- where its first sector isn't there, nothing is as late
  none_as_late : IsEarlier g (next_of start blocks) 0 (sector 0 (in_slot g journal (next_of start blocks)))
      → (sequence head : ℕ) → next_of start blocks ≤ sequence → IsThere g journal sequence head → ⊥
  none_as_late old sequence head later there = elim (eqb_tells (journal_slot_of g sequence) (journal_slot_of g (next_of start blocks))) [
    | inl same ↦ let less = old sequence head there.0 (subst (λ (s : ℕ). IsSector g.nonce 0 (sector 0 (get_or journal s zero_block)) sequence head there.0) same.1 there.1) in
        omega (arith, less, later)
    | inr apart ↦ let less = others (journal_slot_of g sequence) (mod-lt sequence some) apart.1 0 (omega arith) sequence head there.0 there.1 in omega (arith, less, later)
  ]

  -- where it is, nothing is later
  none_past : IsSector g.nonce 0 (sector 0 (in_slot g journal (next_of start blocks))) (next_of start blocks) block.head (entries_in 0 block.entries)
      → (sequence head : ℕ) → next_of start blocks < sequence → IsThere g journal sequence head → ⊥
  none_past new sequence head later there = elim (eqb_tells (journal_slot_of g sequence) (journal_slot_of g (next_of start blocks))) [
    | inl same ↦
        let one = one_reading g.nonce 0 (sector 0 (in_slot g journal (next_of start blocks))) (next_of start blocks) block.head sequence head (entries_in 0 block.entries) there.0 new
        (subst (λ (s : ℕ). IsSector g.nonce 0 (sector 0 (get_or journal s zero_block)) sequence head there.0) same.1 there.1) in
        let equal = one.0 in omega (arith, later, equal)
    | inr apart ↦ let less = others (journal_slot_of g sequence) (mod-lt sequence some) apart.1 0 (omega arith) sequence head there.0 there.1 in omega (arith, less, later)
  ]

  front_replayable : (n : ℕ) (whole : Bool) → IsSealed g start blocks block → AreShown g journal start block.head blocks → start ≤ block.head
      → IsPrefix g.nonce (in_slot g journal (next_of start blocks)) (next_of start blocks) block.head (take (24 * n) block.entries) whole
      → AreReplayable g journal (next_of start blocks) block.head (lists_of (since start block.head (front_of n block ∷ blocks)))
  front_replayable n whole is shown low prefix =
      let next = next_of start blocks in
      let k = next - block.head in
      let below : block.head ≤ next = is.holds.head_below in
      let all : next_of start (front_of n block ∷ blocks) - block.head ≡ suc k = omega (arith, below) in
      let count : length (lists_of (take k blocks)) ≡ k = length-map (take k blocks) (λ (b : Sealed). b.entries) ∙ length-take-le k blocks (omega (arith, low)) in
      let here : next ≡ block.head + length (lists_of (take k blocks)) = omega (arith, below, count) in
      let this : IsReplayable g journal next next (take (24 * n) block.entries) = record {
        whole = whole;
        has = (block.head, prefix);
        complete = λ earlier. absurd (omega (arith, earlier));
        each = All-take (IsOfImage g) (24 * n) block.entries is.each;
      } in
      subst (λ (count : ℕ). AreReplayable g journal next block.head (lists_of (take count (front_of n block ∷ blocks)))) (sym all) (
        subst (λ (sequence : ℕ). IsReplayable g journal next sequence (take (24 * n) block.entries)) here this,
        some_replayable g journal start next block.head k blocks (omega (arith, below)) (omega (arith, low)) shown,
      )

  -- its front is there
  front_window : (n : ℕ) (whole : Bool) → IsRing g start blocks → IsSealed g start blocks block → AreShown g journal start (head_of start blocks) blocks
      → IsSector g.nonce 0 (sector 0 (in_slot g journal (next_of start blocks))) (next_of start blocks) block.head (entries_in 0 block.entries)
      → IsPrefix g.nonce (in_slot g journal (next_of start blocks)) (next_of start blocks) block.head (take (24 * n) block.entries) whole
      → IsWindow g start journal (next_of start blocks) (window_of start (front_of n block ∷ blocks))
  front_window n whole ring is shown new prefix =
      let next = next_of start blocks in
      let low : start ≤ block.head = omega (arith, ring.head, is.rises) in
      let below : block.head ≤ next = is.holds.head_below in
      record {
        is_last = record {
          there = inr (omega arith, omega (arith, is.reach), (block.head, (entries_in 0 block.entries, new)));
          none = λ sequence head reached later reach there. none_past new sequence head later there;
        };
        first = block.head;
        is_first = inr (omega arith, (entries_in 0 block.entries, new));
        blocks = lists_of (since start block.head (front_of n block ∷ blocks));
        count = let count = since_count start block.head (front_of n block ∷ blocks) low (omega (arith, below)) in omega (arith, count);
        replayable = front_replayable n whole is (shown_since g journal start (head_of start blocks) block.head blocks is.rises shown) low prefix;
        entries = refl;
      }

-- The window then has the committed blocks, or these and the front of the one under way.
pub window_under_way : (opening : Blocks) (log : List Call) (g : Geometry) (start : ℕ) (blocks : List Sealed) (block : Sealed) (image : Blocks) (last : ℕ) → 1 + g.journal ≤ length opening
    → IsUnderWay opening log g start blocks block → IsImage opening log image → last + 1 ≡ next_of start blocks
    → IsWindow g start (journal_of g image) last (window_of start blocks)
    ⊎ ((n : ℕ) × (1 ≤ n) × (n ≤ 8) × IsWindow g start (journal_of g image) (last + 1) (window_of start (front_of n block ∷ blocks)))
window_under_way opening log g start blocks block image last inside way is at =
    let journal = journal_of g image in
    let next = next_of start blocks in
    let some = ring_has_slots g start blocks way.ring in
    let shown = whole_shown opening log g start image inside is (head_of start blocks) blocks some way.whole in
    let others : (slot : ℕ) → slot < g.journal → (slot ≡ journal_slot_of g next → ⊥) → NoneIn g journal next slot =
    λ slot below apart. none_shown opening log g start image inside is next slot below (way.none slot below apart) in
    let torn = torn_shown opening log g start image inside is next block some way.here in
    elim (torn 0 (omega arith)) [
      | inl new ↦
          let found = front_prefix g next block (in_slot g journal next) torn new in
          inr (
            found.0,
            found.1,
            found.2,
            subst (λ (n : ℕ). IsWindow g start journal n (window_of start (front_of found.0 block ∷ blocks))) (sym at)
                (front_window g journal start blocks block some others found.0 found.3.0 way.ring way.is_sealed shown new found.3.1),
          )
      | inr old ↦ inl (shown_window g journal start last blocks way.ring at shown (none_as_late g journal start blocks block some others old))
    ]

-- Nothing in an image is from a later time.

pub rest_of_its_time : (opening : Blocks) (log : List Call) (g : Geometry) (start : ℕ) (blocks : List Sealed) (image : Blocks) → 1 + g.journal ≤ length opening
    → IsAtRest opening log g start blocks → IsImage opening log image → (slot number sequence head : ℕ) (entries : List Entry) → slot < g.journal → number < 8
    → IsSector g.nonce number (sector number (get_or (journal_of g image) slot zero_block)) sequence head entries → sequence < next_of start blocks
rest_of_its_time opening log g start blocks image inside rest is slot number sequence head entries below small has =
    none_shown opening log g start image inside is (next_of start blocks) slot below (rest.none slot below) number small sequence head entries has

pub way_of_its_time : (opening : Blocks) (log : List Call) (g : Geometry) (start : ℕ) (blocks : List Sealed) (block : Sealed) (image : Blocks) → 1 + g.journal ≤ length opening
    → IsUnderWay opening log g start blocks block → IsImage opening log image → (slot number sequence head : ℕ) (entries : List Entry) → slot < g.journal → number < 8
    → IsSector g.nonce number (sector number (get_or (journal_of g image) slot zero_block)) sequence head entries → sequence ≤ next_of start blocks
way_of_its_time opening log g start blocks block image inside way is slot number sequence head entries below small has =
    let next = next_of start blocks in
    let journal = journal_of g image in
    elim (eqb_tells slot (journal_slot_of g next)) [
      | inl same ↦
          let here = subst (λ (s : ℕ). IsSector g.nonce number (sector number (get_or journal s zero_block)) sequence head entries) same.1 has in
          elim (torn_shown opening log g start image inside is next block (ring_has_slots g start blocks way.ring) way.here number small) [
            | inl new ↦
                let one = one_reading g.nonce number (sector number (in_slot g journal next)) next block.head sequence head (entries_in number block.entries) entries new here in
                let equal = one.0 in omega (arith, equal)
            | inr old ↦ let less = old sequence head entries here in omega (arith, less)
          ]
      | inr apart ↦
          let less = none_shown opening log g start image inside is next slot below (way.none slot below apart.1) number small sequence head entries has in omega (arith, less)
    ]

-- An image in which nothing is as late as the first sequence is at rest, with no block.
pub begins_anew : (image : Blocks) (g : Geometry) (start : ℕ) → 1 ≤ start → 0 < g.journal
    → ((slot number sequence head : ℕ) (entries : List Entry) → slot < g.journal → number < 8
    → IsSector g.nonce number (sector number (get_or (journal_of g image) slot zero_block)) sequence head entries → sequence < start)
    → IsAtRest image [] g start []
begins_anew image g start some slots none = record {
  some = some;
  ring = record { head = omega arith; newest = λ more. absurd (omega (arith, more)); ring = omega (arith, slots); reach = omega arith };
  whole = tt;
  none = λ slot below. (
    λ number small sequence head entries is.
        let here = none slot number sequence head entries below small (subst (λ (block : List ℕ). IsSector g.nonce number (sector number block) sequence head entries) (sym (slot_there g image slot below)) is) in
        omega (arith, here),
    tt,
  );
}

-- Each block from the head on stands whole in each image.

module _ (g : Geometry) (journal : Blocks) (start from : ℕ) (block : Sealed) (older : List Sealed) where
  among : (newer : List Sealed) → from ≤ next_of start older → AreShown g journal start from (newer ++ (block ∷ older)) → IsWhole g (next_of start older) block (in_slot g journal (next_of start older))
  among [] reached shown = (shown.0 reached).2
  among (other ∷ newer) reached shown = among newer reached shown.1

pub stands_at_rest : (opening : Blocks) (log : List Call) (g : Geometry) (start : ℕ) (newer : List Sealed) (block : Sealed) (older : List Sealed) (image : Blocks) → 1 + g.journal ≤ length opening
    → IsAtRest opening log g start (newer ++ (block ∷ older)) → IsImage opening log image → head_of start (newer ++ (block ∷ older)) ≤ next_of start older
    → IsWhole g (next_of start older) block (in_slot g (journal_of g image) (next_of start older))
stands_at_rest opening log g start newer block older image inside rest is reached =
    let blocks = newer ++ (block ∷ older) in
    among g (journal_of g image) start (head_of start blocks) block older newer reached
    (whole_shown opening log g start image inside is (head_of start blocks) blocks (ring_has_slots g start blocks rest.ring) rest.whole)

pub stands_under_way : (opening : Blocks) (log : List Call) (g : Geometry) (start : ℕ) (newer : List Sealed) (block : Sealed) (older : List Sealed) (next : Sealed) (image : Blocks) → 1 + g.journal ≤ length opening
    → IsUnderWay opening log g start (newer ++ (block ∷ older)) next → IsImage opening log image → head_of start (newer ++ (block ∷ older)) ≤ next_of start older
    → IsWhole g (next_of start older) block (in_slot g (journal_of g image) (next_of start older))
stands_under_way opening log g start newer block older next image inside way is reached =
    let blocks = newer ++ (block ∷ older) in
    among g (journal_of g image) start (head_of start blocks) block older newer reached
    (whole_shown opening log g start image inside is (head_of start blocks) blocks (ring_has_slots g start blocks way.ring) way.whole)

-- An image after a stop, opened with a later first sequence than any in it.

pub anew_at_rest : (opening : Blocks) (log : List Call) (g : Geometry) (start : ℕ) (blocks : List Sealed) (image : Blocks) (later : ℕ) → 1 + g.journal ≤ length opening
    → IsAtRest opening log g start blocks → IsImage opening log image → next_of start blocks ≤ later → IsAtRest image [] g later []
anew_at_rest opening log g start blocks image later inside rest is after =
    begins_anew image g later (omega (arith, after, rest.some)) (ring_has_slots g start blocks rest.ring)
    (λ slot number sequence head entries below small has.
    let less = rest_of_its_time opening log g start blocks image inside rest is slot number sequence head entries below small has in omega (arith, less, after))

pub anew_under_way : (opening : Blocks) (log : List Call) (g : Geometry) (start : ℕ) (blocks : List Sealed) (block : Sealed) (image : Blocks) (later : ℕ) → 1 + g.journal ≤ length opening
    → IsUnderWay opening log g start blocks block → IsImage opening log image → next_of start blocks < later → IsAtRest image [] g later []
anew_under_way opening log g start blocks block image later inside way is after =
    begins_anew image g later (omega (arith, after)) (ring_has_slots g start blocks way.ring)
    (λ slot number sequence head entries below small has.
    let at_most = way_of_its_time opening log g start blocks block image inside way is slot number sequence head entries below small has in omega (arith, at_most, after))
