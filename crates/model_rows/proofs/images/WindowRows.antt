-- Windows: for each clause a journal of eight slots that it accepts, and one that it refuses.
use Rattle.std.proofs.Common.{ℕ, ◌≡◌, ◌+◌, ◌/◌, ◌%◌, ◌<◌, ◌≤◌, ◌^◌, true, false, List, [], ◌∷◌, ◌++◌, length, replicate, take, drop, refl, sym, ◌∙◌, ap, get_or, subst, inl, inr, arith}
use Rattle.std.proofs.Math.Nat.{mod-lt}
use Rattle.std.proofs.lemmas.List.Elements.{All-head}
use Rattle.blk_base.specs.Sectors.{sector, zero_block}
use Rattle.blk_base.specs.Regions.{IsDataBlock}
use Rattle.blk_base.specs.declared.journal_entry.CommittedEntry.{CommittedEntry}
use Rattle.blk_base.specs.declared.journal_entry.Entry.{Entry}
use Rattle.blk_base.specs.declared.journal_entry.Entry.TheVariants.{Remap, NewPage}
use Rattle.blk_base.specs.declared.place.Mapping.TheVariants.{Unmapped, Zero, At}
use Rattle.blk_base.specs.declared.place.PageId.{PageId}
use Rattle.blk_base.specs.Forms.{pbn}
use Rattle.blk_base.proofs.Example.{maps, entry_at as at}
use Rattle.journal_codec.specs.Grammar.{IsPrefix, IsSector}
use Rattle.journal_codec.specs.BlockBytes.{entries_in}
use Rattle.journal_codec.proofs.PrefixLaws.{ends-none, one_prefix, prefix_partial, run-first, written_prefix}
use Rattle.journal_codec.proofs.ReadLaws.{fields_of, length-sector_bytes}
use Rattle.byte_fields.specs.Fields.{number_at}
use Rattle.std.proofs.Math.Seq.{drop-append_seam}
use Rattle.std.proofs.lemmas.List.{take-append-le, take_all}
use Rattle.image_model.specs.Windows.{in_slot, IsThere, IsLast, IsFirst, IsOfImage, IsReplayable, entries_from, IsWindow, IsFaulty}
use Rattle.image_model.proofs.Example.{small, one, block, holds, has_sector, only_sector, zeros}
use Rattle.image_model.proofs.ZeroLaws.{of_eight}
use Rattle.image_model.proofs.WindowLaws.{one_window, one_last, one_fault, not_both}
use Rattle.image_model.proofs.ReadExample.{zero_journal, none_there}
use Rattle.image_model.proofs.WindowExample.{data_86, each_is}

-- A journal whose first session began with sequence 1: blocks 1 to 3, of which the last names the head 2.
abbrev journal : List (List ℕ)
journal = zero_block ∷ block 1 1 ∷ block 2 1 ∷ block 3 2 ∷ zero_block ∷ zero_block ∷ zero_block ∷ zero_block ∷ []

-- what stands in its slots: nothing later than 3, and of each sequence its own block alone
abbrev NoneLater : List (List ℕ) → ℕ → ℕ → Type 0
NoneLater blocks last k = (s h : ℕ) (entries : List Entry) → last < s → IsSector 1 0 (sector 0 (get_or blocks k zero_block)) s h entries → ⊥

none_in_zeros : (last : ℕ) (s h : ℕ) (entries : List Entry) → last < s → IsSector 1 0 (sector 0 zero_block) s h entries → ⊥
none_in_zeros last s h entries later is = zeros 1 s h entries is

none_in_block : (n head last : ℕ) → 1 ≤ n → n < 2 ^ 55 → head ≤ n → n ≤ last → (s h : ℕ) (entries : List Entry) → last < s
    → IsSector 1 0 (sector 0 (block n head)) s h entries → ⊥
none_in_block n head last some below oldest within s h entries later is =
    let same = (only_sector n head s h entries some below oldest is).0 in omega (arith, within, later, same)

none_later : (last : ℕ) → 3 ≤ last → (s h : ℕ) → last < s → IsThere small journal s h → ⊥
none_later last at_least s h later there =
    of_eight (λ k. (s h : ℕ) (entries : List Entry) → last < s → IsSector 1 0 (sector 0 (get_or journal k zero_block)) s h entries → ⊥)
    (none_in_zeros last)
    (none_in_block 1 1 last (omega arith) (omega arith) (omega arith) (omega (arith, at_least)))
    (none_in_block 2 1 last (omega arith) (omega arith) (omega arith) (omega (arith, at_least)))
    (none_in_block 3 2 last (omega arith) (omega arith) (omega arith) (omega (arith, at_least)))
    (none_in_zeros last) (none_in_zeros last) (none_in_zeros last) (none_in_zeros last)
    (s % 8) (mod-lt s (omega arith)) s h there.0 later there.1

there_3 : IsThere small journal 3 2
there_3 = (one, has_sector 3 2 (omega arith) (omega arith) (omega arith))

-- The last sequence is 3.
last_is : IsLast small 1 journal 3
last_is = record {
  there = inr (omega arith, omega arith, (2, there_3));
  none = λ s h from later below there. none_later 3 (omega arith) s h later there;
}

-- there: 4 isn't in its slot
last_is_there : IsLast small 1 journal 4 → ⊥
last_is_there is = let same = one_last small 1 journal 4 3 is last_is in omega (arith, same)

last_is_there_alone : (s h : ℕ) → 4 < s → IsThere small journal s h → ⊥
last_is_there_alone s h later there = none_later 4 (omega arith) s h later there

-- none: 2 is in its slot, but isn't the greatest
last_is_greatest : IsLast small 1 journal 2 → ⊥
last_is_greatest is = is.none 3 2 (omega arith) (omega arith) (omega arith) there_3

-- there: a journal without blocks has none, and the last sequence is the one before the first
last_of_none : IsLast small 7 zero_journal 6
last_of_none = record { there = inl refl; none = λ s h from later below there. none_there s h there }

-- none: a block of another slot than its own isn't there, and one that is 2^32 past the first sequence isn't in reach
abbrev misplaced : List (List ℕ)
misplaced = block 1 1 ∷ zero_block ∷ zero_block ∷ zero_block ∷ zero_block ∷ zero_block ∷ zero_block ∷ zero_block ∷ []

last_of_misplaced : IsLast small 1 misplaced 0
last_of_misplaced = record {
  there = inl refl;
  none = λ s h from later below there.
      of_eight (λ k. (s h : ℕ) (entries : List Entry) → s % 8 ≡ k → IsSector 1 0 (sector 0 (get_or misplaced k zero_block)) s h entries → ⊥)
      (λ s h entries here is. let same = (only_sector 1 1 s h entries (omega arith) (omega arith) (omega arith) is).0 in
      let one_is : 1 ≡ 0 = ap (λ (n : ℕ). n % 8) same ∙ here in omega (arith, one_is))
      (λ s h entries here is. zeros 1 s h entries is) (λ s h entries here is. zeros 1 s h entries is)
      (λ s h entries here is. zeros 1 s h entries is) (λ s h entries here is. zeros 1 s h entries is)
      (λ s h entries here is. zeros 1 s h entries is) (λ s h entries here is. zeros 1 s h entries is)
      (λ s h entries here is. zeros 1 s h entries is)
      (s % 8) (mod-lt s (omega arith)) s h there.0 refl there.1;
}

abbrev far : List (List ℕ)
far = zero_block ∷ block 4294967297 1 ∷ zero_block ∷ zero_block ∷ zero_block ∷ zero_block ∷ zero_block ∷ zero_block ∷ []

last_out_of_reach : IsLast small 1 far 0
last_out_of_reach = record {
  there = inl refl;
  none = λ s h from later below there.
      of_eight (λ k. (s h : ℕ) (entries : List Entry) → s < 1 + 2 ^ 32 → IsSector 1 0 (sector 0 (get_or far k zero_block)) s h entries → ⊥)
      (λ s h entries near is. zeros 1 s h entries is)
      (λ s h entries near is. let same = (only_sector 4294967297 1 s h entries (omega arith) (omega arith) (omega arith) is).0 in omega (arith, near, same))
      (λ s h entries near is. zeros 1 s h entries is) (λ s h entries near is. zeros 1 s h entries is)
      (λ s h entries near is. zeros 1 s h entries is) (λ s h entries near is. zeros 1 s h entries is)
      (λ s h entries near is. zeros 1 s h entries is) (λ s h entries near is. zeros 1 s h entries is)
      (s % 8) (mod-lt s (omega arith)) s h there.0 below there.1;
}

-- with the first sequence 2 it is in reach
last_in_reach : IsLast small 2 far 1 → ⊥
last_in_reach is = is.none 4294967297 1 (omega arith) (omega arith) (omega arith) (one, has_sector 4294967297 1 (omega arith) (omega arith) (omega arith))

-- The first sequence is the head of the last block, and none other; without a block it is the one behind the last.
first_is : IsFirst small 1 journal 3 2
first_is = inr (omega arith, there_3)

first_is_head : IsFirst small 1 journal 3 1 → ⊥
first_is_head (inl none) = let behind = none.0 in omega (arith, behind)
first_is_head (inr some) =
    let same = (only_sector 3 2 3 1 some.1.0 (omega arith) (omega arith) (omega arith) some.1.1).1 in omega (arith, same)

first_of_none : IsFirst small 7 zero_journal 6 7
first_of_none = inl (refl, refl)

first_of_none_is : IsFirst small 7 zero_journal 6 6 → ⊥
first_of_none_is (inl none) = let same = none.1 in omega (arith, same)
first_of_none_is (inr some) = let from = some.0 in omega (arith, from)

no_data_84 : IsDataBlock small 84 → ⊥
no_data_84 is = let stands = is.stands in omega (arith, stands)

no_data_149 : IsDataBlock small 149 → ⊥
no_data_149 is = let stands = is.stands in let inside = is.inside in omega (arith, stands, inside)

entry_is : IsOfImage small (Remap (record { 0 = 999 }) (At (pbn 86)) (At (pbn 86)))
entry_is = (omega arith, data_86, data_86)

entry_of_no_block : IsOfImage small (Remap (record { 0 = 999 }) Unmapped Zero)
entry_of_no_block = (omega arith, tt, tt)

entry_past_size : IsOfImage small (Remap (record { 0 = 1000 }) Unmapped Zero) → ⊥
entry_past_size is = let below = is.0 in omega (arith, below)

entry_new_is_data : IsOfImage small (Remap (record { 0 = 999 }) Unmapped (At (pbn 84))) → ⊥
entry_new_is_data is = no_data_84 is.2

entry_old_is_data : IsOfImage small (Remap (record { 0 = 999 }) (At (pbn 149)) Unmapped) → ⊥
entry_old_is_data is = no_data_149 is.1

-- the leaf of the addresses 812 to 1623 is that of tree 1; at a logical size of 1000 the others are on no path
abbrev leaf : ℕ → PageId
leaf tree = record { tree = tree; level = 0; index = 0 }

page_is : IsOfImage small (NewPage (leaf 1) (pbn 86))
page_is = (record { address = 999; inside = omega arith; level = omega arith; there = refl }, data_86)

page_block_is_data : IsOfImage small (NewPage (leaf 1) (pbn 84)) → ⊥
page_block_is_data is = no_data_84 is.1

page_on_no_path : IsOfImage small (NewPage (leaf 2) (pbn 86)) → ⊥
page_on_no_path is =
    let below = is.0.inside in
    let tree : 2 ≡ is.0.address / 812 % 60 = ap (λ (p : PageId). p.tree) is.0.there in
    omega (arith, below, tree)

page_is_root : IsOfImage small (NewPage (record { tree = 1; level = 1; index = 0 }) (pbn 86)) → ⊥
page_is_root is = let level = is.0.level in omega (arith, level)

-- The block of a sequence can be replayed.
abbrev torn : List ℕ
torn = sector 0 (block 2 1) ++ replicate 3584 0

first_size : length (sector 0 (block 2 1)) ≡ 512
first_size = ap length (has_sector 2 1 (omega arith) (omega arith) (omega arith)).spelled ∙ length-sector_bytes 1 2 1 0 one (omega arith)

-- of this block a stop has left sector 0 alone
torn_front : sector 0 torn ≡ sector 0 (block 2 1)
torn_front = take-append-le 512 (sector 0 (block 2 1)) (replicate 3584 0) (omega (arith, first_size)) ∙ take_all 512 (sector 0 (block 2 1)) (omega (arith, first_size))

torn_behind : sector 1 torn ≡ replicate 512 0
torn_behind =
    ap (λ (n : ℕ). take 512 (drop n torn)) (sym first_size)
    ∙ ap (take 512) (drop-append_seam (sector 0 (block 2 1)) (replicate 3584 0))

no_sequence : (number : ℕ) (bytes : List ℕ) (s h : ℕ) (entries : List Entry) → number_at 8 8 bytes ≡ 0 → IsSector 1 number bytes s h entries → ⊥
no_sequence number bytes s h entries none is =
    let said = (fields_of 1 number bytes s h entries is).sequence in let named = is.named.0 in omega (arith, none, said, named)

zero_sequence : number_at 8 8 (replicate 512 0) ≡ 0
unfolding number_at
zero_sequence = refl

torn_sector : IsSector 1 0 (sector 0 torn) 2 1 one
torn_sector = subst (λ (bytes : List ℕ). IsSector 1 0 bytes 2 1 one) (sym torn_front) (has_sector 2 1 (omega arith) (omega arith) (omega arith))

torn_prefix : IsPrefix 1 torn 2 1 one false
torn_prefix =
    prefix_partial 1 torn 2 1 1 one (omega arith) (omega arith) (run-first 1 torn 2 1 one torn_sector)
    (λ more run. ends-none 1 torn 2 1 1 more (λ s h entries is. no_sequence 1 (sector 1 torn) s h entries (ap (number_at 8 8) torn_behind ∙ zero_sequence) is) run)

torn_journal : List (List ℕ)
torn_journal = zero_block ∷ block 1 1 ∷ torn ∷ block 3 2 ∷ []

replayable_at : (n head : ℕ) → 1 ≤ n → n < 2 ^ 55 → head ≤ n → IsPrefix 1 (in_slot small journal n) n head one true → IsReplayable small journal 3 n one
replayable_at n head some below oldest is = record { whole = true; has = (head, is); complete = λ earlier. refl; each = each_is }

replayable : IsReplayable small journal 3 2 one
replayable = replayable_at 2 1 (omega arith) (omega arith) (omega arith) (written_prefix 1 2 1 one (holds 2 1 (omega arith) (omega arith) (omega arith)))

replayable_3 : IsReplayable small journal 3 3 one
replayable_3 = replayable_at 3 2 (omega arith) (omega arith) (omega arith) (written_prefix 1 3 2 one (holds 3 2 (omega arith) (omega arith) (omega arith)))

-- has: it has its own entries, and no others
replayable_has : IsReplayable small journal 3 2 [] → ⊥
replayable_has is =
    let same = (one_prefix 1 (block 2 1) 2 is.has.0 2 1 [] one is.whole true is.has.1 (written_prefix 1 2 1 one (holds 2 1 (omega arith) (omega arith) (omega arith)))).2 in
    let size = ap length same in omega (arith, size)

-- has: block 4 isn't there
replayable_there : (entries : List Entry) → IsReplayable small journal 4 4 entries → ⊥
replayable_there entries is =
    zeros 1 4 is.has.0 (entries_in 0 entries) (is.has.1.run.sectors 0 (let range = is.has.1.range in omega (arith, range)))

-- complete: of the last block a part is enough, of an earlier one it isn't
complete_last : IsReplayable small torn_journal 2 2 one
unfolding torn_journal
complete_last = record { whole = false; has = (1, torn_prefix); complete = λ earlier. absurd (omega (arith, earlier)); each = each_is }

complete_earlier : (entries : List Entry) → IsReplayable small torn_journal 3 2 entries → ⊥
unfolding torn_journal
complete_earlier entries is =
    let same : is.whole ≡ false = (one_prefix 1 torn 2 is.has.0 2 1 entries one is.whole false is.has.1 torn_prefix).3 in
    absurd (let complete = is.complete (omega arith) in cc)

-- each: at a logical size of 5 the address 5 isn't of the image
each_below : IsReplayable (record small { logical = 5 }) journal 3 2 one → ⊥
each_below is = let below = (All-head (IsOfImage (record small { logical = 5 })) (maps 86) [] is.each).0 in omega (arith, below)

-- The entries of a window: the newest first, each with its point. Block 3 has two, block 2 one.
order_is : entries_from 2 ((maps 87 ∷ maps 88 ∷ []) ∷ (maps 86 ∷ []) ∷ []) ≡
    record { entry = maps 88; point = record { 0 = 1538 } } ∷ record { entry = maps 87; point = record { 0 = 1536 } } ∷ record { entry = maps 86; point = record { 0 = 1024 } } ∷ []
order_is = refl

-- The window of the journal above: the entries of blocks 2 and 3.
window_is : IsWindow small 1 journal 3 (at 1536 ∷ at 1024 ∷ [])
window_is = record {
  is_last = last_is;
  first = 2;
  is_first = first_is;
  blocks = one ∷ one ∷ [];
  count = refl;
  replayable = (replayable_3, (replayable, tt));
  entries = refl;
}

-- is_first: not those before the head
window_from_head : IsWindow small 1 journal 3 (at 1536 ∷ at 1024 ∷ at 512 ∷ []) → ⊥
window_from_head is =
    let same = (one_window small 1 journal 3 3 (at 1536 ∷ at 1024 ∷ at 512 ∷ []) (at 1536 ∷ at 1024 ∷ []) is window_is).1 in
    let size = ap length same in omega (arith, size)

-- entries: not the oldest first
window_newest_first : IsWindow small 1 journal 3 (at 1024 ∷ at 1536 ∷ []) → ⊥
window_newest_first is =
    let same = (one_window small 1 journal 3 3 (at 1024 ∷ at 1536 ∷ []) (at 1536 ∷ at 1024 ∷ []) is window_is).1 in
    let first : 1024 ≡ 1536 = ap (λ (window : List CommittedEntry). (get_or window 0 (at 0)).point.0) same in omega (arith, first)

-- is_last: with the last sequence before the first it is empty
window_of_none : IsWindow small 7 zero_journal 6 []
window_of_none = record { is_last = last_of_none; first = 7; is_first = first_of_none; blocks = []; count = refl; replayable = tt; entries = refl }

-- There is none where a block is missing, and the first such block is named.
abbrev gap : List (List ℕ)
gap = zero_block ∷ zero_block ∷ zero_block ∷ block 3 1 ∷ zero_block ∷ zero_block ∷ zero_block ∷ zero_block ∷ []

none_in_gap : (s h : ℕ) → 3 < s → IsThere small gap s h → ⊥
none_in_gap s h later there =
    of_eight (λ k. (s h : ℕ) (entries : List Entry) → 3 < s → IsSector 1 0 (sector 0 (get_or gap k zero_block)) s h entries → ⊥)
    (none_in_zeros 3) (none_in_zeros 3) (none_in_zeros 3)
    (none_in_block 3 1 3 (omega arith) (omega arith) (omega arith) (omega arith))
    (none_in_zeros 3) (none_in_zeros 3) (none_in_zeros 3) (none_in_zeros 3)
    (s % 8) (mod-lt s (omega arith)) s h there.0 later there.1

gap_3 : IsThere small gap 3 1
gap_3 = (one, has_sector 3 1 (omega arith) (omega arith) (omega arith))

faulty_is : IsFaulty small 1 gap 1
faulty_is = record {
  last = 3;
  is_last = record { there = inr (omega arith, omega arith, (1, gap_3)); none = λ s h from later below there. none_in_gap s h later there };
  first = 1;
  is_first = inr (omega arith, gap_3);
  inside = (omega arith, omega arith);
  bad = λ entries is. zeros 1 1 is.has.0 (entries_in 0 entries) (is.has.1.run.sectors 0 (let range = is.has.1.range in omega (arith, range)));
  good = λ earlier from before. absurd (omega (arith, from, before));
}

-- good: 2 is missing too, but not first
faulty_is_first : IsFaulty small 1 gap 2 → ⊥
faulty_is_first is = let same = one_fault small 1 gap 2 1 is faulty_is in omega (arith, same)

-- bad, inside: neither a block that can be replayed nor one that isn't of the window
faulty_is_bad : (sequence : ℕ) → IsFaulty small 1 journal sequence → ⊥
faulty_is_bad sequence is = not_both small 1 journal 3 (at 1536 ∷ at 1024 ∷ []) sequence window_is is
