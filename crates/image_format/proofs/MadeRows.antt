-- For each clause of what is promised of an image that was made a device that it accepts, and one that breaks it alone; and
-- for each definition of the calls that make one.
use Rattle.std.specs.Prelude.{ℕ, ◌≡◌, ◌≢◌, ◌≤◌, ◌<◌, true, false, List, [], ◌∷◌, ◌++◌, length, Ok, Err, refl}
use Rattle.std.proofs.Common.{sym, ◌∙◌, ap, subst, arith, inl, inr, length-append}
use Rattle.std.proofs.lemmas.List.{append-nil}
use Rattle.blk_base.specs.declared.geometry.Geometry.{Geometry}
use Rattle.blk_base.specs.declared.geometry.Super.{Super}
use Rattle.blk_base.specs.declared.place.Pbn.{Pbn}
use Rattle.disk_model.specs.declared.call.Call.{Call}
use Rattle.disk_model.specs.declared.call.Call.TheVariants.{Flush, Read, Write}
use Rattle.disk_model.specs.declared.call.Failed.{Failed}
use Rattle.disk_model.specs.Log.{Blocks, block_at}
use Rattle.disk_model.specs.Seen.{Seen}
use Rattle.disk_model.proofs.OneImageLaws.{one_image-is_image, one_image-opening, one_image-unique}
use Rattle.image_layout.specs.Opened.{super_of_image}
use Rattle.image_layout.specs.Superblock.{super_block}
use Rattle.image_model.proofs.EmptyLaws.{is_unused}
use Rattle.image_model.proofs.Example.{small, small_is}
use Rattle.image_model.specs.Empty.{IsEmpty, empty_root, empty_super}
use Rattle.blk_base.specs.Sectors.{zero_block}
use Rattle.image_format.proofs.AfterLaws.{made_is}
use Rattle.image_format.proofs.FormatRows.{first_data}
use Rattle.image_format.specs.Calls.{calls_below, clear_calls, closing_calls, format_calls, put, roots_below, slab_calls, super_calls, zeros_from}
use Rattle.image_format.specs.Formats.{IsMade}
use Rattle.image_format.specs.Runs.{Makes, OneFailed, WereMade, as_failed}

-- a device that opened with these blocks, and to which nothing was done
abbrev pub opened_with : Blocks → Seen
opened_with blocks = record { opening = blocks; size = length blocks; log = []; faults = 0; unkept = 0 }

-- IsMade: of a device with other blocks before, once all calls were made
module _ (old : Blocks) (whole : (b : ℕ) → b < length old → length (block_at old b) ≡ 4096) (room : 154 ≤ length old) where
  abbrev pub made : Seen
  made = record (opened_with old) { log = format_calls small }

  pub is_made : IsMade small old made
  is_made =
      let is = made_is old whole old [] (one_image-opening old whole) small small_is (omega arith) room (format_calls small) (sym (append-nil (format_calls small))) in
      record { image = is.0; stands = is.1; empty = is.2; unused = is_unused small is.0 is.2; data_kept = is.3 }

  -- stands: another write isn't flushed yet
  one_write_more : (bytes : List ℕ) → bytes ≢ super_block (empty_super small) → ¬ IsMade small old (record made { log = put 0 bytes ∷ format_calls small })
  one_write_more bytes differs is = let only = is.stands.only 0 (omega (arith, room)) in differs (only.0 ∙ sym only.1.0)

-- Of a device that has an empty image from the start. The clause `unused` follows from `empty` by a law, so nothing breaks it alone.
module _ (blocks : Blocks) (whole : (b : ℕ) → b < length blocks → length (block_at blocks b) ≡ 4096) where
  its_image : (g : Geometry) (old : Blocks) → (is : IsMade g old (opened_with blocks)) → is.image ≡ blocks
  its_image g old is =
      one_image-unique blocks [] blocks is.image (one_image-opening blocks whole) (one_image-is_image blocks [] is.image is.stands)

  already_made : IsEmpty small blocks → IsMade small blocks (opened_with blocks)
  already_made empty = record {
    image = blocks;
    stands = one_image-opening blocks whole;
    empty = empty;
    unused = is_unused small blocks empty;
    data_kept = λ b below kept. refl;
  }

  -- empty: it is one of another nonce
  pub of_another_nonce : IsEmpty (record small { nonce = 2 }) blocks → ¬ IsMade small blocks (opened_with blocks)
  of_another_nonce other is =
      let accepted : super_of_image blocks ≡ Ok (empty_super small) = subst (λ (image : Blocks). super_of_image image ≡ Ok (empty_super small)) (its_image small blocks is) is.empty.accepted in
      let same : empty_super small ≡ empty_super (record small { nonce = 2 }) = cc (accepted, other.accepted) in
      let no' : 1 ≡ 2 = ap (λ (head : Super). head.geometry.nonce) same in
      omega (arith, no')

  -- data_kept: block 85 had something else
  data_changed : (old : Blocks) → 85 < length old → block_at blocks 85 ≢ block_at old 85 → ¬ IsMade small old (opened_with blocks)
  data_changed old inside differs is =
      differs (subst (λ (image : Blocks). block_at image 85 ≡ block_at old 85) (its_image small old is) (is.data_kept 85 inside (inl first_data)))

-- The calls: from the last one back to the first.
two_zeros : zeros_from 5 2 ≡ put 6 zero_block ∷ put 5 zero_block ∷ []
two_zeros = refl

none_below : calls_below (λ n. put n zero_block ∷ []) 0 ≡ []
none_below = refl

two_roots : roots_below small 2 ≡ put 10 (empty_root small 1) ∷ put 9 (empty_root small 0) ∷ []
two_roots = refl

-- blocks 149 to 153: one of counters, and four of the journal
last_of_slab : slab_calls small 0 ≡ zeros_from 149 5
last_of_slab = refl

cleared_first : clear_calls ≡ Flush true ∷ put 0 zero_block ∷ []
cleared_first = refl

superblock_last : super_calls small 1 ≡ Flush true ∷ put 0 (super_block (empty_super small)) ∷ []
superblock_last = refl

-- It comes behind a flush, and before another one.
closing_is : closing_calls small 9 ≡ Flush true ∷ put 0 (super_block (record { geometry = small; clean = true; start = 9 })) ∷ Flush true ∷ []
closing_is = refl

-- Runs of such calls. as_failed: the same call, but it failed
abbrev at : Pbn
at = record { 0 = 7 }

write_as_failed : as_failed (Write at [] true) ≡ Write at [] false
write_as_failed = refl

flush_as_failed : as_failed (Flush true) ≡ Flush false
flush_as_failed = refl

read_as_failed : as_failed (Read at [] true) ≡ Read at [] false
read_as_failed = refl

abbrev two : List Call
two = Flush true ∷ Write at [] true ∷ []

abbrev before : Seen
before = record { opening = []; size = 200; log = []; faults = 3; unkept = 0 }

abbrev after : Seen
after = record before { log = two }

-- WereMade
were_made : WereMade true before after two
were_made = record { stays = record { opening = refl; size = refl }; later = record { faults = omega arith; unkept = omega arith }; logged = λ tells. refl }

nothing_told : WereMade false before before two
nothing_told = record { stays = record { opening = refl; size = refl }; later = record { faults = omega arith; unkept = omega arith }; logged = λ tells. absurd cc }

size_changed : ¬ WereMade true before (record after { size = 201 }) two
size_changed is = omega (arith, is.stays.size)

fewer_faults : ¬ WereMade true before (record after { faults = 2 }) two
fewer_faults is = omega (arith, is.later.faults)

one_not_made : ¬ WereMade true before (record after { log = Write at [] true ∷ [] }) two
one_not_made is = let no' : 1 ≡ 2 = ap (λ (calls : List Call). length calls) (is.logged refl) in omega (arith, no')

-- OneFailed: the flush, after the write
abbrev stopped : Seen
stopped = record before { log = Flush false ∷ Write at [] true ∷ []; faults = 4 }

one_failed : OneFailed true before stopped two
one_failed = record {
  stays = record { opening = refl; size = refl };
  later = record { faults = omega arith; unkept = omega arith };
  rose = omega arith;
  newer = [];
  call = Flush true;
  done = Write at [] true ∷ [];
  parts = refl;
  logged = λ tells. inl refl;
}

no_call_failed : ¬ OneFailed true before (record stopped { faults = 3 }) two
no_call_failed is = omega (arith, is.rose)

of_another_size : ¬ OneFailed true before (record stopped { size = 201 }) two
of_another_size is = omega (arith, is.stays.size)

unkept_fell : ¬ OneFailed true (record before { unkept = 1 }) stopped two
unkept_fell is = omega (arith, is.later.unkept)

none_to_fail : ¬ OneFailed true before stopped []
none_to_fail is = let no' : 0 ≡ length (is.newer ++ (is.call ∷ is.done)) = ap (λ (calls : List Call). length calls) is.parts in let sum = length-append is.newer (is.call ∷ is.done) in omega (arith, no', sum)

nothing_in_its_log : ¬ OneFailed true before (record stopped { log = [] }) two
nothing_in_its_log is = elim (is.logged refl) [
  | inl kept ↦ let no' : 0 ≡ length (as_failed is.call ∷ (is.done ++ [])) = ap (λ (calls : List Call). length calls) kept in omega (arith, no')
  | inr unkept ↦ omega (arith, unkept.1)
]

-- Makes
all_made : (value : Unit {0}) → Makes true before after two (Ok value)
all_made value = were_made

not_all_made : (failed : Failed) → Makes true before stopped two (Err failed)
not_all_made failed = one_failed

no_fault_told : (failed : Failed) → ¬ Makes true before after two (Err failed)
no_fault_told failed is = omega (arith, is.rose)
