-- For each part of the order, a small case: three sparse chapters behind one dense one, of an index of two places.
use Rattle.std.specs.Prelude.{ℕ, ◌≡◌, Bool, true, false, List, [], ◌∷◌, Option, None, Some, refl}
use Rattle.std.proofs.Common.{ap, sym, arith, inl}
use Rattle.std.proofs.lemmas.Bool.{false≢true}
use Rattle.byte_fields.specs.Fields.{number_at}
use Rattle.blk_base.specs.declared.place.Pbn.{Pbn}
use Rattle.blk_base.specs.Forms.{pbn as at}
use Rattle.uds_chapters.specs.declared.entry.Record.{Record}
use Rattle.uds_chapters.specs.Chapters.{Numbered}
use Rattle.index_advice.specs.declared.look.Look.TheVariants.{Known, Nothing, Read}
use Rattle.index_advice.specs.Books.{Book}
use Rattle.sparse_index.specs.Hooks.{hooks_of, is_hook}
use Rattle.sparse_index.specs.Orders.{dense_count, sparse_record}
use Rattle.sparse_index.specs.Lookups.{Answers, SparseIndex, after_page, block_to_ask, cached_after, used, with_used}

-- a name whose byte 0 is its tag, and whose byte 8 tells hooks
abbrev name : ℕ → ℕ → List ℕ
name tag eighth = tag ∷ 0 ∷ 0 ∷ 0 ∷ 0 ∷ 0 ∷ 0 ∷ 0 ∷ eighth ∷ []

abbrev one : ℕ → ℕ → ℕ → Record
one tag eighth location = record { name = name tag eighth; at = at location }

abbrev chapter : ℕ → List Record → Numbered
chapter number records = record { number = number; records = records }

a_hook : is_hook (name 7 64) ≡ true
a_hook = refl

no_hook : is_hook (name 7 1) ≡ false
no_hook = refl

hooks_alone : hooks_of (chapter 3 (one 1 0 85 ∷ one 2 5 86 ∷ [])) ≡ chapter 3 (one 1 0 85 ∷ [])
hooks_alone = refl

-- an eighth of the index blocks, rounded up: of 4, 8, 12 and 1,024
dense_of_four : dense_count 1 ≡ 1
dense_of_four = refl

dense_of_eight : dense_count 2 ≡ 1
dense_of_eight = refl

dense_of_twelve : dense_count 3 ≡ 2
dense_of_twelve = refl

dense_of_all : dense_count 256 ≡ 128
dense_of_all = refl

-- the book: chapter 9 is dense; 8, 7 and 6 are sparse, and have the hook with tag 5; 8 has a name with tag 4 that is none
abbrev book : Book
book = record {
  nonce = 1;
  first = 69;
  places = 2;
  kept = chapter 9 (one 1 1 101 ∷ []) ∷ chapter 8 (one 4 1 102 ∷ one 5 0 103 ∷ []) ∷ chapter 7 (one 4 1 104 ∷ one 5 0 105 ∷ []) ∷ chapter 6 (one 5 32 106 ∷ []) ∷ [];
  unclosed = one 2 1 100 ∷ [];
  due = [];
}

abbrev index : List ℕ → List ℕ → Bool → SparseIndex
index cached given unread = record { book = book; room = 2; cached = cached; asked = None; given = given; unread = unread }

in_the_open_chapter : sparse_record (name 2 1) [] book ≡ Some (at 100)
in_the_open_chapter = refl

in_a_dense_chapter : sparse_record (name 1 1) [] book ≡ Some (at 101)
unfolding number_at
in_a_dense_chapter = refl

-- no hook is found in a sparse chapter, unless that is cached; of two that are the newest counts, whichever was used last
no_hook_in_sparse : sparse_record (name 4 1) [] book ≡ None
unfolding number_at
no_hook_in_sparse = refl

in_a_cached_chapter : sparse_record (name 4 1) (7 ∷ []) book ≡ Some (at 104)
unfolding number_at
in_a_cached_chapter = refl

in_the_newest_cached : sparse_record (name 4 1) (7 ∷ 8 ∷ []) book ≡ Some (at 102)
unfolding number_at
in_the_newest_cached = refl

-- a cached one comes before one that is read, and one alone is read: chapter 6 isn't, though it alone has the name
cached_before_read : sparse_record (name 5 0) (7 ∷ []) book ≡ Some (at 105)
unfolding number_at
cached_before_read = refl

newest_is_read : sparse_record (name 5 0) [] book ≡ Some (at 103)
unfolding number_at
newest_is_read = refl

one_is_read : sparse_record (name 5 32) [] book ≡ None
unfolding number_at
one_is_read = refl

uncached_is_read : sparse_record (name 5 32) (8 ∷ 7 ∷ []) book ≡ Some (at 106)
unfolding number_at
uncached_is_read = refl

-- the blocks that are asked for: the four of chapter 8, in order, and none more
the_first_block : block_to_ask (name 5 0) (index [] [] false) ≡ Some 69
unfolding number_at
the_first_block = refl

the_last_block : block_to_ask (name 5 0) (index [] (69 ∷ 70 ∷ 71 ∷ []) false) ≡ Some 72
unfolding number_at
the_last_block = refl

no_fifth_block : block_to_ask (name 5 0) (index [] (69 ∷ 70 ∷ 71 ∷ 72 ∷ []) false) ≡ None
unfolding number_at
no_fifth_block = refl

at_most_four : block_to_ask (name 5 0) (index [] (73 ∷ 74 ∷ 75 ∷ 76 ∷ []) false) ≡ None
unfolding number_at
at_most_four = refl

none_of_a_cached : block_to_ask (name 5 0) (index (8 ∷ []) [] false) ≡ None
unfolding number_at
none_of_a_cached = refl

none_for_no_hook : block_to_ask (name 4 1) (index [] [] false) ≡ None
unfolding number_at
none_for_no_hook = refl

none_for_a_known_name : block_to_ask (name 1 1) (index [] [] false) ≡ None
unfolding number_at
none_for_a_known_name = refl

-- the chapter that was used
a_cached_one_is_used : used (name 4 1) (index (7 ∷ 8 ∷ []) [] false) ≡ Some 8
unfolding number_at
a_cached_one_is_used = refl

a_whole_one_is_used : used (name 5 0) (index [] (69 ∷ 70 ∷ 71 ∷ 72 ∷ []) false) ≡ Some 8
unfolding number_at
a_whole_one_is_used = refl

no_part_is_used : used (name 5 0) (index [] (69 ∷ 70 ∷ 71 ∷ 74 ∷ []) false) ≡ None
unfolding number_at
no_part_is_used = refl

none_is_used : used (name 1 1) (index (8 ∷ []) [] false) ≡ None
unfolding number_at
none_is_used = refl

used_stands_first : with_used 2 (7 ∷ 8 ∷ []) (Some 8) ≡ 8 ∷ 7 ∷ []
used_stands_first = refl

the_last_goes : with_used 2 (7 ∷ 8 ∷ []) (Some 6) ≡ 6 ∷ 7 ∷ []
the_last_goes = refl

-- answers

number_in : Option Pbn → ℕ
number_in None = 0
number_in (Some location) = location.0

knows : Answers (name 4 1) (index (7 ∷ 8 ∷ []) [] false) (Known (at 102)) (index (8 ∷ 7 ∷ []) [] false)
unfolding number_at
knows = (refl, refl, refl, refl)

knows_another : (new : SparseIndex) → ¬ Answers (name 4 1) (index (7 ∷ 8 ∷ []) [] false) (Known (at 104)) new
unfolding number_at number_in
knows_another new = λ is. let same = ap number_in is.2 in omega (arith, same)

asks : Answers (name 5 0) (index [] [] false) (Read (at 69)) (record (index [] [] false) { asked = Some 69 })
unfolding number_at
asks = (refl, refl, refl)

asks_no_more : (block : ℕ) (new : SparseIndex) → ¬ Answers (name 5 0) (index [] [] true) (Read (at block)) new
asks_no_more block new = λ is. absurd (false≢true (sym is.0))

asks_for_no_hook : (block : ℕ) (new : SparseIndex) → ¬ Answers (name 4 1) (index [] [] false) (Read (at block)) new
unfolding number_at
asks_for_no_hook block new = λ is. absurd (apart block is.1)
  where
    apart : (block : ℕ) → ◌≡◌ {A = Option ℕ} None (Some block) → ⊥
    apart block same = cc

-- a page failed: nothing is answered, and nothing more is cached
fails : Answers (name 5 0) (index [] (69 ∷ []) true) Nothing (index [] [] false)
fails = inl (refl, refl)

knows_in_spite : (location : ℕ) (new : SparseIndex) → ¬ Answers (name 5 0) (index [] (69 ∷ []) true) (Known (at location)) new
knows_in_spite location new = λ is. absurd (false≢true (sym is.0))

-- a page is given, or couldn't be read; another block changes nothing
abbrev asking : SparseIndex
asking = record (index [] [] false) { asked = Some 69 }

a_page_is_given : after_page asking 69 false ≡ index [] (69 ∷ []) false
a_page_is_given = refl

a_page_is_unread : after_page asking 69 true ≡ index [] (69 ∷ []) true
a_page_is_unread = refl

another_page : after_page asking 70 true ≡ asking
another_page = refl

-- chapter 10 is closed: chapters 8 and 6 stand where it does
closed_out : cached_after true book (7 ∷ 8 ∷ 6 ∷ []) ≡ 7 ∷ []
closed_out = refl

not_closed : cached_after false book (7 ∷ 8 ∷ 6 ∷ []) ≡ 7 ∷ 8 ∷ 6 ∷ []
not_closed = refl
