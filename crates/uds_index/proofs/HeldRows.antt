-- How pages that were read come to chapters: for each clause that has no row beside it elsewhere a case that it accepts, and
-- one that breaks it.
use Rattle.std.proofs.Common.{ℕ, zero, suc, ◌≡◌, ◌<◌, ◌∙◌, Bool, true, false, if◌then◌else◌, List, [], ◌∷◌, length, replicate, slice_index_or, Option, None, Some, ap, sym, subst, arith, refl, inl, inr}
use Rattle.std.specs.Str.{bytes_eq}
use Rattle.std.specs.Option.{option_or}
use Rattle.std.proofs.lemmas.Bool.{false≢true}
use Rattle.std.proofs.lemmas.List.{length-replicate}
use Rattle.std.proofs.lemmas.List.Elements.{All-cons, All-nil}
use Rattle.blk_base.specs.declared.place.Pbn.{Pbn}
use Rattle.blk_base.proofs.Example.{small}
use Rattle.byte_fields.specs.Fields.{number_at}
use Rattle.disk_model.specs.declared.call.Call.{Call}
use Rattle.disk_model.specs.declared.call.Call.TheVariants.{Read}
use Rattle.disk_model.specs.Seen.{Seen}
use Rattle.disk_model.specs.Trust.{Trust, trust_of}
use Rattle.uds_chapters.specs.declared.entry.Record.{Record}
use Rattle.uds_chapters.specs.Chapters.{Numbered}
use Rattle.uds_chapters.proofs.PageLaws.{page_read}
use Rattle.index_advice.specs.Books.{Book, DuePage}
use Rattle.uds_index.specs.Held.{HasRecordsAt, IsJoined, IsLoading, IsPageRead, IsPlaceAmong, IsSmall, KeepsPage, loaded_page, records_of, with_chapter}
use Rattle.uds_index.specs.Loads.{HasChapter, IsLoaded, IsLoadedBook, Loaded, ReadEach, ReadOne, has_chapter, has_page}
use Rattle.uds_index.proofs.LoadRows.{chapter, loaded, one, page_five, the_page_of_its_place}

block_in : Option Pbn → ℕ
block_in None = 0
block_in (Some block) = block.0

number_of_first : List Numbered → ℕ
number_of_first [] = 0
number_of_first (first ∷ chapters) = first.number

-- loaded_page
page_that_was_loaded : loaded_page (record { number = 5; records = one 1 85 ∷ [] }) ≡ loaded 5 (one 1 85 ∷ [])
page_that_was_loaded = refl

-- IsPageRead: the index of the default sizes has four places, and block 5 holds the second page of chapter 5
nothing_read : IsPageRead small 5 None None
nothing_read = refl

a_page_of_nothing : IsPageRead small 5 None (Some (loaded 5 [])) → ⊥
a_page_of_nothing is = absurd (cc is)

the_page_read : IsPageRead small 5 (Some page_five) (Some (loaded 5 []))
the_page_read = the_page_of_its_place

another_page_read : IsPageRead small 5 (Some page_five) (Some (loaded 6 [])) → ⊥
another_page_read is = omega (arith, is.place)

the_page_overlooked : IsPageRead small 5 (Some page_five) None → ⊥
the_page_overlooked is = is (loaded 5 []) the_page_of_its_place

no_page_of_that_block : IsPageRead small 6 (Some page_five) None
no_page_of_that_block other is =
    let same : ◌≡◌ {A = ℕ} 1 2 = sym (page_read 1 5 1 [] (omega arith)) ∙ ap (number_at 1 12) is.decodes.spelled ∙ page_read 1 other.number 2 other.records (omega arith) in
    omega (arith, same)

-- records_of, with_chapter, beside their rows for what is loaded
records_of_none : records_of 5 (chapter 7 (one 1 85 ∷ []) ∷ []) ≡ []
records_of_none = refl

the_oldest_chapter : with_chapter (chapter 3 []) (chapter 7 [] ∷ chapter 4 [] ∷ []) ≡ chapter 7 [] ∷ chapter 4 [] ∷ chapter 3 [] ∷ []
the_oldest_chapter = refl

-- IsJoined: of a name that both have, the earlier location counts
abbrev Joins : List Record → Numbered → Type 0
Joins page joined = IsJoined 5 (one 1 85 ∷ []) page joined

joined : Joins (one 1 86 ∷ []) (chapter 5 (one 1 85 ∷ []))
joined = record {
  number_is = refl;
  sorted = (omega arith, λ i j d before inside. absurd (omega (arith, before, inside)));
  few = omega arith;
  found = λ name. earlier (bytes_eq (1 ∷ []) name);
}
  where
    earlier : (same : Bool) → ◌≡◌ {A = Option Pbn} (if same then Some (record { 0 = 85 }) else None)
        (option_or (if same then Some (record { 0 = 85 }) else None) (if same then Some (record { 0 = 86 }) else None))
    earlier true = refl
    earlier false = refl

-- number_is
joined_as_another : Joins [] (chapter 6 (one 1 85 ∷ [])) → ⊥
joined_as_another is = omega (arith, is.number_is)

-- sorted
joined_out_of_order : Joins (one 2 86 ∷ []) (chapter 5 (one 2 86 ∷ one 1 85 ∷ [])) → ⊥
joined_out_of_order is = let less = is.sorted.1 0 1 (one 0 0) (omega arith) (omega arith) in absurd (cc less)

-- few: with `sorted` and `found` no chapter has more
joined_with_another : Joins [] (chapter 5 (one 1 85 ∷ one 2 86 ∷ [])) → ⊥
joined_with_another is = omega (arith, is.few)

-- found
the_later_location : Joins (one 1 86 ∷ []) (chapter 5 (one 1 86 ∷ [])) → ⊥
unfolding block_in
the_later_location is = let no : 86 ≡ 85 = ap block_in (is.found (1 ∷ [])) in omega (arith, no)

a_name_left_out : Joins (one 2 86 ∷ []) (chapter 5 (one 1 85 ∷ [])) → ⊥
unfolding block_in
a_name_left_out is = let no : 0 ≡ 86 = ap block_in (is.found (2 ∷ [])) in omega (arith, no)

-- KeepsPage
keeps_page : KeepsPage 5 (one 1 86 ∷ []) (chapter 7 [] ∷ chapter 5 (one 1 85 ∷ []) ∷ []) (chapter 7 [] ∷ chapter 5 (one 1 85 ∷ []) ∷ [])
keeps_page = record { chapter = chapter 5 (one 1 85 ∷ []); joined = joined; kept = refl }

-- joined
keeps_it_as_another : KeepsPage 5 [] [] (chapter 6 [] ∷ []) → ⊥
unfolding number_of_first
keeps_it_as_another is = omega (arith, is.joined.number_is, ap number_of_first is.kept)

-- kept
forgets_it : KeepsPage 5 [] [] [] → ⊥
forgets_it is = let no : 0 ≡ 1 = ap (λ (chapters : List Numbered). length chapters) is.kept in omega (arith, no)

-- IsSmall: 170 records for each page so far
is_small : IsSmall 4 5 (chapter 5 (one 1 85 ∷ []))
is_small = omega arith

as_many_as_fit : IsSmall 4 5 (chapter 5 (replicate 170 (one 1 85)))
as_many_as_fit = let many = length-replicate {A = Record} 170 (one 1 85) in omega (arith, many)

one_more_than_fits : IsSmall 4 5 (chapter 5 (replicate 171 (one 1 85))) → ⊥
one_more_than_fits is = let many = length-replicate {A = Record} 171 (one 1 85) in omega (arith, many, is)

before_its_first_page : IsSmall 4 4 (chapter 5 (one 1 85 ∷ [])) → ⊥
before_its_first_page is = omega (arith, is)

-- IsPlaceAmong; that the place is inside follows from `before`, which ranges over all that would stand past the end
place_among : IsPlaceAmong 5 (chapter 7 [] ∷ chapter 5 [] ∷ []) 1
place_among = record { inside = omega arith; before = newer; behind = λ d inside. omega arith }
  where
    newer : (k : ℕ) (d : Numbered) → k < 1 → 5 < (slice_index_or (chapter 7 [] ∷ chapter 5 [] ∷ []) k d).number
    newer zero d before = omega arith
    newer (suc k) d before = absurd (omega (arith, before))

-- inside
place_past_the_end : IsPlaceAmong 5 [] 1 → ⊥
place_past_the_end is = omega (arith, is.inside)

-- before
place_behind_it : IsPlaceAmong 5 (chapter 5 [] ∷ []) 1 → ⊥
place_behind_it is = omega (arith, is.before 0 (chapter 0 []) (omega arith))

-- behind
place_before_a_newer_one : IsPlaceAmong 5 (chapter 7 [] ∷ []) 0 → ⊥
place_before_a_newer_one is = omega (arith, is.behind (chapter 0 []) (omega arith))

-- HasRecordsAt; that the place is inside follows from `number_is` in the same way
abbrev two : List Numbered
two = chapter 7 [] ∷ chapter 5 (one 1 85 ∷ []) ∷ []

has_records_at : HasRecordsAt 5 two 1 (one 1 85 ∷ [])
has_records_at = record { inside = omega arith; number_is = λ d. refl; records_are = λ d. refl; rising = λ i j d before inside. absurd (omega (arith, before, inside)) }

-- inside
has_them_past_the_end : (records : List Record) → HasRecordsAt 5 [] 0 records → ⊥
has_them_past_the_end records is = omega (arith, is.inside)

-- number_is
has_another_number : HasRecordsAt 6 two 1 (one 1 85 ∷ []) → ⊥
has_another_number is = omega (arith, is.number_is (chapter 0 []))

-- records_are
has_other_records : HasRecordsAt 5 two 1 [] → ⊥
has_other_records is = let no : 1 ≡ 0 = ap (λ (records : List Record). length records) (is.records_are (chapter 0 [])) in omega (arith, no)

-- rising
has_them_out_of_order : HasRecordsAt 5 (chapter 5 (one 2 85 ∷ one 1 86 ∷ []) ∷ []) 0 (one 2 85 ∷ one 1 86 ∷ []) → ⊥
has_them_out_of_order is = let less = is.rising 0 1 (one 0 0) (omega arith) (omega arith) in absurd (cc less)

-- has_page, has_chapter, HasChapter
has_its_page : has_page 5 (loaded 4 [] ∷ loaded 5 [] ∷ []) ≡ true
has_its_page = refl

has_no_page : has_page 5 (loaded 4 [] ∷ []) ≡ false
has_no_page = refl

has_its_chapter : has_chapter 5 (chapter 7 [] ∷ chapter 5 [] ∷ []) ≡ true
has_its_chapter = refl

has_no_chapter : has_chapter 5 (chapter 7 [] ∷ []) ≡ false
has_no_chapter = refl

a_chapter_of_the_page : HasChapter (chapter 7 [] ∷ chapter 5 [] ∷ []) (loaded 5 [])
a_chapter_of_the_page = refl

-- IsLoaded
is_loaded : IsLoaded (loaded 5 (one 1 85 ∷ []) ∷ []) (chapter 5 (one 1 85 ∷ []))
is_loaded = record { some = refl; sorted = (omega arith, λ i j d before inside. absurd (omega (arith, before, inside))); same = λ name. alone (bytes_eq (1 ∷ []) name) }
  where
    alone : (same : Bool) → ◌≡◌ {A = Option Pbn} (if same then Some (record { 0 = 85 }) else None) (option_or (if same then Some (record { 0 = 85 }) else None) None)
    alone true = refl
    alone false = refl

-- IsLoadedBook: of the first six blocks of the index the last holds a page
abbrev six : List (Option (List ℕ))
six = None ∷ None ∷ None ∷ None ∷ None ∷ Some page_five ∷ []

abbrev book_of : List Numbered → Book
book_of kept = record { nonce = 1; first = 69; places = 4; kept = kept; unclosed = []; due = [] }

alone : (number : ℕ) → IsLoaded (loaded 5 [] ∷ []) (chapter 5 [])
alone number = record { some = refl; sorted = (omega arith, λ i j d before inside. absurd (omega (arith, inside))); same = λ name. refl }

book_of_six : IsLoadedBook small six (book_of (chapter 5 [] ∷ []))
book_of_six = record {
  nonce = refl;
  first = refl;
  places = refl;
  pages = loaded 5 [] ∷ [];
  decoded = inr (loaded 5 [], [], refl, the_page_of_its_place, refl);
  newest_first = λ i j d before inside. absurd (omega (arith, before, inside));
  loaded = All-cons (IsLoaded (loaded 5 [] ∷ [])) (chapter 5 []) [] (alone 5) (All-nil (IsLoaded (loaded 5 [] ∷ [])));
  all = All-cons (HasChapter (chapter 5 [] ∷ [])) (loaded 5 []) [] refl (All-nil (HasChapter (chapter 5 [] ∷ [])));
  unclosed = refl;
  due = refl;
}

-- decoded, loaded: a chapter of which no page was read
a_chapter_of_no_page : IsLoadedBook small [] (book_of (chapter 5 [] ∷ [])) → ⊥
a_chapter_of_no_page is = false≢true (subst (λ (pages : List Loaded). has_page 5 pages ≡ true) is.decoded (is.loaded 0 (chapter 5 []) (omega arith)).some)

-- decoded, all: a page of which no chapter is kept
a_page_forgotten : IsLoadedBook small six (book_of []) → ⊥
a_page_forgotten is = elim is.decoded [
  | inl none ↦ none.0 (loaded 5 []) the_page_of_its_place
  | inr some ↦ false≢true (is.all 0 some.0 (subst (λ (pages : List Loaded). 0 < length pages) (sym some.2) (omega arith)))
]

-- ReadOne, ReadEach: of two blocks the first can't be read, and the second is
abbrev device : Seen
device = record { opening = []; size = 0; log = []; faults = 0; unkept = 0 }

abbrev failed_once : Seen
failed_once = record device { log = Read (record { 0 = 69 }) [] false ∷ []; faults = 1 }

abbrev read_then : List ℕ → Seen
read_then bytes = record failed_once { log = Read (record { 0 = 70 }) bytes true ∷ Read (record { 0 = 69 }) [] false ∷ [] }

a_failed_read : ReadOne (trust_of true false) 69 device failed_once None
a_failed_read = record { stays = record { opening = refl; size = refl }; later = record { faults = omega arith; unkept = omega arith }; given = tt; rose = omega arith; logged = λ told. ([], inl refl) }

a_read : (bytes : List ℕ) → length bytes ≡ 4096 → ReadOne (trust_of true false) 70 failed_once (read_then bytes) (Some bytes)
a_read bytes whole = record {
  told = λ told. refl;
  stays = record { opening = refl; size = refl };
  later = record { faults = omega arith; unkept = omega arith };
  given = (whole, (λ told honest. absurd (false≢true honest)), tt);
  logged = λ told. refl;
}

both_reads : (bytes : List ℕ) → length bytes ≡ 4096 → ReadEach (trust_of true false) 69 device (read_then bytes) (None ∷ Some bytes ∷ [])
both_reads bytes whole = (failed_once, a_failed_read, (read_then bytes, a_read bytes whole, refl))

-- IsLoading: before the first block nothing is read
loading : (trust : Trust) (before : Seen) → IsLoading small trust before before 0 (book_of [])
loading trust before = record {
  reads = [];
  count = refl;
  each = refl;
  loaded = record {
    nonce = refl;
    first = refl;
    places = refl;
    pages = [];
    decoded = refl;
    newest_first = λ i j d before inside. absurd (omega (arith, inside));
    loaded = All-nil (IsLoaded []);
    all = All-nil (HasChapter []);
    unclosed = refl;
    due = refl;
  };
  few = λ place. omega arith;
  small = All-nil (IsSmall 4 0);
  untouched = record { stays = record { opening = refl; size = refl }; later = record { faults = omega arith; unkept = omega arith }; reads = λ told. ([], refl, tt) };
}

-- count, each: a block that wasn't read
a_block_left_out : (honest : Bool) (before : Seen) (book : Book) → before.faults ≡ 3 → IsLoading small (trust_of true honest) before before 1 book → ⊥
a_block_left_out honest before book faults is = by_reads is.reads is.count is.each
  where
    by_reads : (reads : List (Option (List ℕ))) → length reads ≡ 1 → ReadEach (trust_of true honest) 69 before before reads → ⊥
    by_reads [] count each = omega (arith, count)
    by_reads (None ∷ []) count (middle, failed, same) = let rose = failed.rose in omega (arith, rose, faults, ap (λ (s : Seen). s.faults) same)
    by_reads (Some bytes ∷ []) count (middle, read, same) =
        let logged : length middle.log ≡ suc (length before.log) = ap (λ (calls : List Call). length calls) (read.logged refl) in
        let stayed : length before.log ≡ length middle.log = ap (λ (s : Seen). length s.log) same in
        omega (arith, logged, stayed)
    by_reads (one ∷ other ∷ more) count each = omega (arith, count)

-- loaded
loading_with_a_due_page : (trust : Trust) (before now : Seen) (block : ℕ) (page : DuePage) → IsLoading small trust before now block (record (book_of []) { due = page ∷ [] }) → ⊥
loading_with_a_due_page trust before now block page is = let none = is.loaded.due in absurd (cc none)

-- few, small and untouched follow from what was read and loaded; they are what the reading goes on with
more_chapters_than_pages : (trust : Trust) (before now : Seen) → IsLoading small trust before now 0 (book_of (chapter 4 [] ∷ [])) → ⊥
more_chapters_than_pages trust before now is = omega (arith, is.few 0)

more_records_than_pages_have : (trust : Trust) (before now : Seen) → IsLoading small trust before now 4 (book_of (chapter 5 (one 1 85 ∷ []) ∷ [])) → ⊥
more_records_than_pages_have trust before now is = omega (arith, is.small 0 (chapter 0 []) (omega arith))

of_another_device : (trust : Trust) (before now : Seen) (block : ℕ) (book : Book) → before.size ≡ 154 → now.size ≡ 3 → IsLoading small trust before now block book → ⊥
of_another_device trust before now block book was now_is is = let size = is.untouched.stays.size in omega (arith, size, was, now_is)
