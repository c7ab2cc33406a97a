-- Books stay in order, and what is learnt is found.
use Rattle.std.specs.Prelude.{ℕ, zero, suc, ◌≡◌, ◌≢◌, ◌<◌, ◌≤◌, ◌+◌, ◌&&◌, ◌||◌, Bool, true, false, not, List, [], ◌∷◌, length, filter, All, AllPairs, None, Some, IsSome, is_some, nat_eq, nat_lt, cond, if◌then◌else◌, refl}
use Rattle.std.proofs.Common.{sym, ◌∙◌, ap, subst, arith, get_or, Ordering, Less, Equal, Greater}
use Rattle.std.specs.Ordering.{match_ordering}
use Rattle.std.specs.List.{find}
use Rattle.std.proofs.lemmas.Bool.{false≢true, eqb-true, eq-eqb, ltb-true}
use Rattle.std.proofs.lemmas.List.Elements.{All-filter, All-append, All-cons, All-head, All-tail}
use Rattle.std.proofs.lemmas.List.Kept.{AllPairs-filter, AllPairs-cons}
use Rattle.uds_chapters.specs.declared.entry.Record.{Record}
use Rattle.uds_chapters.specs.Names.{name_cmp, AreRising}
use Rattle.uds_chapters.specs.Chapters.{Numbered, location_of, with_record}
use Rattle.uds_chapters.proofs.NameLaws.{name_total, equal_names, below_apart, above_apart, turned, rising-head, rising-tail}
use Rattle.uds_chapters.proofs.RecordLaws.{no_location, own_location, other_location, rising-with_record, further as location-further, here as location-here}
use Rattle.uds_chapters.proofs.PageRows.{none_rise}
use Rattle.index_advice.specs.Books.{Book, DuePage, chapter_of, newest_record, number_after, has_number, is_same_place, chapters_elsewhere, pages_elsewhere, pages_of, closed, has_room, has_written, added, learnt, has_records, finished}
use Rattle.index_advice.specs.Orders.{IsNewer, IsChapter, IsOfKept, IsInOrder}

-- what is found among some elements is found among those of them that pass a weaker test
find_kept : (q p : Numbered → Bool) → ((one : Numbered) → q one ≡ true → p one ≡ true) → (ones : List Numbered) → find q (filter p ones) ≡ find q ones
find_kept q p weaker [] = refl
find_kept q p weaker (one ∷ ones) = step (find_kept q p weaker ones) (p one) (q one) refl refl
  where
    step : find q (filter p ones) ≡ find q ones → (b t : Bool) → p one ≡ b → q one ≡ t → find q (cond b (one ∷ filter p ones) (filter p ones)) ≡ cond t (Some one) (find q ones)
    step more true true passes is = rw is refl
    step more true false passes is = rw is more
    step more false true fails is = absurd (false≢true (sym fails ∙ weaker one is))
    step more false false fails is = more

-- a chapter that stands elsewhere stays
chapter_stays : (places number other : ℕ) (chapters : List Numbered) → not (is_same_place places other number) ≡ true
    → chapter_of other (chapters_elsewhere places number chapters) ≡ chapter_of other chapters
chapter_stays places number other chapters elsewhere =
    find_kept (λ chapter. nat_eq chapter.number other) (λ chapter. not (is_same_place places chapter.number number))
    (λ one is. ap (λ (n : ℕ). not (is_same_place places n number)) (eqb-true one.number other is) ∙ elsewhere) chapters

still_kept : (places number other : ℕ) (newest : Numbered) (kept : List Numbered) → not (is_same_place places other number) ≡ true → IsSome (chapter_of other kept)
    → IsSome (chapter_of other (newest ∷ chapters_elsewhere places number kept))
still_kept places number other newest kept elsewhere some = step (nat_eq newest.number other)
  where
    step : (b : Bool) → IsSome (cond b (Some newest) (chapter_of other (chapters_elsewhere places number kept)))
    step true = refl
    step false = subst IsSome (sym (chapter_stays places number other kept elsewhere)) some

-- the pages that stand elsewhere are of chapters that are kept on
pages_stay : (places number : ℕ) (newest : Numbered) (kept : List Numbered) (pages : List DuePage) → All (IsOfKept kept) pages
    → All (IsOfKept (newest ∷ chapters_elsewhere places number kept)) (pages_elsewhere places number pages)
pages_stay places number newest kept [] all = λ k d inside. absurd (omega arith)
pages_stay places number newest kept (page ∷ pages) all =
    step (pages_stay places number newest kept pages (All-tail (IsOfKept kept) page pages all)) (not (is_same_place places page.number number)) refl
  where
    P : DuePage → Type 0
    P one = IsOfKept (newest ∷ chapters_elsewhere places number kept) one

    first : IsOfKept kept page
    first = All-head (IsOfKept kept) page pages all

    step : All P (pages_elsewhere places number pages) → (b : Bool) → not (is_same_place places page.number number) ≡ b
        → All P (cond b (page ∷ pages_elsewhere places number pages) (pages_elsewhere places number pages))
    step more true elsewhere = All-cons P page (pages_elsewhere places number pages) (first.0, still_kept places number page.number newest kept elsewhere first.1) more
    step more false here = more

newer_than_all : (chapters : List Numbered) (records : List Record) → AllPairs IsNewer chapters
    → All (IsNewer (record { number = number_after chapters; records = records })) chapters
newer_than_all [] records order = λ k d inside. absurd (omega arith)
newer_than_all (chapter ∷ chapters) records order = λ k d inside. by k d inside
  where
    by : (k : ℕ) (d : Numbered) → k < length (chapter ∷ chapters) → (get_or (chapter ∷ chapters) k d).number < chapter.number + 1
    by zero d inside = omega arith
    by (suc k) d inside = let newer = order 0 (suc k) d (omega arith) inside in omega (arith, newer)

own_chapter : (number : ℕ) (records : List Record) (chapters : List Numbered) → IsSome (chapter_of number (record { number = number; records = records } ∷ chapters))
own_chapter number records chapters = rw (eq-eqb number number refl) refl

abbrev page_of : ℕ → ℕ → DuePage
page_of number page = record { number = number; page = page }

own_pages : (number : ℕ) (kept : List Numbered) → IsSome (chapter_of number kept) → All (IsOfKept kept) (pages_of number)
own_pages number kept own = by
  where
    none : All (IsOfKept kept) []
    none = λ k d inside. absurd (omega arith)

    by : All (IsOfKept kept) (pages_of number)
    by = All-cons (IsOfKept kept) (page_of number 0) (page_of number 1 ∷ page_of number 2 ∷ page_of number 3 ∷ []) (omega arith, own) (
        All-cons (IsOfKept kept) (page_of number 1) (page_of number 2 ∷ page_of number 3 ∷ []) (omega arith, own) (
        All-cons (IsOfKept kept) (page_of number 2) (page_of number 3 ∷ []) (omega arith, own) (All-cons (IsOfKept kept) (page_of number 3) [] (omega arith, own) none)))

pub closed_in_order : (book : Book) → IsInOrder book → IsInOrder (closed book)
closed_in_order book order =
    let number = number_after book.kept in
    let newest : Numbered = record { number = number; records = book.unclosed } in
    let elsewhere = chapters_elsewhere book.places number book.kept in
    let own = own_chapter number book.unclosed elsewhere in
    record {
      newest_first = AllPairs-cons IsNewer newest elsewhere (All-filter (λ chapter. not (is_same_place book.places chapter.number number)) (IsNewer newest) book.kept (newer_than_all book.kept book.unclosed order.newest_first))
          (AllPairs-filter IsNewer (λ chapter. not (is_same_place book.places chapter.number number)) book.kept order.newest_first);
      chapters = All-cons IsChapter newest elsewhere order.unclosed (All-filter (λ chapter. not (is_same_place book.places chapter.number number)) IsChapter book.kept order.chapters);
      unclosed = (omega arith, none_rise);
      due = All-append (IsOfKept (newest ∷ elsewhere)) (pages_elsewhere book.places number book.due) (pages_of number)
          (pages_stay book.places number newest book.kept book.due order.due)
          (own_pages number (newest ∷ elsewhere) own);
    }

-- a name below the first has no record
location_of_none : (new one : Record) (records : List Record) → name_cmp one.name new.name ≡ Greater → AreRising (one ∷ records) → location_of new.name (one ∷ records) ≡ None
location_of_none new one records above rising =
    no_location new.name (one ∷ records) (All-cons (λ (e : Record). e.name ≢ new.name) one records (above_apart one.name new.name above) (λ k d inside.
    let below = name_total.trans new.name one.name (get_or records k d).name (turned one.name new.name above) (rising-head one records rising k d inside) in
    λ same. below_apart new.name (get_or records k d).name below (sym same)))

-- how many records there are with one more
length_step : (new one : Record) (records : List Record) (o : Ordering) → name_cmp one.name new.name ≡ o → AreRising (one ∷ records)
    → length (with_record new records) ≡ (if is_some (location_of new.name records) then length records else length records + 1)
    → length (match_ordering o (one ∷ with_record new records) (new ∷ records) (new ∷ one ∷ records))
    ≡ (if is_some (location_of new.name (one ∷ records)) then length (one ∷ records) else length (one ∷ records) + 1)
length_step new one records Less below rising more =
    let further = location-further new.name one records (below_apart one.name new.name below) in
    rw further (longer (is_some (location_of new.name records)) (length (with_record new records)) (length records) more)
  where
    longer : (b : Bool) (m n : ℕ) → m ≡ (if b then n else n + 1) → suc m ≡ (if b then suc n else suc n + 1)
    longer true m n is = omega arith
    longer false m n is = omega arith
length_step new one records Equal same rising more =
    let here = location-here new.name one records (equal_names one.name new.name same) in
    rw here refl
length_step new one records Greater above rising more =
    let none = location_of_none new one records above rising in
    rw none (omega arith)

pub length_with : (new : Record) (records : List Record) → AreRising records
    → length (with_record new records) ≡ (if is_some (location_of new.name records) then length records else length records + 1)
length_with new [] rising = refl
length_with new (one ∷ records) rising =
    length_step new one records (name_cmp one.name new.name) refl rising (length_with new records (rising-tail one records rising))

-- where there is room the records stay few
pub few_with : (new : Record) (records : List Record) → AreRising records → length records ≤ 680 → has_room new records ≡ true
    → length (with_record new records) ≤ 680
few_with new records rising few room = by (is_some (location_of new.name records)) (length_with new records rising) room
  where
    by : (b : Bool) → length (with_record new records) ≡ (if b then length records else length records + 1) → (b || nat_lt (length records) 680) ≡ true
        → length (with_record new records) ≤ 680
    by true size room = omega (arith, size)
    by false size room = let below = ltb-true (length records) 680 room in omega (arith, size, below)

pub added_in_order : (one : Record) (book : Book) → (has_number book ≡ true → has_room one book.unclosed ≡ true) → IsInOrder book → IsInOrder (added one book)
added_in_order one book room order = by (has_number book) refl
  where
    by : (b : Bool) → has_number book ≡ b → IsInOrder (cond b (record book { unclosed = with_record one book.unclosed }) book)
    by true numbered = record {
      newest_first = order.newest_first;
      chapters = order.chapters;
      unclosed = (few_with one book.unclosed order.unclosed.1 order.unclosed.0 (room numbered), rising-with_record one book.unclosed order.unclosed.1);
      due = order.due;
    }
    by false numbered = order

pub learnt_in_order : (one : Record) (book : Book) → IsInOrder book → IsInOrder (learnt one book)
learnt_in_order one book order = by (has_number book) (has_room one book.unclosed) (has_written book.due) refl refl
  where
    by : (h r w : Bool) → has_number book ≡ h → has_room one book.unclosed ≡ r
        → IsInOrder (cond (not h || r) (added one book) (cond w (added one (closed book)) book))
    by true true w numbered room = added_in_order one book (λ has. room) order
    by true false true numbered room = added_in_order one (closed book) (λ has. refl) (closed_in_order book order)
    by true false false numbered room = order
    by false r w numbered room = added_in_order one book (λ has. absurd (false≢true (sym numbered ∙ has))) order

pub finished_in_order : (book : Book) → IsInOrder book → IsInOrder (finished book)
finished_in_order book order = by (has_number book && has_records book.unclosed)
  where
    by : (b : Bool) → IsInOrder (cond b (closed book) book)
    by true = closed_in_order book order
    by false = order

-- what is learnt, where there is room
learnt_there : (one : Record) (book : Book) → has_room one book.unclosed ≡ true → learnt one book ≡ added one book
learnt_there one book room = by (has_number book) (has_room one book.unclosed) room
  where
    by : (h r : Bool) → r ≡ true → cond (not h || r) (added one book) (cond (has_written book.due) (added one (closed book)) book) ≡ added one book
    by true r is = rw is refl
    by false r is = refl

pub own_found : (one : Record) (book : Book) → has_number book ≡ true → has_room one book.unclosed ≡ true → newest_record one.name (learnt one book) ≡ Some one.at
own_found one book numbered room =
    ap (newest_record one.name) (learnt_there one book room) ∙ by (has_number book) numbered
  where
    by : (h : Bool) → h ≡ true → newest_record one.name (cond h (record book { unclosed = with_record one book.unclosed }) book) ≡ Some one.at
    by true is = rw (own_location one book.unclosed) refl
    by false is = absurd (false≢true is)

pub others_found : (one : Record) (name : List ℕ) (book : Book) → name ≢ one.name → has_room one book.unclosed ≡ true
    → newest_record name (learnt one book) ≡ newest_record name book
others_found one name book apart room =
    ap (newest_record name) (learnt_there one book room) ∙ by (has_number book)
  where
    by : (h : Bool) → newest_record name (cond h (record book { unclosed = with_record one book.unclosed }) book) ≡ newest_record name book
    by true = rw (other_location one name book.unclosed apart) refl
    by false = refl
