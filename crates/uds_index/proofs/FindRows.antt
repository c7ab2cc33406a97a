-- What a look finds and asks for, and what a book in memory is: for each clause that has no row beside it elsewhere a case
-- that it accepts, and one that breaks it alone.
use Rattle.std.proofs.Common.{ℕ, zero, suc, ◌≡◌, ◌≤◌, true, false, List, [], ◌∷◌, Contains, length, replicate, Option, None, Some, ap, sym, subst, arith, refl, inl, inr}
use Rattle.std.specs.List.Sorted.{IsPartitionPoint}
use Rattle.std.proofs.lemmas.Bool.{false≢true}
use Rattle.std.proofs.lemmas.List.Elements.{All-cons, All-contains, All-nil, All-replicate}
use Rattle.std.proofs.lemmas.List.{get_or-replicate, length-replicate}
use Rattle.std.proofs.lemmas.Option.{none-some}
use Rattle.blk_base.specs.declared.place.Pbn.{Pbn}
use Rattle.blk_base.specs.Forms.{pbn as at}
use Rattle.byte_fields.specs.Fields.{number_at}
use Rattle.uds_chapters.specs.declared.entry.Record.{Record}
use Rattle.uds_chapters.specs.Chapters.{Numbered}
use Rattle.uds_chapters.specs.Finds.{IsUnder, IsOver}
use Rattle.index_advice.specs.Books.{Book}
use Rattle.index_advice.specs.Orders.{IsChapter, IsOfKept}
use Rattle.index_advice.specs.declared.look.Look.TheVariants.{Known, Nothing, Read}
use Rattle.uds_index.specs.Looks.{IsNamePage, Answers, Asks, AsksFew, AsksOf, CachesIf, Finds, FindsKept, Index, IsCached, IsGiven, IsNew, MayRead, SameLook, at_rest, chapters_for, is_asked, is_just, place_of_block}
use Rattle.uds_index.specs.Places.{IsKept}
use Rattle.uds_index.specs.Rooms.{FewAtPlaces, place_of_chapter, place_of_page}
use Rattle.uds_index.proofs.AskRows.{nothing_known, region}
use Rattle.uds_index.proofs.RoomLaws.{count_few}
use Rattle.uds_index.proofs.LookRows.{asked_for, book_with, chapter, given_with, index_with, learnt_book, name, page}

-- a chapter of one name, which has a location; the tags of `name` and `other_name` are 7 and 8
abbrev chapter_with : List ℕ → ℕ → Numbered
chapter_with own number = record { number = number; records = record { name = own; at = at 85 } ∷ [] }

abbrev seven : ℕ → Numbered
seven number = chapter_with name number

abbrev other_name : List ℕ
other_name = 8 ∷ 0 ∷ 0 ∷ 0 ∷ []

block_in : Option Pbn → ℕ
block_in None = 0
block_in (Some block) = block.0

-- chapters_for: the four newest that have the tag
four_newest : chapters_for name (book_with 69 9 (seven 6 ∷ chapter_with other_name 5 ∷ seven 4 ∷ seven 3 ∷ seven 2 ∷ seven 1 ∷ []) []) ≡ seven 6 ∷ seven 4 ∷ seven 3 ∷ seven 2 ∷ []
unfolding number_at
four_newest = refl

-- place_of_block
last_of_first_place : place_of_block 69 72 ≡ 0
last_of_first_place = refl

first_of_second_place : place_of_block 69 73 ≡ 1
first_of_second_place = refl

-- IsNew: the third of its chapter, and the twelfth of all
third_of_its_chapter : IsNew 69 [] (69 ∷ 70 ∷ []) 71
third_of_its_chapter = record { uncached = λ there. omega (arith, there.1); new = others; few_of_chapter = omega arith; few = omega arith }
  where
    others : Contains {X = ℕ} (69 ∷ 70 ∷ []) 71 → ⊥
    others (zero, inside, same) = omega (arith, same)
    others (suc zero, inside, same) = omega (arith, same)
    others (suc (suc k), inside, same) = omega (arith, inside)

twelfth_of_all : IsNew 69 [] (replicate 11 73) 69
twelfth_of_all = record {
  uncached = λ there. omega (arith, there.1);
  new = λ there. All-contains (λ (block : ℕ). block ≡ 69 → ⊥) (replicate 11 73) 69 (All-replicate (λ (block : ℕ). block ≡ 69 → ⊥) 11 73 (λ same. omega (arith, same))) there refl;
  few_of_chapter = omega arith;
  few = omega arith;
}

-- MayRead: the pages of chapter 5 are the blocks 73 to 76
may_read : MayRead 69 2 (chapter 5 ∷ []) [] [] 73
may_read = record { chapter = chapter 5; one = (0, omega arith, refl); page = (omega arith, omega arith, refl); asks = nothing_known 73 }

-- one
of_no_chapter : MayRead 69 2 [] [] [] 73 → ⊥
of_no_chapter is = omega (arith, is.one.1)

-- page
of_another_place : MayRead 69 2 (chapter 5 ∷ []) [] [] 69 → ⊥
of_another_place is = by_chapter is.chapter is.one is.page.2
  where
    by_chapter : (one : Numbered) → Contains (chapter 5 ∷ []) one → 0 ≡ place_of_chapter 2 one → ⊥
    by_chapter one (zero, inside, same) place = let number = ap (λ (c : Numbered). c.number) same in omega (arith, number, place)
    by_chapter one (suc k, inside, same) place = omega (arith, inside)

-- asks
that_is_cached : MayRead 69 2 (chapter 5 ∷ []) (73 ∷ []) [] 73 → ⊥
that_is_cached is = is.asks.uncached (0, omega arith, refl)

-- FindsKept
finds_it : FindsKept region (chapter 6 ∷ seven 5 ∷ []) [] [] name (Known (at 85))
finds_it = refl

finds_another_location : FindsKept region (seven 5 ∷ []) [] [] name (Known (at 86)) → ⊥
unfolding block_in
finds_another_location is = omega (arith, ap block_in is)

finds_nothing : FindsKept region (chapter 6 ∷ []) [] [] name Nothing
finds_nothing = refl

finds_nothing_of_what_is_there : FindsKept region (seven 5 ∷ []) [] [] name Nothing → ⊥
finds_nothing_of_what_is_there is = none-some (at 85) (sym is)

finds_a_page_to_read : FindsKept region (chapter 5 ∷ []) [] [] name (Read (at 73))
finds_a_page_to_read = may_read

finds_a_page_of_another_place : FindsKept region (chapter 5 ∷ []) [] [] name (Read (at 69)) → ⊥
finds_a_page_of_another_place = of_another_place

-- a book whose chapter 5 has the name, and one whose open chapter has it, too
abbrev kept_book : Book
kept_book = book_with 69 2 (seven 5 ∷ []) []

abbrev open_book : Book
open_book = record kept_book { unclosed = record { name = name; at = at 90 } ∷ [] }

may_read_of_kept : MayRead 69 2 (chapters_for name kept_book) [] [] 73
unfolding number_at
may_read_of_kept = record { chapter = seven 5; one = (0, omega arith, refl); page = (omega arith, omega arith, refl); asks = nothing_known 73 }

-- Finds: the open chapter comes first
finds_in_the_open_chapter : Finds open_book [] [] name (Known (at 90))
finds_in_the_open_chapter = refl

finds_the_older : Finds open_book [] [] name (Known (at 85)) → ⊥
unfolding block_in
finds_the_older is = omega (arith, ap block_in is)

finds_in_a_kept_chapter : Finds kept_book [] [] name (Known (at 85))
unfolding number_at
finds_in_a_kept_chapter = refl

finds_no_record : Finds kept_book [] [] other_name Nothing
unfolding number_at
finds_no_record = refl

finds_no_record_of_an_open_name : Finds open_book [] [] name Nothing → ⊥
finds_no_record_of_an_open_name is = none-some (at 90) (sym is)

finds_its_page : Finds kept_book [] [] name (Read (at 73))
finds_its_page = (refl, may_read_of_kept)

finds_a_page_of_an_open_name : Finds open_book [] [] name (Read (at 73)) → ⊥
finds_a_page_of_an_open_name is = none-some (at 90) (sym is.0)

finds_a_page_for_no_chapter : Finds kept_book [] [] other_name (Read (at 73)) → ⊥
unfolding number_at
finds_a_page_for_no_chapter is = omega (arith, is.1.one.1)

-- AsksOf: of a name that the open chapter has no page is asked for
asks_its_page : AsksOf kept_book [] [] name (Read (at 73))
unfolding number_at
asks_its_page none = inl (record { place = 0; inside = omega arith; stands = inl (λ d. refl); block = refl }, nothing_known 73)

asks_nothing_of_an_open_name : AsksOf open_book [] [] name Nothing
asks_nothing_of_an_open_name none = absurd (none-some (at 90) (sym none))

asks_nothing : AsksOf kept_book [] [] name Nothing → ⊥
unfolding number_at
asks_nothing asks = (asks refl).0.2 (nothing_known (asks refl).0.0)

behind_all : (count : ℕ) → IsPartitionPoint (IsUnder name) (IsOver name) (replicate count (record { name = 6 ∷ 0 ∷ 0 ∷ 0 ∷ []; at = at 85 })) count
behind_all count =
    let other : Record = record { name = 6 ∷ 0 ∷ 0 ∷ 0 ∷ []; at = at 85 } in
    let size = length-replicate {A = Record} count other in (
      (λ k d from below. subst (λ (one : Record). IsUnder name one) (sym (get_or-replicate count k other d below)) refl),
      (λ k d past inside. absurd (omega (arith, size, past, inside))),
    )

-- IsNamePage: a page has 170 records, and the last one all behind it
abbrev records_of : ℕ → List Record
records_of count = replicate count (record { name = 6 ∷ 0 ∷ 0 ∷ 0 ∷ []; at = at 85 })

few : (count : ℕ) → count ≤ length (records_of count)
few count = let size = length-replicate {A = Record} count (record { name = 6 ∷ 0 ∷ 0 ∷ 0 ∷ []; at = at 85 }) in omega (arith, size)

first_page : IsNamePage 69 2 name 73 (record { number = 5; records = records_of 169 })
first_page = record { place = 169; inside = few 169; stands = inr (behind_all 169); block = refl }

second_page : IsNamePage 69 2 name 74 (record { number = 5; records = records_of 170 })
second_page = record { place = 170; inside = few 170; stands = inr (behind_all 170); block = refl }

last_page : IsNamePage 69 2 name 76 (record { number = 5; records = records_of 680 })
last_page = record { place = 680; inside = few 680; stands = inr (behind_all 680); block = refl }

-- Asks: unless a page couldn't be read
asks : Asks name (index_with kept_book false) (Read (at 73))
asks readable = asks_its_page

asks_no_more : Asks name (index_with kept_book true) Nothing
asks_no_more readable = absurd (false≢true (sym readable))

never_asks : Asks name (index_with kept_book false) Nothing → ⊥
never_asks is = asks_nothing (is refl)

-- at_rest
rests : at_rest (record { book = kept_book; cached = 73 ∷ []; asked = Some 69; given = 70 ∷ []; unread = true }) ≡ record { book = kept_book; cached = 73 ∷ []; asked = None; given = []; unread = false }
rests = refl

-- Answers: a page is asked for from then on
answers_by_a_page : Answers name (index_with kept_book false) (Read (at 73)) (record (index_with kept_book false) { asked = Some 73 })
answers_by_a_page = (refl, may_read_of_kept, refl)

asks_and_forgets : Answers name (index_with kept_book false) (Read (at 73)) (index_with kept_book false) → ⊥
asks_and_forgets is = omega (arith, ap (λ (i : Index). number_in i.asked) is.2)
  where
    number_in : Option ℕ → ℕ
    number_in None = 0
    number_in (Some n) = n

another_record : (new : Index) → Answers name (index_with learnt_book false) (Known (at 86)) new → ⊥
unfolding block_in
another_record new is = omega (arith, ap block_in is.1)

-- AsksFew
asks_the_twelfth : AsksFew (record asked_for { given = replicate 11 73 })
asks_the_twelfth = ((λ some. omega arith), omega arith)

given_twelve : AsksFew (record asked_for { asked = None; given = replicate 12 73 })
given_twelve = ((λ some. absurd (false≢true some)), omega arith)

given_thirteen : AsksFew (record asked_for { asked = None; given = replicate 13 73 }) → ⊥
given_thirteen few = omega (arith, few.1)

-- SameLook
same_look : SameLook asked_for (record asked_for { book = kept_book })
same_look = refl

another_look : SameLook asked_for (record asked_for { unread = true }) → ⊥
another_look same = false≢true (sym (ap (λ (i : Index). i.unread) same))

-- is_just, is_asked
is_just_it : is_just 69 (Some 69) ≡ true
is_just_it = refl

is_another : is_just 69 (Some 70) ≡ false
is_another = refl

is_none : is_just 69 None ≡ false
is_none = refl

it_is_asked : is_asked asked_for 69 ≡ true
it_is_asked = refl

another_is_not : is_asked asked_for 70 ≡ false
another_is_not = refl

-- CachesIf, IsCached
nothing_is_cached : CachesIf false 69 (70 ∷ []) (70 ∷ [])
nothing_is_cached = refl

cached_all_the_same : CachesIf false 69 [] (69 ∷ []) → ⊥
cached_all_the_same same = let no : 1 ≡ 0 = ap (λ (ones : List ℕ). length ones) same in omega (arith, no)

is_cached : IsCached asked_for (record asked_for { cached = 69 ∷ [] }) 69 false
is_cached = inr ([], refl, λ block there. there)

-- IsGiven: the book stays
learns_a_book : IsGiven asked_for (record (given_with (69 ∷ []) None false) { book = kept_book }) 69 false → ⊥
learns_a_book is = let no : 1 ≡ 0 = ap (λ (b : Book). length b.kept) is.book in omega (arith, no)

read_page : IsGiven asked_for (given_with (69 ∷ []) None false) 69 false
read_page = record { book = refl; given = refl; asked = refl; unread = refl }

-- FewAtPlaces
four_at_a_place : FewAtPlaces (place_of_chapter 1) (chapter 1 ∷ chapter 2 ∷ chapter 3 ∷ chapter 4 ∷ [])
four_at_a_place place = count_few (place_of_chapter 1) place (chapter 1 ∷ chapter 2 ∷ chapter 3 ∷ chapter 4 ∷ [])

-- place_of_page
place_of_it : place_of_page 4 (record { number = 5; page = 2 }) ≡ 1
place_of_it = refl

-- IsKept
is_kept : IsKept (book_with 69 1 (chapter 0 ∷ []) (page 3 ∷ []))
is_kept = record {
  some = omega arith;
  blocks = omega arith;
  order = record {
    newest_first = λ i j d before inside. absurd (omega (arith, before, inside));
    chapters = All-cons IsChapter (chapter 0) [] (omega arith, λ i j d before inside. absurd (omega (arith, inside))) (All-nil IsChapter);
    unclosed = (omega arith, λ i j d before inside. absurd (omega (arith, inside)));
    due = All-cons (IsOfKept (chapter 0 ∷ [])) (page 3) [] (omega arith, refl) (All-nil (IsOfKept (chapter 0 ∷ [])));
  };
  chapters = λ place. (let few = count_few (place_of_chapter 1) place (chapter 0 ∷ []) in omega (arith, few));
  pages = λ place. (let few = count_few (place_of_page 1) place (page 3 ∷ []) in omega (arith, few));
}
