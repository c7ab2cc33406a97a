-- For each clause on looks and places, a case that it accepts, and one that breaks it alone.
use Rattle.std.specs.Prelude.{ℕ, ◌≡◌, Bool, true, false, List, [], ◌∷◌, length, Contains, slice_index_or, Option, None, Some, refl}
use Rattle.std.proofs.Common.{sym, ap, subst, arith, inl, inr}
use Rattle.std.proofs.lemmas.Bool.{false≢true}
use Rattle.blk_base.specs.Forms.{pbn as at}
use Rattle.uds_chapters.specs.Chapters.{Numbered}
use Rattle.index_advice.specs.Books.{Book, DuePage}
use Rattle.index_advice.specs.declared.look.Look.TheVariants.{Known, Nothing, Read}
use Rattle.uds_index.specs.Places.{IsKept}
use Rattle.uds_index.specs.Rooms.{count_at, FewAtPlaces, place_of_chapter}
use Rattle.uds_index.specs.Looks.{Index, IsPageAt, IsNew, AsksFew, Answers, IsGiven, IsCached, Caches, at_rest}

abbrev pub chapter : ℕ → Numbered
chapter number = record { number = number; records = [] }

-- chapters 1 and 5 stand at one of four places, 2 at another
two_at_a_place : count_at (place_of_chapter 4) 1 (chapter 1 ∷ chapter 2 ∷ chapter 5 ∷ []) ≡ 2
two_at_a_place = refl

five_at_a_place : ¬ FewAtPlaces (place_of_chapter 1) (chapter 1 ∷ chapter 2 ∷ chapter 3 ∷ chapter 4 ∷ chapter 5 ∷ [])
five_at_a_place = λ few. let less = few 0 in omega (arith, less)

-- the blocks of chapter 5 among two places of four blocks, from block 69 on
a_page_of_the_chapter : IsPageAt 69 2 75 (chapter 5)
a_page_of_the_chapter = (omega arith, omega arith, refl)

a_page_of_another_place : ¬ IsPageAt 69 2 71 (chapter 5)
a_page_of_another_place = λ is. let place = is.2 in omega (arith, place)

a_page_before_the_index : ¬ IsPageAt 69 2 68 (chapter 4)
a_page_before_the_index = λ is. let above = is.0 in omega (arith, above)

a_page_behind_the_index : ¬ IsPageAt 69 2 77 (chapter 4)
a_page_behind_the_index = λ is. let below = is.1 in omega (arith, below)

-- blocks that may be asked for
cached_already : (given : List ℕ) → ¬ IsNew 69 (75 ∷ []) given 75
cached_already given = λ is. is.uncached (0, omega arith, refl)

given_already : (cached : List ℕ) → ¬ IsNew 69 cached (75 ∷ []) 75
given_already cached = λ is. is.new (0, omega arith, refl)

three_of_its_chapter : (cached : List ℕ) → ¬ IsNew 69 cached (69 ∷ 70 ∷ 71 ∷ []) 72
three_of_its_chapter cached = λ is. let few = is.few_of_chapter in omega (arith, few)

twelve_in_all : (cached given : List ℕ) → length given ≡ 12 → ¬ IsNew 69 cached given 72
twelve_in_all cached given twelve = λ is. let few = is.few in omega (arith, few, twelve)

-- what is kept

abbrev pub book_with : ℕ → ℕ → List Numbered → List DuePage → Book
book_with first places kept due = record { nonce = 1; first = first; places = places; kept = kept; unclosed = []; due = due }

no_place : (first : ℕ) (kept : List Numbered) (due : List DuePage) → ¬ IsKept (book_with first 0 kept due)
no_place first kept due = λ is. let some = is.some in omega (arith, some)

blocks_without_numbers : (places : ℕ) (kept : List Numbered) (due : List DuePage) → ¬ IsKept (book_with 4294967296 places kept due)
blocks_without_numbers places kept due = λ is. let blocks = is.blocks in omega (arith, blocks)

not_in_order : (first places : ℕ) (due : List DuePage) → ¬ IsKept (book_with first places (chapter 1 ∷ chapter 2 ∷ []) due)
not_in_order first places due = λ is. let newer = is.order.newest_first 0 1 (chapter 0) (omega arith) (omega arith) in omega (arith, newer)

too_many_chapters : (first : ℕ) (due : List DuePage) → ¬ IsKept (book_with first 1 (chapter 5 ∷ chapter 4 ∷ chapter 3 ∷ chapter 2 ∷ chapter 1 ∷ []) due)
too_many_chapters first due = λ is. let few = is.chapters 0 in omega (arith, few)

abbrev pub page : ℕ → DuePage
page i = record { number = 0; page = i }

too_many_pages : (first : ℕ) (kept : List Numbered) → ¬ IsKept (book_with first 1 kept (page 0 ∷ page 1 ∷ page 2 ∷ page 3 ∷ page 0 ∷ []))
too_many_pages first kept = λ is. let few = is.pages 0 in omega (arith, few)

-- what a look answers

abbrev pub name : List ℕ
name = 7 ∷ 0 ∷ 0 ∷ 0 ∷ []

abbrev pub learnt_book : Book
learnt_book = record { nonce = 1; first = 69; places = 2; kept = []; unclosed = record { name = name; at = at 85 } ∷ []; due = [] }

abbrev pub index_with : Book → Bool → Index
index_with book unread = record { book = book; cached = []; asked = Some 69; given = []; unread = unread }

the_newest_is_known : Answers name (index_with learnt_book false) (Known (at 85)) (at_rest (index_with learnt_book false))
the_newest_is_known = (refl, refl, refl)

known_though_a_page_failed : (new : Index) → ¬ Answers name (index_with learnt_book true) (Known (at 85)) new
known_though_a_page_failed new = λ is. false≢true (sym is.0)

nothing_of_a_known_name : (new : Index) → ¬ Answers name (index_with learnt_book false) Nothing new
nothing_of_a_known_name new = λ is. elim is.0 [ inl none ↦ absurd cc | inr unread ↦ false≢true unread ]

nothing_where_a_page_failed : Answers name (index_with learnt_book true) Nothing (at_rest (index_with learnt_book true))
nothing_where_a_page_failed = (inr refl, refl)

a_look_that_goes_on : ¬ Answers name (index_with learnt_book false) (Known (at 85)) (index_with learnt_book false)
a_look_that_goes_on = λ is. let asked = ap (λ (i : Index). i.asked) is.2 in absurd cc

a_page_though_one_failed : (new : Index) → ¬ Answers name (index_with learnt_book true) (Read (at 69)) new
a_page_though_one_failed new = λ is. false≢true (sym is.0)

a_page_though_no_chapter_has_the_name : (new : Index) → ¬ Answers name (index_with learnt_book false) (Read (at 69)) new
a_page_though_no_chapter_has_the_name new = λ is. let inside = is.1.one.1 in omega (arith, inside)

a_thirteenth_page : (book : Book) (cached given : List ℕ) (asked : ℕ) → length given ≡ 12 → ¬ AsksFew (record { book = book; cached = cached; asked = Some asked; given = given; unread = false })
a_thirteenth_page book cached given asked twelve = λ is. let few = is.0 refl in omega (arith, few, twelve)

-- what is given

abbrev pub asked_for : Index
asked_for = index_with learnt_book false

abbrev pub given_with : List ℕ → Option ℕ → Bool → Index
given_with given asked unread = record { book = learnt_book; cached = []; asked = asked; given = given; unread = unread }

a_page_that_failed : IsGiven asked_for (given_with (69 ∷ []) None true) 69 true
a_page_that_failed = record { book = refl; given = refl; asked = refl; unread = refl }

another_block : IsGiven asked_for asked_for 70 true
another_block = record { book = refl; given = refl; asked = refl; unread = refl }

not_counted : ¬ IsGiven asked_for (given_with [] None true) 69 true
not_counted = λ is. let given = is.given in absurd cc

asked_still : ¬ IsGiven asked_for (given_with (69 ∷ []) (Some 69) true) 69 true
asked_still = λ is. let asked = is.asked in absurd cc

not_failed : ¬ IsGiven asked_for (given_with (69 ∷ []) None false) 69 true
not_failed = λ is. false≢true is.unread

failed_by_a_page_that_was_read : ¬ IsGiven asked_for (given_with (69 ∷ []) None true) 69 false
failed_by_a_page_that_was_read = λ is. false≢true (sym is.unread)

-- what is cached

a_page_is_cached_first : Caches 69 (70 ∷ []) (69 ∷ 70 ∷ [])
a_page_is_cached_first = inr (70 ∷ [], refl, λ block there. there)

another_page_cached : ¬ Caches 69 [] (70 ∷ [])
another_page_cached (inl same) = absurd cc
another_page_cached (inr some) =
    let first : ◌≡◌ {A = ℕ} 70 69 = ap (λ (ones : List ℕ). slice_index_or ones 0 0) some.1 in
    omega (arith, first)

an_older_page_made_up : ¬ Caches 69 [] (69 ∷ 70 ∷ [])
an_older_page_made_up (inl same) = absurd cc
an_older_page_made_up (inr some) =
    let rest : some.0 ≡ 70 ∷ [] = cc in
    let there = some.2 70 (subst (λ (ones : List ℕ). Contains ones 70) (sym rest) (0, omega arith, refl)) in
    let inside = there.1 in
    omega (arith, inside)

a_page_that_failed_cached : ¬ IsCached asked_for (record asked_for { cached = 69 ∷ [] }) 69 true
a_page_that_failed_cached = λ is. absurd cc

a_page_cached_that_was_not_asked_for : ¬ IsCached asked_for (record asked_for { cached = 70 ∷ [] }) 70 false
a_page_cached_that_was_not_asked_for = λ is. absurd cc
