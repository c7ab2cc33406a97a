-- For each clause on what is loaded, a case that it accepts, and one that breaks it alone.
use Rattle.std.specs.Prelude.{ℕ, ◌≡◌, ◌≢◌, ◌/◌, Bool, true, false, List, [], ◌∷◌, AllPairs, Option, Some, None, refl}
use Rattle.std.proofs.Common.{sym, ◌∙◌, ap, subst, arith, inl, inr}
use Rattle.std.proofs.lemmas.Bool.{false≢true}
use Rattle.blk_base.specs.declared.place.Pbn.{Pbn}
use Rattle.blk_base.specs.declared.geometry.Geometry.{Geometry}
use Rattle.blk_base.specs.Regions.{first_index_of}
use Rattle.byte_fields.specs.Fields.{number_at}
use Rattle.disk_model.specs.declared.call.Call.TheVariants.{Read}
use Rattle.disk_model.specs.Seen.{Seen}
use Rattle.disk_model.specs.Trust.{trust_of}
use Rattle.uds_chapters.specs.declared.entry.Record.{Record}
use Rattle.uds_chapters.specs.Chapters.{Numbered}
use Rattle.uds_chapters.specs.Pages.{page_bytes, IsPage}
use Rattle.uds_chapters.proofs.PageLaws.{page_read}
use Rattle.index_advice.specs.Books.{Book, DuePage}
use Rattle.index_advice.specs.Orders.{IsNewer}
use Rattle.uds_index.specs.Loads.{Loaded, Holds, ArePages, pages_with, loaded_location, IsLoaded, HasChapter, IsLoadedBook, ReadOne, ReadEach}
use Rattle.uds_index.specs.Held.{records_of, with_chapter}

abbrev pub one : ℕ → ℕ → Record
one byte block = record { name = byte ∷ []; at = record { 0 = block } }

abbrev pub chapter : ℕ → List Record → Numbered
chapter number records = record { number = number; records = records }

abbrev pub loaded : ℕ → List Record → Loaded
loaded number records = record { number = number; records = records }

-- the second page of chapter 5, which has no records
abbrev pub page_five : List ℕ
page_five = page_bytes 1 5 1 []

pub decodes : IsPage 1 5 1 page_five []
decodes = record {
  place = omega arith;
  spelled = refl;
  few = omega arith;
  held = λ k d inside. absurd (omega (arith, inside));
  rising = λ i j d before inside. absurd (omega (arith, inside));
}

-- it stands in the index block 5 of one that has four places
pub the_page_of_its_place : Holds 1 4 5 page_five (loaded 5 [])
the_page_of_its_place = record { number = omega arith; place = refl; decodes = decodes }

a_number_too_great : (places block : ℕ) (bytes : List ℕ) → ¬ Holds 1 places block bytes (loaded 4294967296 [])
a_number_too_great places block bytes = λ is. let number = is.number in omega (arith, number)

a_page_elsewhere : (bytes : List ℕ) → ¬ Holds 1 4 9 bytes (loaded 5 [])
a_page_elsewhere bytes = λ is. let place = is.place in omega (arith, place)

another_page : ¬ Holds 1 4 6 page_five (loaded 5 [])
another_page = λ is.
    let same : ◌≡◌ {A = ℕ} 1 2 = sym (page_read 1 5 1 [] (omega arith)) ∙ ap (number_at 1 12) is.decodes.spelled ∙ page_read 1 5 2 [] (omega arith) in
    omega (arith, same)

-- the pages of blocks that were read
a_block_with_a_page : ArePages 1 4 5 (Some page_five ∷ None ∷ []) (loaded 5 [] ∷ [])
a_block_with_a_page = inr (loaded 5 [], [], refl, the_page_of_its_place, refl)

a_page_left_out : ¬ ArePages 1 4 5 (Some page_five ∷ []) []
a_page_left_out (inl none) = none.0 (loaded 5 []) the_page_of_its_place
a_page_left_out (inr some) = let is = some.2 in absurd cc

a_page_of_a_failed_read : ¬ ArePages 1 4 5 (None ∷ []) (loaded 5 [] ∷ [])
a_page_of_a_failed_read = λ is. absurd cc

-- of a chapter's pages the first that has the name counts, and pages of other chapters don't
the_lower_page : loaded_location (1 ∷ []) (pages_with 5 (loaded 4 (one 1 84 ∷ []) ∷ loaded 5 (one 1 85 ∷ []) ∷ loaded 5 (one 1 86 ∷ []) ∷ [])) ≡ Some (record { 0 = 85 })
the_lower_page = refl

-- the chapter that pages give
without_a_page : (number : ℕ) (records : List Record) → ¬ IsLoaded [] (chapter number records)
without_a_page number records = λ is. false≢true is.some

not_sorted : (pages : List Loaded) → ¬ IsLoaded pages (chapter 5 (one 2 85 ∷ one 1 86 ∷ []))
not_sorted pages = λ is. let less = is.sorted.1 0 1 (one 0 0) (omega arith) (omega arith) in absurd cc

number_in : Option Pbn → ℕ
number_in None = 0
number_in (Some at) = at.0

another_location : ¬ IsLoaded (loaded 5 (one 1 85 ∷ []) ∷ []) (chapter 5 (one 1 86 ∷ []))
unfolding number_in
another_location = λ is. let numbers : ◌≡◌ {A = ℕ} 86 85 = ap number_in (is.same (1 ∷ [])) in omega (arith, numbers)

-- the book of an image
module _ (g : Geometry) (reads : List (Option (List ℕ))) (book : Book) where
  another_nonce : book.nonce ≢ g.nonce → ¬ IsLoadedBook g reads book
  another_nonce apart = λ is. apart is.nonce

  another_first_block : book.first ≢ first_index_of g → ¬ IsLoadedBook g reads book
  another_first_block apart = λ is. apart is.first

  other_places : book.places ≢ g.index / 4 → ¬ IsLoadedBook g reads book
  other_places apart = λ is. apart is.places

  the_oldest_first : book.kept ≡ chapter 1 [] ∷ chapter 2 [] ∷ [] → ¬ IsLoadedBook g reads book
  the_oldest_first kept = λ is.
      let pairs : AllPairs IsNewer (chapter 1 [] ∷ chapter 2 [] ∷ []) = subst (λ (ks : List Numbered). AllPairs IsNewer ks) kept is.newest_first in
      let newer = pairs 0 1 (chapter 0 []) (omega arith) (omega arith) in
      omega (arith, newer)

  a_record_in_the_open_chapter : book.unclosed ≡ one 1 85 ∷ [] → ¬ IsLoadedBook g reads book
  a_record_in_the_open_chapter some = λ is. let none = is.unclosed in absurd cc

  a_page_to_be_written : (page : DuePage) → book.due ≡ page ∷ [] → ¬ IsLoadedBook g reads book
  a_page_to_be_written page some = λ is. let none = is.due in absurd cc

-- a page whose chapter isn't kept
a_chapter_left_out : ¬ HasChapter (chapter 4 [] ∷ []) (loaded 5 [])
a_chapter_left_out = λ has. false≢true has

-- reads of a device that tells
a_read_of_another_block : (honest : Bool) (before now : Seen) (bytes : List ℕ) → now.log ≡ Read (record { 0 = 70 }) bytes true ∷ before.log
    → ¬ ReadOne (trust_of true honest) 69 before now (Some bytes)
a_read_of_another_block honest before now bytes other = λ one.
    let logged = one.logged refl in
    let same : ◌≡◌ {A = Pbn} (record { 0 = 70 }) (record { 0 = 69 }) = cc in
    let numbers : ◌≡◌ {A = ℕ} 70 69 = ap (λ (at : Pbn). at.0) same in
    omega (arith, numbers)

a_failure_without_a_cause : (before now : Seen) → before.faults ≡ 3 → now.faults ≡ 3 → ¬ ReadOne (trust_of false false) 69 before now None
a_failure_without_a_cause before now was is = λ one. let rose = one.rose in omega (arith, rose, was, is)

-- it is the same device, and no count fell: a block that isn't read can't be made up for by what was done before
a_read_of_another_device : (before now : Seen) (read : Option (List ℕ)) → before.size ≡ 154 → now.size ≡ 3 → ¬ ReadOne (trust_of false false) 69 before now read
a_read_of_another_device before now None was is = λ one. let size = one.stays.size in omega (arith, size, was, is)
a_read_of_another_device before now (Some bytes) was is = λ one. let size = one.stays.size in omega (arith, size, was, is)

a_count_that_fell : (before now : Seen) (bytes : List ℕ) → before.unkept ≡ 1 → now.unkept ≡ 0 → ¬ ReadOne (trust_of false false) 69 before now (Some bytes)
a_count_that_fell before now bytes was is = λ one. let less = one.later.unkept in omega (arith, less, was, is)

nothing_more_is_read : (before now : Seen) → now.faults ≢ before.faults → ¬ ReadEach (trust_of false false) 69 before now []
nothing_more_is_read before now apart = λ is. apart (ap (λ (s : Seen). s.faults) is)

-- a chapter among others: in front of older ones, and in place of that with its number
a_chapter_between : with_chapter (chapter 5 []) (chapter 7 [] ∷ chapter 4 [] ∷ []) ≡ chapter 7 [] ∷ chapter 5 [] ∷ chapter 4 [] ∷ []
a_chapter_between = refl

a_chapter_replaced : with_chapter (chapter 5 (one 1 85 ∷ [])) (chapter 7 [] ∷ chapter 5 [] ∷ []) ≡ chapter 7 [] ∷ chapter 5 (one 1 85 ∷ []) ∷ []
a_chapter_replaced = refl

the_records_of_its_number : records_of 5 (chapter 7 [] ∷ chapter 5 (one 1 85 ∷ []) ∷ []) ≡ one 1 85 ∷ []
the_records_of_its_number = refl
