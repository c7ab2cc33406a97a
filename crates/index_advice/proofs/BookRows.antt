-- For each clause on books, a case that it accepts, and one that breaks it alone.
use Rattle.std.specs.Prelude.{ℕ, ◌≡◌, true, false, List, [], ◌∷◌, length, None, Some, refl}
use Rattle.std.proofs.Common.{arith}
use Rattle.std.proofs.lemmas.List.Elements.{All-cons}
use Rattle.std.proofs.lemmas.List.Kept.{AllPairs-cons}
use Rattle.blk_base.specs.Forms.{pbn as at}
use Rattle.byte_fields.specs.Fields.{number_at}
use Rattle.uds_chapters.specs.declared.entry.Record.{Record}
use Rattle.uds_chapters.specs.Chapters.{Numbered}
use Rattle.index_advice.specs.Books.{Book, DuePage, chapter_of, has_tag, newest_record, number_after, has_number, is_same_place, chapters_elsewhere, pages_elsewhere, closed, has_room, has_written, added, learnt, finished, block_of}
use Rattle.index_advice.specs.Orders.{IsNewer, IsChapter, IsOfKept, IsInOrder}

-- a name of 5 bytes, the first four of which are its tag, and the last tells names of one tag apart
abbrev name : ℕ → ℕ → List ℕ
name tag last = tag ∷ 0 ∷ 0 ∷ 0 ∷ last ∷ []

abbrev one : ℕ → ℕ → ℕ → Record
one tag last block = record { name = name tag last; at = at block }

abbrev chapter : ℕ → Record → Numbered
chapter number record_of = record { number = number; records = record_of ∷ [] }

abbrev page_of : ℕ → ℕ → DuePage
page_of number page = record { number = number; page = page }

-- a book of two chapters of four index blocks each, with a record in the open chapter, and one page to be written
abbrev some : Book
some = record {
  nonce = 7;
  first = 69;
  places = 2;
  kept = chapter 5 (one 1 0 85) ∷ chapter 4 (one 1 9 86) ∷ [];
  unclosed = one 2 0 87 ∷ [];
  due = page_of 5 3 ∷ [];
}

-- the chapter with a number
fourth : chapter_of 4 some.kept ≡ Some (chapter 4 (one 1 9 86))
fourth = refl

no_third : chapter_of 3 some.kept ≡ None
no_third = refl

-- tags
tagged : has_tag 1 (chapter 5 (one 1 0 85)) ≡ true
unfolding number_at
tagged = refl

not_tagged : has_tag 2 (chapter 5 (one 1 0 85)) ≡ false
unfolding number_at
not_tagged = refl

-- the newest record: of the open chapter, of the newest chapter that has the name, and of no fifth chapter with its tag
in_the_open_chapter : newest_record (name 2 0) (record some { kept = chapter 5 (one 2 0 85) ∷ [] }) ≡ Some (at 87)
in_the_open_chapter = refl

in_the_newest_chapter : newest_record (name 1 0) (record some { kept = chapter 5 (one 1 0 85) ∷ chapter 4 (one 1 0 86) ∷ [] }) ≡ Some (at 85)
unfolding number_at
in_the_newest_chapter = refl

in_an_older_chapter : newest_record (name 1 9) some ≡ Some (at 86)
unfolding number_at
in_an_older_chapter = refl

nowhere : newest_record (name 1 8) some ≡ None
unfolding number_at
nowhere = refl

in_the_fourth_chapter : newest_record (name 1 9)
    (record some { kept = chapter 9 (one 1 1 85) ∷ chapter 8 (one 1 2 85) ∷ chapter 7 (one 1 3 85) ∷ chapter 6 (one 1 9 86) ∷ [] }) ≡ Some (at 86)
unfolding number_at
in_the_fourth_chapter = refl

not_in_a_fifth_chapter : newest_record (name 1 9)
    (record some { kept = chapter 9 (one 1 1 85) ∷ chapter 8 (one 1 2 85) ∷ chapter 7 (one 1 3 85) ∷ chapter 6 (one 1 4 85) ∷ chapter 5 (one 1 9 86) ∷ [] }) ≡ None
unfolding number_at
not_in_a_fifth_chapter = refl

chapters_of_other_tags_dont_count : newest_record (name 1 9)
    (record some { kept = chapter 9 (one 2 1 85) ∷ chapter 8 (one 1 2 85) ∷ chapter 7 (one 1 3 85) ∷ chapter 6 (one 1 4 85) ∷ chapter 5 (one 1 9 86) ∷ [] }) ≡ Some (at 86)
unfolding number_at
chapters_of_other_tags_dont_count = refl

-- the number of the open chapter
first_number : number_after [] ≡ 0
first_number = refl

next_number : number_after some.kept ≡ 6
next_number = refl

last_number : has_number (record some { kept = chapter 4294967293 (one 1 0 85) ∷ [] }) ≡ true
last_number = refl

no_number : has_number (record some { kept = chapter 4294967294 (one 1 0 85) ∷ [] }) ≡ false
no_number = refl

-- places of chapters
same_place : is_same_place 2 6 4 ≡ true
same_place = refl

another_place : is_same_place 2 6 5 ≡ false
another_place = refl

stays_elsewhere : chapters_elsewhere 2 6 some.kept ≡ chapter 5 (one 1 0 85) ∷ []
stays_elsewhere = refl

pages_stay_elsewhere : pages_elsewhere 2 6 (page_of 4 3 ∷ page_of 5 0 ∷ []) ≡ page_of 5 0 ∷ []
pages_stay_elsewhere = refl

block_of_a_page : block_of some (page_of 5 3) ≡ 76
block_of_a_page = refl

block_of_the_next_chapter : block_of some (page_of 6 0) ≡ 69
block_of_the_next_chapter = refl

-- a chapter that is closed
closed_chapter : closed some ≡ record some {
  kept = chapter 6 (one 2 0 87) ∷ chapter 5 (one 1 0 85) ∷ [];
  unclosed = [];
  due = page_of 5 3 ∷ page_of 6 0 ∷ page_of 6 1 ∷ page_of 6 2 ∷ page_of 6 3 ∷ [];
}
closed_chapter = refl

pages_of_what_it_replaces_go : (closed (record some { due = page_of 4 3 ∷ [] })).due ≡ page_of 6 0 ∷ page_of 6 1 ∷ page_of 6 2 ∷ page_of 6 3 ∷ []
pages_of_what_it_replaces_go = refl

-- room
room_for_another : has_room (one 2 1 88) some.unclosed ≡ true
room_for_another = refl

room_for_a_name_that_is_there : (records : List Record) → has_room (one 2 0 88) (one 2 0 87 ∷ records) ≡ true
room_for_a_name_that_is_there records = refl

nothing_to_write : has_written [] ≡ true
nothing_to_write = refl

something_to_write : has_written some.due ≡ false
something_to_write = refl

-- a record that is learnt
learnt_anew : learnt (one 2 1 88) some ≡ record some { unclosed = one 2 0 87 ∷ one 2 1 88 ∷ [] }
learnt_anew = refl

learnt_again : learnt (one 2 0 88) some ≡ record some { unclosed = one 2 0 88 ∷ [] }
learnt_again = refl

learnt_past_a_full_chapter : (new : Record) (book : Book) → has_number book ≡ true → has_room new book.unclosed ≡ false → has_written book.due ≡ true
    → learnt new book ≡ added new (closed book)
learnt_past_a_full_chapter new book numbered full written = rw (numbered, full, written) refl

forgotten_while_pages_wait : (new : Record) (book : Book) → has_number book ≡ true → has_room new book.unclosed ≡ false → has_written book.due ≡ false
    → learnt new book ≡ book
forgotten_while_pages_wait new book numbered full waits = rw (numbered, full, waits) refl

nothing_past_the_last_number : learnt (one 2 1 88) (record some { kept = chapter 4294967294 (one 1 0 85) ∷ [] }) ≡ record some { kept = chapter 4294967294 (one 1 0 85) ∷ [] }
nothing_past_the_last_number = refl

-- a chapter that is finished
finished_with_a_record : finished some ≡ closed some
finished_with_a_record = refl

finished_without : finished (record some { unclosed = [] }) ≡ record some { unclosed = [] }
finished_without = refl

finished_without_a_number : finished (record some { kept = chapter 4294967294 (one 1 0 85) ∷ [] }) ≡ record some { kept = chapter 4294967294 (one 1 0 85) ∷ [] }
finished_without_a_number = refl

-- books in order
newer : IsNewer (chapter 5 (one 1 0 85)) (chapter 4 (one 1 0 85))
newer = omega arith

not_newer : ¬ IsNewer (chapter 4 (one 1 0 85)) (chapter 4 (one 1 0 85))
not_newer = λ newer. omega arith

sorted_chapter : (number : ℕ) (record_of : Record) → IsChapter (chapter number record_of)
sorted_chapter number record_of = (omega arith, λ i j d before inside. absurd (omega arith))

unsorted_chapter : ¬ IsChapter (record { number = 5; records = one 2 0 85 ∷ one 1 0 86 ∷ [] })
unsorted_chapter = λ is. let below = is.1 0 1 (one 0 0 0) (omega arith) (omega arith) in cc

chapter_too_long : (records : List Record) → length records ≡ 681 → ¬ IsChapter (record { number = 5; records = records })
chapter_too_long records long = λ is. let few = is.0 in omega arith

of_kept : IsOfKept some.kept (page_of 5 3)
of_kept = (omega arith, refl)

no_fifth_page : ¬ IsOfKept some.kept (page_of 5 4)
no_fifth_page = λ is. let below = is.0 in omega arith

not_of_kept : ¬ IsOfKept some.kept (page_of 3 0)
not_of_kept = λ is. let there = is.1 in cc

in_order : IsInOrder some
in_order = record {
  newest_first = AllPairs-cons IsNewer (chapter 5 (one 1 0 85)) (chapter 4 (one 1 9 86) ∷ [])
      (All-cons (IsNewer (chapter 5 (one 1 0 85))) (chapter 4 (one 1 9 86)) [] (omega arith) (λ k d inside. absurd (omega arith)))
      (AllPairs-cons IsNewer (chapter 4 (one 1 9 86)) [] (λ k d inside. absurd (omega arith)) (λ i j d before inside. absurd (omega arith)));
  chapters = All-cons IsChapter (chapter 5 (one 1 0 85)) (chapter 4 (one 1 9 86) ∷ []) (sorted_chapter 5 (one 1 0 85))
      (All-cons IsChapter (chapter 4 (one 1 9 86)) [] (sorted_chapter 4 (one 1 9 86)) (λ k d inside. absurd (omega arith)));
  unclosed = sorted_chapter 0 (one 2 0 87);
  due = All-cons (IsOfKept some.kept) (page_of 5 3) [] of_kept (λ k d inside. absurd (omega arith));
}

oldest_first : ¬ IsInOrder (record some { kept = chapter 4 (one 1 0 85) ∷ chapter 5 (one 1 0 85) ∷ [] })
oldest_first = λ is. let newer = is.newest_first 0 1 (chapter 0 (one 0 0 0)) (omega arith) (omega arith) in omega arith

page_of_no_chapter : ¬ IsInOrder (record some { due = page_of 3 0 ∷ [] })
page_of_no_chapter = λ is. not_of_kept (is.due 0 (page_of 0 0) (omega arith))

unsorted_open_chapter : ¬ IsInOrder (record some { unclosed = one 2 0 85 ∷ one 1 0 86 ∷ [] })
unsorted_open_chapter = λ is. let below = is.unclosed.1 0 1 (one 0 0 0) (omega arith) (omega arith) in cc

unsorted_kept_chapter : ¬ IsInOrder (record some { kept = record { number = 5; records = one 2 0 85 ∷ one 1 0 86 ∷ [] } ∷ [] })
unsorted_kept_chapter = λ is. unsorted_chapter (is.chapters 0 (chapter 0 (one 0 0 0)) (omega arith))
