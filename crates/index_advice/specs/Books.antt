-- What an index knows: its book.
use Rattle.std.specs.Prelude.{ℕ, ◌+◌, ◌*◌, ◌%◌, ◌&&◌, ◌||◌, Bool, true, false, not, List, [], ◌∷◌, ◌++◌, length, take, filter, Option, None, nat_eq, nat_le, nat_lt, is_some, if◌then◌else◌}
use Rattle.std.specs.List.{find, list_any}
use Rattle.std.specs.Option.{option_or}
use Rattle.blk_base.specs.declared.place.Pbn.{Pbn}
use Rattle.block_names.specs.Names.{tag_of}
use Rattle.uds_chapters.specs.declared.entry.Record.{Record}
use Rattle.uds_chapters.specs.Chapters.{Numbered, location_of, with_record}

-- a page of a chapter that is to be written
pub record DuePage : Type 0 where
  pub number : ℕ
  pub page : ℕ

-- `nonce` is the image's, `first` its first index block, and `places` how many chapters its index blocks have room for.
-- The chapters that are kept stand with the newest first; the records of the open chapter, and the pages that are to be
-- written, in their order.
pub record Book : Type 0 where
  pub nonce : ℕ
  pub first : ℕ
  pub places : ℕ
  pub kept : List Numbered
  pub unclosed : List Record
  pub due : List DuePage

-- what an advisor shows that tells no book
abbrev pub no_book : Book
no_book = record { nonce = 0; first = 0; places = 0; kept = []; unclosed = []; due = [] }

-- the chapter with a number
abbrev pub chapter_of : ℕ → List Numbered → Option Numbered
chapter_of number chapters = find (λ chapter. nat_eq chapter.number number) chapters

-- some record of the chapter has a name with the tag
abbrev pub has_tag : ℕ → Numbered → Bool
has_tag tag chapter = list_any (λ one. nat_eq (tag_of one.name) tag) chapter.records

-- the location in the first of these chapters that has the name
abbrev pub first_location : List ℕ → List Numbered → Option Pbn
first_location name [] = None
first_location name (chapter ∷ chapters) = option_or (location_of name chapter.records) (first_location name chapters)

-- the newest record of a name: over the open chapter, and the four newest chapters that have the name's tag
abbrev pub newest_record : List ℕ → Book → Option Pbn
newest_record name book = option_or (location_of name book.unclosed) (first_location name (take 4 (filter (has_tag (tag_of name)) book.kept)))

-- the number of the open chapter: one more than that of the newest
abbrev pub number_after : List Numbered → ℕ
number_after [] = 0
number_after (chapter ∷ chapters) = chapter.number + 1

-- 4,294,967,294 is the number of the last chapter; behind it nothing is learnt
abbrev pub has_number : Book → Bool
has_number book = nat_le (number_after book.kept) 4294967294

-- two chapters that stand in the same index blocks
abbrev pub is_same_place : ℕ → ℕ → ℕ → Bool
is_same_place places number other = nat_eq (number % places) (other % places)

-- the chapters and pages that stand elsewhere
abbrev pub chapters_elsewhere : ℕ → ℕ → List Numbered → List Numbered
chapters_elsewhere places number chapters = filter (λ chapter. not (is_same_place places chapter.number number)) chapters

abbrev pub pages_elsewhere : ℕ → ℕ → List DuePage → List DuePage
pages_elsewhere places number pages = filter (λ page. not (is_same_place places page.number number)) pages

-- the four pages of a chapter
abbrev pub pages_of : ℕ → List DuePage
pages_of number =
    record { number = number; page = 0 } ∷ record { number = number; page = 1 } ∷ record { number = number; page = 2 } ∷ record { number = number; page = 3 } ∷ []

-- The open chapter is closed: it is kept, in place of what stood in its index blocks, its pages are to be written behind
-- those that are, and the open chapter is empty.
abbrev pub closed : Book → Book
closed book =
    let number = number_after book.kept in
    record book {
      kept = record { number = number; records = book.unclosed } ∷ chapters_elsewhere book.places number book.kept;
      unclosed = [];
      due = pages_elsewhere book.places number book.due ++ pages_of number;
    }

-- whether the open chapter has room for the record, also in place of an older one of its name
abbrev pub has_room : Record → List Record → Bool
has_room one records = is_some (location_of one.name records) || nat_lt (length records) 680

-- whether nothing is to be written
abbrev pub has_written : List DuePage → Bool
has_written [] = true
has_written (page ∷ pages) = false

-- the record stands in the open chapter, if that has a number
abbrev pub added : Record → Book → Book
added one book = if has_number book then record book { unclosed = with_record one book.unclosed } else book

-- A record is learnt. Where 680 other names are there the open chapter is closed first; while pages are still to be
-- written the record is forgotten instead.
abbrev pub learnt : Record → Book → Book
learnt one book =
    if not (has_number book) || has_room one book.unclosed then added one book
    else if has_written book.due then added one (closed book)
    else book

-- whether there is a record
abbrev pub has_records : List Record → Bool
has_records [] = false
has_records (one ∷ records) = true

-- the open chapter is closed where it has a record
abbrev pub finished : Book → Book
finished book = if has_number book && has_records book.unclosed then closed book else book

-- the index block of a page
abbrev pub block_of : Book → DuePage → ℕ
block_of book page = book.first + 4 * (page.number % book.places) + page.page
