-- What contracts see of a sparse index, and what its looks answer.
use Rattle.std.specs.Prelude.{ℕ, ◌≡◌, ◌⊎◌, ◌+◌, ◌*◌, ◌%◌, ◌||◌, not, Bool, true, false, List, [], ◌∷◌, ◌++◌, length, take, filter, Option, None, Some, nat_eq, nat_le, is_some, is_none, if◌then◌else◌}
use Rattle.std.specs.List.{find, list_any}
use Rattle.std.specs.Option.{option_map, option_or}
use Rattle.uds_chapters.specs.Chapters.{Numbered, location_of}
use Rattle.index_advice.specs.declared.look.Look.{Look}
use Rattle.index_advice.specs.declared.look.Look.TheVariants.{Known, Nothing, Read}
use Rattle.index_advice.specs.Books.{Book, first_location, is_same_place, number_after}
use Rattle.uds_index.specs.Looks.{is_just}
use Rattle.uds_index.specs.Places.{WasClosed}
use Rattle.sparse_index.specs.Orders.{cached_in, dense_with, sparse_record, to_read}

-- numbers of chapters, the one used last first, and how many there is room for
pub record Recents : Type 0 where
  pub room : ℕ
  pub numbers : List ℕ

-- A sparse index: its book; the numbers of the chapters that are cached, the one used last first, and how many there is
-- room for; and of the look that is under way the block that it asked for and wasn't given yet, those that it was given, and
-- whether one of them couldn't be read.
pub record SparseIndex : Type 0 where
  pub book : Book
  pub room : ℕ
  pub cached : List ℕ
  pub asked : Option ℕ
  pub given : List ℕ
  pub unread : Bool

-- the four blocks of a chapter, in order
abbrev pub four_from : ℕ → List ℕ
four_from at = at ∷ (at + 1) ∷ (at + 2) ∷ (at + 3) ∷ []

abbrev pub blocks_of : Book → Numbered → List ℕ
blocks_of book chapter = four_from (book.first + 4 * (chapter.number % book.places))

-- the first of these blocks that wasn't given
abbrev pub first_missing : List ℕ → List ℕ → Option ℕ
first_missing given blocks = find (λ at. not (list_any (λ block. nat_eq block at) given)) blocks

-- whether a chapter before the one that is read has the name
abbrev pub is_known : List ℕ → SparseIndex → Bool
is_known name index = is_some (option_or (location_of name index.book.unclosed) (first_location name (dense_with name index.book ++ cached_in index.cached index.book)))

-- the block that is missing of a chapter that is read
abbrev pub missing_of : SparseIndex → List Numbered → Option ℕ
missing_of index [] = None
missing_of index (chapter ∷ others) = first_missing index.given (blocks_of index.book chapter)

-- The block that a look asks for: no other chapter has the name, and it is the first that is missing of the one to read. Four
-- are given at most.
abbrev pub block_to_ask : List ℕ → SparseIndex → Option ℕ
block_to_ask name index = if is_known name index || nat_le 4 (length index.given) then None else missing_of index (to_read name index.cached index.book)

-- the number of the first of these chapters that has the name
abbrev pub number_with : List ℕ → List Numbered → Option ℕ
number_with name chapters = option_map (λ chapter. chapter.number) (find (λ chapter. is_some (location_of name chapter.records)) chapters)

-- the number of the chapter that is read, once its four blocks were given
abbrev pub read_whole : SparseIndex → List Numbered → Option ℕ
read_whole index [] = None
read_whole index (chapter ∷ others) = if is_none (first_missing index.given (blocks_of index.book chapter)) then Some chapter.number else None

-- the sparse chapter that a look used: the cached one that has the name, or the one that it read
abbrev pub used : List ℕ → SparseIndex → Option ℕ
used name index =
    if is_some (option_or (location_of name index.book.unclosed) (first_location name (dense_with name index.book))) then None
    else option_or (number_with name (cached_in index.cached index.book)) (read_whole index (to_read name index.cached index.book))

-- a chapter that was used stands first, and what there is no room for is no longer cached
abbrev pub with_used : ℕ → List ℕ → Option ℕ → List ℕ
with_used room cached None = cached
with_used room cached (Some number) = take room (number ∷ filter (λ other. not (nat_eq other number)) cached)

-- no look is under way
abbrev pub at_rest : SparseIndex → SparseIndex
at_rest index = record index { asked = None; given = []; unread = false }

-- a look ended
abbrev pub ended : List ℕ → SparseIndex → SparseIndex
ended name index = at_rest (record index { cached = with_used index.room index.cached (used name index) })

-- A look ends with the record that comes first in order, or with nothing exactly where there is none or a page that it asked
-- for couldn't be read. Until then it asks for the next page of the chapter that it reads.
abbrev pub Answers : List ℕ → SparseIndex → Look → SparseIndex → Type 0
Answers name old (Known at) new =
    (old.unread ≡ false) × (block_to_ask name old ≡ None) × (sparse_record name old.cached old.book ≡ Some at) × (new ≡ ended name old)
Answers name old Nothing new =
    ((old.unread ≡ true) × (new ≡ at_rest old))
    ⊎ ((old.unread ≡ false) × (block_to_ask name old ≡ None) × (sparse_record name old.cached old.book ≡ None) × (new ≡ ended name old))
Answers name old (Read at) new = (old.unread ≡ false) × (block_to_ask name old ≡ Some at.0) × (new ≡ record old { asked = Some at.0 })

-- the block that was asked for was given, or couldn't be read
abbrev pub given_one : SparseIndex → ℕ → Bool → SparseIndex
given_one old at failed = record old { asked = None; given = old.given ++ at ∷ []; unread = failed || old.unread }

-- a block is given; one that wasn't asked for changes nothing
abbrev pub after_page : SparseIndex → ℕ → Bool → SparseIndex
after_page old at failed = if is_just at old.asked then given_one old at failed else old

-- what stays cached where the open chapter was closed, or not: a chapter in whose index blocks it stands doesn't
abbrev pub cached_after : Bool → Book → List ℕ → List ℕ
cached_after true book cached = filter (λ number. not (is_same_place book.places number (number_after book.kept))) cached
cached_after false book cached = cached

-- Only the book changed, and where the open chapter was closed what is cached.
abbrev pub Follows : SparseIndex → SparseIndex → Type 0
Follows old new = (was : Bool) × WasClosed was old.book new.book × (new ≡ record old { book = new.book; cached = cached_after was old.book old.cached })
