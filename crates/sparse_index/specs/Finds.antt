-- What the parts of a look find.
use Rattle.std.specs.Prelude.{ℕ, ◌≡◌, ◌<◌, not, filter, length, nat_le, Bool, List, [], ◌∷◌, AllPairs, Option, None, Some, nat_eq, nat_lt, if◌then◌else◌}
use Rattle.std.specs.List.{list_any}
use Rattle.std.specs.Option.{option_or}
use Rattle.blk_base.specs.declared.place.Pbn.{Pbn}
use Rattle.uds_chapters.specs.Chapters.{Numbered, location_of}
use Rattle.index_advice.specs.Books.{Book, chapter_of, is_same_place}
use Rattle.uds_index.specs.declared.tags.Tagged.{Tagged}
use Rattle.index_advice.specs.declared.look.Look.{Look}
use Rattle.index_advice.specs.declared.look.Look.TheVariants.{Known, Nothing, Read}
use Rattle.sparse_index.specs.declared.sparse.Found.{Found}
use Rattle.sparse_index.specs.Lookups.{Recents, SparseIndex, missing_of, read_whole, block_to_ask, used as used_in}
use Rattle.sparse_index.specs.Orders.{sparse_record}

-- the location that a chapter has for a name, if there is one
abbrev pub location_at : List ℕ → Option Numbered → Option Pbn
location_at name None = None
location_at name (Some chapter) = location_of name chapter.records

-- the location that the chapter with a number has for a name
abbrev pub location_by : List ℕ → List Numbered → ℕ → Option Pbn
location_by name chapters number = location_at name (chapter_of number chapters)

-- the location in the first of the chapters with these numbers that has the name
abbrev pub first_by : List ℕ → List Numbered → List ℕ → Option Pbn
first_by name chapters [] = None
first_by name chapters (number ∷ numbers) = option_or (location_by name chapters number) (first_by name chapters numbers)

-- the greater of two numbers, of which the first may not be there
abbrev pub newer_of : Option ℕ → ℕ → Option ℕ
newer_of None other = Some other
newer_of (Some number) other = if nat_lt other number then Some number else Some other

-- whether a number is among these
abbrev pub is_listed : List ℕ → ℕ → Bool
is_listed numbers one = list_any (λ number. nat_eq number one) numbers

-- the numbers of the chapters fall
abbrev pub AreFalling : List Tagged → Type 0
AreFalling tagged = AllPairs (λ one other. other.number < one.number) tagged

-- what the parts of a look found: which page is to be read, or the record that comes first, and the sparse chapter that was used
abbrev pub FindsLook : List ℕ → SparseIndex → Look → Option ℕ → Type 0
FindsLook name index (Known at) used = (block_to_ask name index ≡ None) × (sparse_record name index.cached index.book ≡ Some at) × (used ≡ used_in name index)
FindsLook name index Nothing used = (block_to_ask name index ≡ None) × (sparse_record name index.cached index.book ≡ None) × (used ≡ used_in name index)
FindsLook name index (Read at) used = block_to_ask name index ≡ Some at.0

abbrev pub IsFound : List ℕ → SparseIndex → Found → Type 0
IsFound name index found = FindsLook name index found.look found.used

-- the number of the first chapter
abbrev pub first_number : List Numbered → Option ℕ
first_number [] = None
first_number (chapter ∷ others) = Some chapter.number

-- which block is missing of the chapter that is read, if one may still be given
abbrev pub may_ask : SparseIndex → List Numbered → Option ℕ
may_ask index chapters = if nat_le 4 (length index.given) then None else missing_of index chapters

-- the same of the chapter that is read, of which this is the location
abbrev pub FindsOther : SparseIndex → List Numbered → Option Pbn → Look → Option ℕ → Type 0
FindsOther index chapters location (Known at) used = (may_ask index chapters ≡ None) × (location ≡ Some at) × (used ≡ read_whole index chapters)
FindsOther index chapters location Nothing used = (may_ask index chapters ≡ None) × (location ≡ None) × (used ≡ read_whole index chapters)
FindsOther index chapters location (Read at) used = may_ask index chapters ≡ Some at.0

-- a chapter that stands in the index blocks of the newest one isn't cached any more
abbrev pub LeavesOut : Book → Recents → Recents → Type 0
LeavesOut book old new =
    (newest : Numbered) × (others : List Numbered) × (book.kept ≡ newest ∷ others) × (new ≡ record old { numbers = filter (λ number. not (is_same_place book.places number newest.number)) old.numbers })
