-- How a page that was read comes to the chapters that are kept.
use Rattle.std.specs.Prelude.{ℕ, ◌≡◌, ◌+◌, ◌*◌, ◌-◌, ◌/◌, ◌%◌, ◌<◌, ◌≤◌, slice_index_or, List, [], ◌∷◌, All, Option, None, Some, nat_eq, nat_le, if◌then◌else◌, length}
use Rattle.std.specs.Option.{option_or}
use Rattle.blk_base.specs.declared.geometry.Geometry.{Geometry}
use Rattle.blk_base.specs.Regions.{first_index_of}
use Rattle.disk_model.specs.Seen.{Seen}
use Rattle.disk_model.specs.Trust.{Trust}
use Rattle.disk_model.specs.Since.{IsUntouched}
use Rattle.uds_chapters.specs.declared.entry.Record.{Record}
use Rattle.uds_chapters.specs.Chapters.{Numbered, location_of}
use Rattle.uds_chapters.specs.Names.{AreRising}
use Rattle.index_advice.specs.Books.{Book}
use Rattle.index_advice.specs.Orders.{IsChapter}
use Rattle.uds_index.specs.Rooms.{count_at, place_of_chapter}
use Rattle.uds_index.specs.declared.loader.LoadedPage.{LoadedPage}
use Rattle.uds_index.specs.Loads.{Loaded, Holds, ReadEach, IsLoadedBook}

abbrev pub loaded_page : LoadedPage → Loaded
loaded_page page = record { number = page.number; records = page.records }

-- the page of an index block that was read, or none
abbrev pub IsPageRead : Geometry → ℕ → Option (List ℕ) → Option Loaded → Type 0
IsPageRead g block None page = page ≡ None
IsPageRead g block (Some bytes) None = (page : Loaded) → Holds g.nonce (g.index / 4) block bytes page → ⊥
IsPageRead g block (Some bytes) (Some page) = Holds g.nonce (g.index / 4) block bytes page

-- the records of the chapter with a number
abbrev pub records_of : ℕ → List Numbered → List Record
records_of number [] = []
records_of number (one ∷ chapters) = if nat_eq one.number number then one.records else records_of number chapters

-- the chapters, the newest first, with this one, in place of that with its number
abbrev pub with_chapter : Numbered → List Numbered → List Numbered
with_chapter new [] = new ∷ []
with_chapter new (one ∷ chapters) =
    if nat_le one.number new.number then (new ∷ (if nat_eq one.number new.number then chapters else one ∷ chapters))
    else one ∷ with_chapter new chapters

-- a chapter of these records and those of a page: of a name that both have, the location of the former counts
pub record IsJoined (number : ℕ) (earlier page : List Record) (chapter : Numbered) : Type 0 where
  pub number_is : chapter.number ≡ number
  pub sorted : IsChapter chapter
  pub few : length chapter.records ≤ length earlier + length page
  pub found : (name : List ℕ) → location_of name chapter.records ≡ option_or (location_of name earlier) (location_of name page)

-- a page is kept: its records are joined to those of its chapter
pub record KeepsPage (number : ℕ) (page : List Record) (old new : List Numbered) : Type 0 where
  pub chapter : Numbered
  pub joined : IsJoined number (records_of number old) page chapter
  pub kept : new ≡ with_chapter chapter old

-- a chapter has no more records than its pages so far have room for
abbrev pub IsSmall : ℕ → ℕ → Numbered → Type 0
IsSmall places block chapter = length chapter.records ≤ 170 * (block - 4 * (chapter.number % places))

-- the index blocks before this one were read, once each and in rising order, and what they hold is kept
pub record IsLoading (g : Geometry) (trust : Trust) (before now : Seen) (block : ℕ) (book : Book) : Type 0 where
  pub reads : List (Option (List ℕ))
  pub count : length reads ≡ block
  pub each : ReadEach trust (first_index_of g) before now reads
  pub loaded : IsLoadedBook g reads book
  pub few : (place : ℕ) → count_at (place_of_chapter book.places) place book.kept ≤ block - 4 * place
  pub small : All (IsSmall book.places block) book.kept
  pub untouched : IsUntouched trust.tells before now

-- the first of these chapters, of which the newest stands first, that isn't newer than the number, stands here
pub record IsPlaceAmong (number : ℕ) (kept : List Numbered) (place : ℕ) : Type 0 where
  pub inside : place ≤ length kept
  pub before : (k : ℕ) (d : Numbered) → k < place → number < (slice_index_or kept k d).number
  pub behind : (d : Numbered) → place < length kept → (slice_index_or kept place d).number ≤ number

-- the chapter at the place has the number, and these records
pub record HasRecordsAt (number : ℕ) (kept : List Numbered) (place : ℕ) (records : List Record) : Type 0 where
  pub inside : place < length kept
  pub number_is : (d : Numbered) → (slice_index_or kept place d).number ≡ number
  pub records_are : (d : Numbered) → (slice_index_or kept place d).records ≡ records
  pub rising : AreRising records
