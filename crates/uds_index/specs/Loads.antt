-- The book that the index blocks of an image give.
use Rattle.std.specs.Prelude.{ℕ, suc, ◌≡◌, ◌⊎◌, ◌/◌, ◌%◌, ◌<◌, ◌^◌, Bool, IsTrue, List, [], ◌∷◌, filter, All, AllPairs, Option, None, Some, nat_eq}
use Rattle.std.specs.List.{list_any}
use Rattle.std.specs.Option.{option_or}
use Rattle.blk_base.specs.declared.place.Pbn.{Pbn}
use Rattle.blk_base.specs.declared.geometry.Geometry.{Geometry}
use Rattle.blk_base.specs.Regions.{first_index_of}
use Rattle.disk_model.specs.Seen.{Seen}
use Rattle.disk_model.specs.Trust.{Trust}
use Rattle.disk_model.specs.Since.{WereRead, NextFailed}
use Rattle.uds_chapters.specs.Chapters.{Numbered, location_of}
use Rattle.uds_chapters.specs.Pages.{IsPage}
use Rattle.index_advice.specs.Books.{Book}
use Rattle.index_advice.specs.Orders.{IsNewer, IsChapter}

-- a page that was loaded: its chapter's number, and its records
abbrev pub Loaded : Type 0
Loaded = Numbered

-- the block is a page of a chapter, and stands where the numbers of both say, as the index block with this number
pub record Holds (nonce places block : ℕ) (bytes : List ℕ) (page : Loaded) : Type 0 where
  pub number : page.number < 2 ^ 32
  pub place : page.number % places ≡ block / 4
  pub decodes : IsPage nonce page.number (block % 4) bytes page.records

-- What was read of the index blocks, the one with this number first: `None` where a read failed. The pages are those of
-- the blocks that were read and hold one, in the order of the blocks.
abbrev pub ArePages : ℕ → ℕ → ℕ → List (Option (List ℕ)) → List Loaded → Type 0
ArePages nonce places block [] pages = pages ≡ []
ArePages nonce places block (None ∷ reads) pages = ArePages nonce places (suc block) reads pages
ArePages nonce places block (Some bytes ∷ reads) pages =
    (((page : Loaded) → Holds nonce places block bytes page → ⊥) × ArePages nonce places (suc block) reads pages)
    ⊎ ((page : Loaded) × (others : List Loaded) × (pages ≡ page ∷ others) × Holds nonce places block bytes page × ArePages nonce places (suc block) reads others)

-- the pages of one chapter
abbrev pub pages_with : ℕ → List Loaded → List Loaded
pages_with number pages = filter (λ page. nat_eq page.number number) pages

-- the location in the first of these pages that has the name; of a chapter's pages the lower one stands first
abbrev pub loaded_location : List ℕ → List Loaded → Option Pbn
loaded_location name [] = None
loaded_location name (page ∷ pages) = option_or (location_of name page.records) (loaded_location name pages)

-- whether one of these pages is of the chapter with a number, and whether one of these chapters has it
abbrev pub has_page : ℕ → List Loaded → Bool
has_page number pages = list_any (λ page. nat_eq page.number number) pages

abbrev pub has_chapter : ℕ → List Numbered → Bool
has_chapter number chapters = list_any (λ chapter. nat_eq chapter.number number) chapters

-- the chapter of these pages with its number: it has a page, and of each name the location that its pages have
pub record IsLoaded (pages : List Loaded) (chapter : Numbered) : Type 0 where
  pub some : IsTrue (has_page chapter.number pages)
  pub sorted : IsChapter chapter
  pub same : (name : List ℕ) → location_of name chapter.records ≡ loaded_location name (pages_with chapter.number pages)

-- each page is one of a chapter among these
abbrev pub HasChapter : List Numbered → Loaded → Type 0
HasChapter chapters page = IsTrue (has_chapter page.number chapters)

-- The book after the index blocks were read: the chapters of the pages, the newest first, an empty open chapter, and no
-- page that is to be written.
pub record IsLoadedBook (g : Geometry) (reads : List (Option (List ℕ))) (book : Book) : Type 0 where
  pub nonce : book.nonce ≡ g.nonce
  pub first : book.first ≡ first_index_of g
  pub places : book.places ≡ g.index / 4
  pub pages : List Loaded
  pub decoded : ArePages g.nonce (g.index / 4) 0 reads pages
  pub newest_first : AllPairs IsNewer book.kept
  pub loaded : All (IsLoaded pages) book.kept
  pub all : All (HasChapter book.kept) pages
  pub unclosed : book.unclosed ≡ []
  pub due : book.due ≡ []

-- one read of a block: it gave these bytes, or it failed
abbrev pub ReadOne : Trust → ℕ → Seen → Seen → Option (List ℕ) → Type 0
ReadOne trust at before now None = NextFailed trust at before now []
ReadOne trust at before now (Some bytes) = WereRead trust at before now (bytes ∷ [])

-- one read of each block from this number on, in rising order, and nothing else
abbrev pub ReadEach : Trust → ℕ → Seen → Seen → List (Option (List ℕ)) → Type 0
ReadEach trust at before now [] = now ≡ before
ReadEach trust at before now (read ∷ reads) =
    (middle : Seen) × ReadOne trust at before middle read × ReadEach trust (suc at) middle now reads
