-- Books in order.
use Rattle.std.specs.Prelude.{◌<◌, ◌≤◌, List, length, All, AllPairs, IsSome}
use Rattle.uds_chapters.specs.Chapters.{Numbered}
use Rattle.uds_chapters.specs.Names.{AreRising}
use Rattle.index_advice.specs.Books.{Book, DuePage, chapter_of}

-- the first chapter is newer
abbrev pub IsNewer : Numbered → Numbered → Type 0
IsNewer one other = other.number < one.number

-- the records of a chapter: at most 680, sorted by name
abbrev pub IsChapter : Numbered → Type 0
IsChapter chapter = (length chapter.records ≤ 680) × AreRising chapter.records

-- the page is one of the four of a chapter that is kept
abbrev pub IsOfKept : List Numbered → DuePage → Type 0
IsOfKept kept page = (page.page < 4) × IsSome (chapter_of page.number kept)

-- the newest chapter stands first, each is sorted, and only pages of chapters that are kept are to be written
pub record IsInOrder (book : Book) : Type 0 where
  pub newest_first : AllPairs IsNewer book.kept
  pub chapters : All IsChapter book.kept
  pub unclosed : (length book.unclosed ≤ 680) × AreRising book.unclosed
  pub due : All (IsOfKept book.kept) book.due
