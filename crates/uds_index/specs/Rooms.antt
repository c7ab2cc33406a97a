-- How many chapters, and pages, there are for one place of the index.
use Rattle.std.specs.Prelude.{ℕ, ◌+◌, ◌≤◌, ◌%◌, List, [], ◌∷◌, nat_eq, if◌then◌else◌}
use Rattle.uds_chapters.specs.Chapters.{Numbered}
use Rattle.index_advice.specs.Books.{DuePage}

-- how many of these stand at the place
abbrev pub count_at : {X : Type 0} (place_of : X → ℕ) (place : ℕ) → List X → ℕ
count_at place_of place [] = 0
count_at place_of place (one ∷ ones) = (if nat_eq (place_of one) place then 1 else 0) + count_at place_of place ones

-- at no place stand more than four
abbrev pub FewAtPlaces : {X : Type 0} (place_of : X → ℕ) → List X → Type 0
FewAtPlaces place_of ones = (place : ℕ) → count_at place_of place ones ≤ 4

-- where a chapter stands, and a page, among so many places
abbrev pub place_of_chapter : ℕ → Numbered → ℕ
place_of_chapter places chapter = chapter.number % places

abbrev pub place_of_page : ℕ → DuePage → ℕ
place_of_page places page = page.number % places
