-- The list of the tags of the chapters that are kept.
use Rattle.std.specs.Prelude.{ℕ, ◌≡◌, ◌*◌, ◌<◌, ◌≤◌, Bool, List, [], ◌∷◌, length, map, take, drop, filter, All, nat_eq, nat_le, if◌then◌else◌}
use Rattle.std.specs.List.{list_any}
use Rattle.std.specs.List.Sorted.{IsNonDecreasingBy, IsStrictlyIncreasing}
use Rattle.uds_chapters.specs.Chapters.{Numbered}
use Rattle.index_advice.specs.Books.{Book, has_tag, chapters_elsewhere}
use Rattle.uds_index.specs.declared.tags.Tagged.{Tagged}

-- tags with the numbers of their chapters, and how many there is room for
pub record Listed : Type 0 where
  pub room : ℕ
  pub tags : List Tagged

-- the tags rise
abbrev pub AreTagsRising : List Tagged → Type 0
AreTagsRising tags = IsNonDecreasingBy (λ one. one.tag) tags

-- those that are one tag
abbrev pub tagged_with : ℕ → List Tagged → List Tagged
tagged_with tag tags = filter (λ one. nat_eq one.tag tag) tags

-- The list of these chapters: its tags rise, of each tag it has the chapters that have it, in their order, and of a chapter
-- at most 680 tags.
pub record AreListed (kept : List Numbered) (tags : List Tagged) : Type 0 where
  pub rising : AreTagsRising tags
  pub numbers : (tag : ℕ) → map (λ one. one.number) (tagged_with tag tags) ≡ map (λ chapter. chapter.number) (filter (has_tag tag) kept)
  pub few : (test : ℕ → Bool) → length (filter (λ one. test one.number) tags) ≤ 680 * length (filter (λ chapter. test chapter.number) kept)

-- the list of a book's chapters, with room for all that the book may keep
pub record IsListed (book : Book) (list : Listed) : Type 0 where
  pub listed : AreListed book.kept list.tags
  pub room : 2720 * book.places ≤ list.room

-- the tags of a chapter: each once, in rising order
pub record AreTagsOf (chapter : Numbered) (own : List ℕ) : Type 0 where
  pub rising : IsStrictlyIncreasing own
  pub few : length own ≤ 680
  pub same : (tag : ℕ) → list_any (λ one. nat_eq one tag) own ≡ has_tag tag chapter

-- the list with this tag before the same ones of others
abbrev pub with_tag : Tagged → List Tagged → List Tagged
with_tag new [] = new ∷ []
with_tag new (one ∷ tags) = if nat_le new.tag one.tag then new ∷ one ∷ tags else one ∷ with_tag new tags

-- the list with these tags of the chapter with this number
abbrev pub with_tags : ℕ → List ℕ → List Tagged → List Tagged
with_tags number [] others = others
with_tags number (tag ∷ own) others = with_tag (record { tag = tag; number = number }) (with_tags number own others)

-- tags that rise are below this one up to here, and then not
pub record ArePartedAt (tag : ℕ) (tags : List Tagged) (place : ℕ) : Type 0 where
  pub inside : place ≤ length tags
  pub below : All (λ one. one.tag < tag) (take place tags)
  pub behind : All (λ one. tag ≤ one.tag) (drop place tags)

-- the newest chapter of the book is in place of others, of which and of all older ones this is the list
pub record IsNewestToList (book : Book) (list : Listed) : Type 0 where
  pub older : List Numbered
  pub newest : Numbered
  pub kept : book.kept ≡ newest ∷ chapters_elsewhere book.places newest.number older
  pub listed : AreListed older list.tags
  pub room : 2720 * book.places ≤ list.room
