-- The lists of tags of a sparse index.
use Rattle.std.specs.Prelude.{ℕ, ◌≡◌, ◌*◌, ◌≤◌, List, [], ◌∷◌, map, take, AllPairs}
use Rattle.uds_chapters.specs.Chapters.{Numbered}
use Rattle.index_advice.specs.Books.{chapters_elsewhere}
use Rattle.index_advice.specs.Orders.{IsNewer}
use Rattle.uds_index.specs.Tags.{AreListed, Listed}
use Rattle.sparse_index.specs.Hooks.{hooks_of}
use Rattle.sparse_index.specs.Orders.{dense_count}

-- the list of the dense chapters' tags, and that of the tags of all hooks
pub record TwoLists : Type 0 where
  pub dense : Listed
  pub hooks : Listed

-- there is room for all that the lists will have
pub record HaveRoom (places : ℕ) (lists : TwoLists) : Type 0 where
  pub dense : 680 * dense_count places ≤ lists.dense.room
  pub hooks : 2720 * places ≤ lists.hooks.room

-- they are those of these chapters
pub record AreBoth (places : ℕ) (kept : List Numbered) (lists : TwoLists) : Type 0 where
  pub dense : AreListed (take (dense_count places) kept) lists.dense.tags
  pub hooks : AreListed (map hooks_of kept) lists.hooks.tags
  pub room : HaveRoom places lists

-- the number of the last of these chapters, or 0
abbrev pub last_number : List Numbered → ℕ
last_number [] = 0
last_number (chapter ∷ []) = chapter.number
last_number (chapter ∷ next ∷ others) = last_number (next ∷ others)

-- the lists are those of the chapters that were kept before the newest was closed, of which the last dense one had this number
pub record AreOlder (places : ℕ) (chapters : List Numbered) (end : ℕ) (lists : TwoLists) : Type 0 where
  pub older : List Numbered
  pub newest : Numbered
  pub kept : chapters ≡ newest ∷ chapters_elsewhere places newest.number older
  pub order : AllPairs IsNewer older
  pub last : end ≡ last_number (take (dense_count places) older)
  pub both : AreBoth places older lists
