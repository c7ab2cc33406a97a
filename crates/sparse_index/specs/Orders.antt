-- The order in which a sparse index asks its chapters for a name.
use Rattle.std.specs.Prelude.{ℕ, ◌+◌, ◌/◌, Bool, not, List, [], ◌++◌, take, drop, filter, Option, nat_eq, if◌then◌else◌}
use Rattle.std.specs.List.{list_any}
use Rattle.std.specs.Option.{option_or}
use Rattle.blk_base.specs.declared.place.Pbn.{Pbn}
use Rattle.block_names.specs.Names.{tag_of}
use Rattle.uds_chapters.specs.Chapters.{Numbered, location_of}
use Rattle.index_advice.specs.Books.{Book, first_location, has_tag}
use Rattle.sparse_index.specs.Hooks.{hooks_of, is_hook}

-- how many chapters are dense: an eighth of the index blocks, rounded up, of which a chapter has four
abbrev pub dense_count : ℕ → ℕ
dense_count places = (places + 1) / 2

-- the newest chapters are dense, and the others sparse
abbrev pub dense_chapters : Book → List Numbered
dense_chapters book = take (dense_count book.places) book.kept

abbrev pub sparse_chapters : Book → List Numbered
sparse_chapters book = drop (dense_count book.places) book.kept

-- whether the chapter's number is among these
abbrev pub is_among : List ℕ → Numbered → Bool
is_among numbers chapter = list_any (λ number. nat_eq number chapter.number) numbers

-- the two newest dense chapters with the name's tag
abbrev pub dense_with : List ℕ → Book → List Numbered
dense_with name book = take 2 (filter (has_tag (tag_of name)) (dense_chapters book))

-- the sparse chapters that are cached
abbrev pub cached_in : List ℕ → Book → List Numbered
cached_in cached book = filter (is_among cached) (sparse_chapters book)

-- for a hook, the newest sparse chapter that isn't cached and has a hook with its tag
abbrev pub to_read : List ℕ → List ℕ → Book → List Numbered
to_read name cached book =
    if is_hook name then
    take 1 (filter (λ chapter. has_tag (tag_of name) (hooks_of chapter)) (filter (λ chapter. not (is_among cached chapter)) (sparse_chapters book)))
    else []

-- the record of the first of these that has the name: the open chapter, two dense ones, those cached from the newest, and
-- the one that is read
abbrev pub sparse_record : List ℕ → List ℕ → Book → Option Pbn
sparse_record name cached book =
    option_or (location_of name book.unclosed) (first_location name (dense_with name book ++ (cached_in cached book ++ to_read name cached book)))
