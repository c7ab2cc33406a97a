-- What contracts see of the index, and what its looks answer.
use Rattle.std.specs.Prelude.{ℕ, ◌≡◌, ◌⊎◌, ◌+◌, ◌*◌, ◌/◌, ◌%◌, ◌-◌, ◌<◌, ◌≤◌, min, ◌||◌, ◌&&◌, not, Bool, true, false, List, [], ◌∷◌, ◌++◌, length, take, filter, Contains, HoldsAt, Option, None, Some, IsSome, nat_eq, if◌then◌else◌}
use Rattle.std.specs.List.Sorted.{IsPartitionPoint}
use Rattle.block_names.specs.Names.{tag_of}
use Rattle.uds_chapters.specs.Chapters.{Numbered, location_of}
use Rattle.uds_chapters.specs.Finds.{IsUnder, IsOver}
use Rattle.index_advice.specs.declared.look.Look.{Look}
use Rattle.index_advice.specs.declared.look.Look.TheVariants.{Known, Nothing, Read}
use Rattle.index_advice.specs.Books.{Book, has_tag, first_location, newest_record}
use Rattle.uds_index.specs.Rooms.{count_at}
use Rattle.uds_index.specs.declared.index_search.Region.{Region}

-- The index: its book; the index blocks whose pages are cached; and of the look that is under way, the block that it asked
-- for and wasn't given yet, those that it was given, in their order, and whether one of them couldn't be read.
pub record Index : Type 0 where
  pub book : Book
  pub cached : List ℕ
  pub asked : Option ℕ
  pub given : List ℕ
  pub unread : Bool

-- the chapters in which a look looks for a name
abbrev pub chapters_for : List ℕ → Book → List Numbered
chapters_for name book = take 4 (filter (has_tag (tag_of name)) book.kept)

-- the place of the index at which an index block stands
abbrev pub place_of_block : ℕ → ℕ → ℕ
place_of_block first at = (at - first) / 4

-- the block has a page of the chapter, where the index has so many places from its first block on
abbrev pub IsPageAt : ℕ → ℕ → ℕ → Numbered → Type 0
IsPageAt first places at chapter = (first ≤ at) × (at < first + 4 * places) × (place_of_block first at ≡ chapter.number % places)

-- A look may ask for the block: its page isn't cached and wasn't given in this look, and at most two other pages of its
-- chapter were, and eleven in all.
pub record IsNew (first : ℕ) (cached given : List ℕ) (at : ℕ) : Type 0 where
  pub uncached : Contains cached at → ⊥
  pub new : Contains given at → ⊥
  pub few_of_chapter : count_at (place_of_block first) (place_of_block first at) given ≤ 2
  pub few : length given ≤ 11

-- it is a page of one of these chapters, and may be asked for
pub record MayRead (first places : ℕ) (chapters : List Numbered) (cached given : List ℕ) (at : ℕ) : Type 0 where
  pub chapter : Numbered
  pub one : Contains chapters chapter
  pub page : IsPageAt first places at chapter
  pub asks : IsNew first cached given at

-- what these chapters say of a name: the record in the first that has one, or that there is none, or which page is to be
-- read first
abbrev pub FindsKept : Region → List Numbered → List ℕ → List ℕ → List ℕ → Look → Type 0
FindsKept region chapters cached given name (Known at) = first_location name chapters ≡ Some at
FindsKept region chapters cached given name Nothing = first_location name chapters ≡ None
FindsKept region chapters cached given name (Read at) = MayRead region.first region.places chapters cached given at.0

-- Which page is asked for.

-- the block of the page on which a name stands in a chapter, or would stand: a page has 170 records
pub record IsNamePage (first places : ℕ) (name : List ℕ) (at : ℕ) (chapter : Numbered) : Type 0 where
  pub place : ℕ
  pub inside : place ≤ length chapter.records
  pub stands : HoldsAt (λ one. one.name ≡ name) chapter.records place ⊎ IsPartitionPoint (IsUnder name) (IsOver name) chapter.records place
  pub block : at ≡ first + 4 * (chapter.number % places) + min (place / 170) 3

-- the name's page of the chapter needn't be asked for: it is cached or was given, or too many were
abbrev pub NeedsNone : Region → List ℕ → List ℕ → List ℕ → Numbered → Type 0
NeedsNone region cached given name chapter = (at : ℕ) × IsNamePage region.first region.places name at chapter × (IsNew region.first cached given at → ⊥)

-- of these chapters, up to the first that has the name, none has such a page to ask for
abbrev pub NoneToAsk : Region → List ℕ → List ℕ → List ℕ → List Numbered → Type 0
NoneToAsk region cached given name [] = Unit {0}
NoneToAsk region cached given name (chapter ∷ older) =
    NeedsNone region cached given name chapter × (location_of name chapter.records ≡ None → NoneToAsk region cached given name older)

-- the block is that of the first of these chapters that has one to ask for, and none before that has the name
abbrev pub IsFirstToAsk : Region → List ℕ → List ℕ → List ℕ → ℕ → List Numbered → Type 0
IsFirstToAsk region cached given name at [] = ⊥
IsFirstToAsk region cached given name at (chapter ∷ older) =
    (IsNamePage region.first region.places name at chapter × IsNew region.first cached given at)
    ⊎ (NeedsNone region cached given name chapter × (location_of name chapter.records ≡ None) × IsFirstToAsk region cached given name at older)

-- so it asks for that page, and for none where there is none to ask for
abbrev pub AsksInOrder : Region → List Numbered → List ℕ → List ℕ → List ℕ → Look → Type 0
AsksInOrder region chapters cached given name (Read at) = IsFirstToAsk region cached given name at.0 chapters
AsksInOrder region chapters cached given name other = NoneToAsk region cached given name chapters

-- the same of a book whose open chapter hasn't the name
abbrev pub AsksOf : Book → List ℕ → List ℕ → List ℕ → Look → Type 0
AsksOf book cached given name look =
    location_of name book.unclosed ≡ None → AsksInOrder (record { first = book.first; places = book.places }) (chapters_for name book) cached given name look

-- and of the index, unless a page couldn't be read
abbrev pub Asks : List ℕ → Index → Look → Type 0
Asks name index look = index.unread ≡ false → AsksOf index.book index.cached index.given name look

-- What a look answers.

-- the same of a book with its open chapter
abbrev pub Finds : Book → List ℕ → List ℕ → List ℕ → Look → Type 0
Finds book cached given name (Known at) = newest_record name book ≡ Some at
Finds book cached given name Nothing = newest_record name book ≡ None
Finds book cached given name (Read at) =
    (location_of name book.unclosed ≡ None) × MayRead book.first book.places (chapters_for name book) cached given at.0

-- what holds of every index: a look asks for at most twelve pages
abbrev pub AsksFew : Index → Type 0
AsksFew index = (IsSome index.asked → length index.given ≤ 11) × (length index.given ≤ 12)

-- no look is under way
abbrev pub at_rest : Index → Index
at_rest index = record index { asked = None; given = []; unread = false }

-- A look ends with the newest record, or with nothing exactly where there is none or a page that it asked for couldn't be
-- read. Until then it asks for a page.
abbrev pub Answers : List ℕ → Index → Look → Index → Type 0
Answers name old (Known at) new = (old.unread ≡ false) × (newest_record name old.book ≡ Some at) × (new ≡ at_rest old)
Answers name old Nothing new = ((newest_record name old.book ≡ None) ⊎ (old.unread ≡ true)) × (new ≡ at_rest old)
Answers name old (Read at) new = (old.unread ≡ false) × MayRead old.book.first old.book.places (chapters_for name old.book) old.cached old.given at.0 × (new ≡ record old { asked = Some at.0 })

-- only the book changed
abbrev pub SameLook : Index → Index → Type 0
SameLook old new = new ≡ record old { book = new.book }

-- whether the option is this number
abbrev pub is_just : ℕ → Option ℕ → Bool
is_just at None = false
is_just at (Some block) = nat_eq block at

-- whether this block was asked for
abbrev pub is_asked : Index → ℕ → Bool
is_asked index at = is_just at index.asked

-- The pages that are cached after this one was read: without memory they are those of before; else it stands first, and each of
-- the others was cached before.
abbrev pub Caches : ℕ → List ℕ → List ℕ → Type 0
Caches at old new = (new ≡ old) ⊎ ((others : List ℕ) × (new ≡ at ∷ others) × ((block : ℕ) → Contains others block → Contains old block))

-- what a page that is given does to those that are cached: one that was asked for and read is cached, and all others aren't
abbrev pub CachesIf : Bool → ℕ → List ℕ → List ℕ → Type 0
CachesIf true at old new = Caches at old new
CachesIf false at old new = new ≡ old

abbrev pub IsCached : Index → Index → ℕ → Bool → Type 0
IsCached old new at failed = CachesIf (is_asked old at && not failed) at old.cached new.cached

-- The block that was asked for is given, or couldn't be read. A block that wasn't asked for changes nothing of the look.
pub record IsGiven (old new : Index) (at : ℕ) (failed : Bool) : Type 0 where
  pub book : new.book ≡ old.book
  pub given : new.given ≡ (if is_asked old at then old.given ++ at ∷ [] else old.given)
  pub asked : new.asked ≡ (if is_asked old at then None else old.asked)
  pub unread : new.unread ≡ (if is_asked old at then failed || old.unread else old.unread)
