-- What a look finds, part by part.
use Rattle.std.specs.Prelude.{ℕ, zero, suc, ◌≡◌, ◌<◌, ◌≤◌, ◌&&◌, ◌||◌, not, Bool, true, false, List, [], ◌∷◌, ◌++◌, length, map, take, drop, filter, slice_index_or, All, AllPairs, Option, None, Some, is_none, is_some, nat_le, nat_lt, cond, refl}
use Rattle.std.specs.List.{find}
use Rattle.std.specs.Option.{option_map, option_or}
use Rattle.std.proofs.Common.{sym, ◌∙◌, ap, subst, arith, inl, inr}
use Rattle.std.proofs.lemmas.Bool.{false≢true, cases_lt}
use Rattle.std.proofs.lemmas.List.{get_or-map, length-map}
use Rattle.std.proofs.lemmas.List.Elements.{All-head, All-filter}
use Rattle.std.proofs.lemmas.List.Kept.{AllPairs-cons, AllPairs-filter}
use Rattle.blk_base.specs.declared.place.Pbn.{Pbn}
use Rattle.block_names.specs.Names.{tag_of}
use Rattle.uds_chapters.specs.Chapters.{Numbered, location_of}
use Rattle.index_advice.specs.declared.look.Look.{Look}
use Rattle.index_advice.specs.declared.look.Look.TheVariants.{Known, Nothing, Read}
use Rattle.index_advice.specs.Kept.{known}
use Rattle.index_advice.specs.Books.{Book, chapter_of, first_location, has_tag}
use Rattle.index_advice.specs.Orders.{IsNewer}
use Rattle.uds_index.specs.declared.tags.Tagged.{Tagged}
use Rattle.uds_index.specs.Tags.{AreListed, tagged_with}
use Rattle.uds_index.proofs.KeepLaws.{newer_head, newer_tail}
use Rattle.sparse_index.specs.Hooks.{hooks_of, is_hook}
use Rattle.sparse_index.specs.Orders.{cached_in, dense_count, dense_with, is_among, sparse_chapters, sparse_record, to_read}
use Rattle.sparse_index.specs.Keeps.{last_number}
use Rattle.sparse_index.specs.Lookups.{SparseIndex, block_to_ask, blocks_of, first_missing, is_known, missing_of, number_with, read_whole, used}
use Rattle.sparse_index.specs.Finds.{AreFalling, FindsLook, FindsOther, first_number, is_listed, location_at, location_by, may_ask}
use Rattle.sparse_index.proofs.ListLaws.{all_take, take_all, filter_map, filter_swap, find_filter, find_map, never, some_is}
use Rattle.sparse_index.proofs.FoundLaws.{all_own, find_passes, first_append, first_find, found_own}
use Rattle.sparse_index.proofs.DenseLaws.{sparse_below}

or_none : (o : Option Pbn) → option_or o None ≡ o
or_none None = refl
or_none (Some at) = refl

numbers_hooks : (chapters : List Numbered) → map (λ chapter. chapter.number) (map hooks_of chapters) ≡ map (λ chapter. chapter.number) chapters
numbers_hooks [] = refl
numbers_hooks (one ∷ chapters) = ap (λ (ns : List ℕ). one.number ∷ ns) (numbers_hooks chapters)

-- the tags of a name's hooks: the numbers of the chapters that have one, which fall
module _ (tag : ℕ) (kept : List Numbered) (tags tagged : List Tagged) (listed : AreListed (map hooks_of kept) tags) (is : tagged ≡ tagged_with tag tags) where
  abbrev with_hook : Numbered → Bool
  with_hook chapter = has_tag tag (hooks_of chapter)

  pub tagged_numbers : map (λ one. one.number) tagged ≡ map (λ chapter. chapter.number) (filter with_hook kept)
  tagged_numbers =
      ap (map (λ (one : Tagged). one.number)) is ∙ listed.numbers tag
      ∙ ap (map (λ (chapter : Numbered). chapter.number)) (sym (filter_map hooks_of (has_tag tag) kept))
      ∙ numbers_hooks (filter with_hook kept)

  pub tagged_fall : AllPairs IsNewer kept → AreFalling tagged
  tagged_fall newest = λ i j d before inside.
      let same = ap length tagged_numbers in
      let sizes = length-map tagged (λ (one : Tagged). one.number) in
      let chapters = length-map (filter with_hook kept) (λ (chapter : Numbered). chapter.number) in
      let within : j < length (filter with_hook kept) = omega (arith, same, sizes, chapters, inside) in
      let less = AllPairs-filter IsNewer with_hook kept newest i j no_chapter before within in
      let here = number_at i d (omega (arith, before, inside)) (omega (arith, before, within)) in
      let there = number_at j d inside within in
      omega (arith, less, here, there)
    where
      no_chapter : Numbered
      no_chapter = record { number = 0; records = [] }

      number_at : (k : ℕ) (d : Tagged) → k < length tagged → k < length (filter with_hook kept)
          → (slice_index_or tagged k d).number ≡ (slice_index_or (filter with_hook kept) k no_chapter).number
      number_at k d inside within =
          sym (get_or-map (λ (one : Tagged). one.number) tagged k d 0 inside)
          ∙ ap (λ (ns : List ℕ). slice_index_or ns k 0) tagged_numbers
          ∙ get_or-map (λ (chapter : Numbered). chapter.number) (filter with_hook kept) k no_chapter 0 within

first_of : (p : Numbered → Bool) (chapters : List Numbered) → first_number (take 1 (filter p chapters)) ≡ option_map (λ chapter. chapter.number) (find p chapters)
first_of p [] = refl
first_of p (one ∷ chapters) = by (p one) (first_of p chapters)
  where
    by : (b : Bool) → first_number (take 1 (filter p chapters)) ≡ option_map (λ chapter. chapter.number) (find p chapters)
        → first_number (take 1 (cond b (one ∷ filter p chapters) (filter p chapters))) ≡ option_map (λ chapter. chapter.number) (cond b (Some one) (find p chapters))
    by true rest = refl
    by false rest = rest

module _ (tag : ℕ) (cached : List ℕ) (m : ℕ) (kept : List Numbered) (tags tagged : List Tagged) where
  abbrev end : ℕ
  end = last_number (take (suc m) kept)

  abbrev fresh : ℕ → Bool
  fresh number = not (is_listed cached number)

  abbrev old : ℕ → Bool
  old number = nat_lt number end

  abbrev hook : Numbered → Bool
  hook chapter = has_tag tag (hooks_of chapter)

  abbrev sparse : List Numbered
  sparse = drop (suc m) kept

  -- the first of these that is sparse and isn't cached is the chapter that is read
  pub other_is : AllPairs IsNewer kept → AreListed (map hooks_of kept) tags → tagged ≡ tagged_with tag tags
      → option_map (λ one. one.number) (find (λ one. not (is_listed cached one.number)) (filter (λ one. nat_lt one.number (last_number (take (suc m) kept))) tagged))
      ≡ first_number (take 1 (filter (λ chapter. has_tag tag (hooks_of chapter)) (filter (λ chapter. not (is_among cached chapter)) (drop (suc m) kept))))
  other_is newest listed is =
      find_map (λ (one : Tagged). one.number) fresh (filter (λ one. nat_lt one.number end) tagged)
      ∙ ap (find fresh) (filter_map (λ (one : Tagged). one.number) old tagged
      ∙ ap (filter old) (tagged_numbers tag kept tags tagged listed is)
      ∙ sym (filter_map (λ (chapter : Numbered). chapter.number) old (filter hook kept))
      ∙ ap (map (λ (chapter : Numbered). chapter.number)) (filter_swap (λ (chapter : Numbered). old chapter.number) hook kept ∙ ap (filter hook) (sym (sparse_below m kept newest))))
      ∙ sym (find_map (λ (chapter : Numbered). chapter.number) fresh (filter hook sparse))
      ∙ sym (first_of (λ chapter. fresh chapter.number) (filter hook sparse))
      ∙ ap (λ (cs : List Numbered). first_number (take 1 cs)) (filter_swap (λ chapter. fresh chapter.number) hook sparse)

-- the chapter that is read
pub record IsReadNext (name : List ℕ) (cached : List ℕ) (book : Book) (number : ℕ) (chapter : Numbered) : Type 0 where
  pub one : to_read name cached book ≡ chapter ∷ []
  pub number_is : chapter.number ≡ number
  pub own : chapter_of number (sparse_chapters book) ≡ Some chapter

pub drop_order : (n : ℕ) (kept : List Numbered) → AllPairs IsNewer kept → AllPairs IsNewer (drop n kept)
drop_order zero [] newest = newest
drop_order zero (one ∷ kept) newest = newest
drop_order (suc n) [] newest = newest
drop_order (suc n) (one ∷ kept) newest = drop_order n kept (newer_tail one kept newest)

pub take_order : (n : ℕ) (kept : List Numbered) → AllPairs IsNewer kept → AllPairs IsNewer (take n kept)
take_order zero kept newest = λ i j d before inside. absurd (omega (arith, inside))
take_order (suc n) [] newest = newest
take_order (suc n) (one ∷ kept) newest =
    AllPairs-cons IsNewer one (take n kept) (all_take (IsNewer one) n kept (newer_head one kept newest)) (take_order n kept (newer_tail one kept newest))

module _ (name cached : List ℕ) (book : Book) (number : ℕ) (newest : AllPairs IsNewer book.kept) where
  abbrev all : List Numbered
  all = filter (λ chapter. has_tag (tag_of name) (hooks_of chapter)) (filter (λ chapter. not (is_among cached chapter)) (sparse_chapters book))

  abbrev IsOwn : Numbered → Type 0
  IsOwn chapter = chapter_of chapter.number (sparse_chapters book) ≡ Some chapter

  own : All IsOwn all
  own = All-filter (λ chapter. has_tag (tag_of name) (hooks_of chapter)) IsOwn (filter (λ chapter. not (is_among cached chapter)) (sparse_chapters book))
      (All-filter (λ chapter. not (is_among cached chapter)) IsOwn (sparse_chapters book)
      (all_own (sparse_chapters book) (drop_order (dense_count book.places) book.kept newest)))

  first : is_hook name ≡ true → (ones : List Numbered) → all ≡ ones → All IsOwn ones → first_number (take 1 ones) ≡ Some number
      → (chapter : Numbered) × IsReadNext name cached book number chapter
  first hook [] same owns is = absurd (never number is)
  first hook (one ∷ ones) same owns is =
      let e : one.number ≡ number = some_is one.number number is in (
        one,
        record {
          one = ap (λ (b : Bool). cond b (take 1 all) []) hook ∙ ap (take 1) same;
          number_is = e;
          own = subst (λ (n : ℕ). chapter_of n (sparse_chapters book) ≡ Some one) e (All-head IsOwn one ones owns);
        },
      )

  pub read_next : first_number (to_read name cached book) ≡ Some number → (chapter : Numbered) × IsReadNext name cached book number chapter
  read_next is = by (is_hook name) refl is
    where
      by : (b : Bool) → is_hook name ≡ b → first_number (cond b (take 1 all) []) ≡ Some number → (chapter : Numbered) × IsReadNext name cached book number chapter
      by true hook is = first hook all refl own is
      by false hook is = absurd (never number is)

pub read_none : (chapters : List Numbered) → first_number chapters ≡ None → chapters ≡ []
read_none [] is = refl
read_none (one ∷ chapters) is = absurd (never one.number (sym is))

-- what it says

pub other_none : (index : SparseIndex) (name : List ℕ) (chapters : List Numbered) → first_number chapters ≡ None → FindsOther index chapters (first_location name chapters) Nothing None
other_none index name chapters is =
    subst (λ (cs : List Numbered). FindsOther index cs (first_location name cs) Nothing None) (sym (read_none chapters is)) (nothing (nat_le 4 (length index.given)), refl, refl)
  where
    nothing : (b : Bool) → ◌≡◌ {A = Option ℕ} (cond b None None) None
    nothing true = refl
    nothing false = refl

module _ (index : SparseIndex) (name : List ℕ) (chapter : Numbered) (chapters : List Numbered) (one : chapters ≡ chapter ∷ []) (location : Option Pbn)
    (of : location ≡ location_of name chapter.records) (missing : Option ℕ) (is : missing ≡ first_missing index.given (blocks_of index.book chapter)) where
  known_other : (o : Option Pbn) (used : Option ℕ) → o ≡ first_location name (chapter ∷ []) → may_ask index (chapter ∷ []) ≡ None → used ≡ read_whole index (chapter ∷ [])
      → FindsOther index (chapter ∷ []) (first_location name (chapter ∷ [])) (known o) used
  known_other None used says asks whole = (asks, sym says, whole)
  known_other (Some at) used says asks whole = (asks, sym says, whole)

  says_it : location ≡ first_location name (chapter ∷ [])
  says_it = of ∙ sym (or_none (location_of name chapter.records))

  pub other_whole : missing ≡ None → FindsOther index chapters (first_location name chapters) (known location) (Some chapter.number)
  other_whole none =
      subst (λ (cs : List Numbered). FindsOther index cs (first_location name cs) (known location) (Some chapter.number)) (sym one)
      (known_other location (Some chapter.number) says_it
      (ap (λ (o : Option ℕ). cond (nat_le 4 (length index.given)) None o) (sym is ∙ none) ∙ nothing (nat_le 4 (length index.given)))
      (ap (λ (o : Option ℕ). cond (is_none o) (Some chapter.number) None) (sym none ∙ is)))
    where
      nothing : (b : Bool) → ◌≡◌ {A = Option ℕ} (cond b None None) None
      nothing true = refl
      nothing false = refl

  pub other_asks : (at : Pbn) → missing ≡ Some at.0 → nat_le 4 (length index.given) ≡ false → FindsOther index chapters (first_location name chapters) (Read at) None
  other_asks at some few =
      subst (λ (cs : List Numbered). may_ask index cs ≡ Some at.0) (sym one)
      (ap (λ (b : Bool). cond b None (first_missing index.given (blocks_of index.book chapter))) few ∙ sym is ∙ some)

  pub other_full : (at : ℕ) → missing ≡ Some at → nat_le 4 (length index.given) ≡ true → FindsOther index chapters (first_location name chapters) (known location) None
  other_full at some full =
      subst (λ (cs : List Numbered). FindsOther index cs (first_location name cs) (known location) None) (sym one)
      (known_other location None says_it
      (ap (λ (b : Bool). cond b None (first_missing index.given (blocks_of index.book chapter))) full)
      (ap (λ (o : Option ℕ). cond (is_none o) (Some chapter.number) None) (sym some ∙ is)))

-- the first two, by the least of two numbers
pub take_least : {X : Type 0} (n : ℕ) (ones : List X) → n ≤ 2 → ((m : ℕ) → m ≤ 2 → m ≤ length ones → m ≤ n) → take n ones ≡ take 2 ones
take_least {X = X} n ones few least = elim (cases_lt (length ones) 2) [
  | inl less ↦
      let all = least (length ones) (omega (arith, less)) (omega arith) in
      take_all n ones all ∙ sym (take_all 2 ones (omega (arith, less)))
  | inr more ↦
      let two = least 2 (omega arith) more in
      let same : n ≡ 2 = omega (arith, few, two) in
      ap (λ (k : ℕ). take k ones) same
]

-- The order of the parts.
module _ (name : List ℕ) (index : SparseIndex) where
  abbrev dense_two : List Numbered
  dense_two = dense_with name index.book

  abbrev cached_all : List Numbered
  cached_all = cached_in index.cached index.book

  abbrev read_one : List Numbered
  read_one = to_read name index.cached index.book

  abbrev early : Option Pbn
  early = option_or (location_of name index.book.unclosed) (first_location name dense_two)

  or_parts : (a b c : Option Pbn) → option_or a (option_or b c) ≡ option_or (option_or a b) c
  or_parts None b c = refl
  or_parts (Some at) b c = refl

  record_is : sparse_record name index.cached index.book ≡ option_or early (option_or (first_location name cached_all) (first_location name read_one))
  record_is =
      ap (option_or (location_of name index.book.unclosed)) (first_append name dense_two (cached_all ++ read_one) ∙ ap (option_or (first_location name dense_two)) (first_append name cached_all read_one))
      ∙ or_parts (location_of name index.book.unclosed) (first_location name dense_two) (option_or (first_location name cached_all) (first_location name read_one))

  known_is : is_known name index ≡ is_some (option_or early (first_location name cached_all))
  known_is = ap is_some (ap (option_or (location_of name index.book.unclosed)) (first_append name dense_two cached_all)
      ∙ or_parts (location_of name index.book.unclosed) (first_location name dense_two) (first_location name cached_all))

  asks_none : is_known name index ≡ true → block_to_ask name index ≡ None
  asks_none is = ap (λ (b : Bool). cond (b || nat_le 4 (length index.given)) None (missing_of index read_one)) is

  asks_other : is_known name index ≡ false → block_to_ask name index ≡ may_ask index read_one
  asks_other is = ap (λ (b : Bool). cond (b || nat_le 4 (length index.given)) None (missing_of index read_one)) is

  used_late : early ≡ None → used name index ≡ option_or (number_with name cached_all) (read_whole index read_one)
  used_late is = ap (λ (o : Option Pbn). cond (is_some o) None (option_or (number_with name cached_all) (read_whole index read_one))) is

  -- the open chapter has the name, or a dense one
  pub finds_early : (at : Pbn) → early ≡ Some at → FindsLook name index (Known at) None
  finds_early at is = (
    asks_none (known_is ∙ ap (λ (o : Option Pbn). is_some (option_or o (first_location name cached_all))) is),
    record_is ∙ ap (λ (o : Option Pbn). option_or o (option_or (first_location name cached_all) (first_location name read_one))) is,
    ap (λ (o : Option Pbn). cond (is_some o) None (option_or (number_with name cached_all) (read_whole index read_one))) (sym is),
  )

  -- a cached one has it
  pub finds_cached : (location : Option Pbn) (number : ℕ) → early ≡ None → location ≡ first_location name cached_all → is_some location ≡ true → number_with name cached_all ≡ Some number
      → FindsLook name index (known location) (Some number)
  finds_cached None number is says some found = absurd (false≢true some)
  finds_cached (Some at) number is says some found = (
    asks_none (known_is ∙ ap (λ (o : Option Pbn). is_some (option_or o (first_location name cached_all))) is ∙ ap is_some (sym says)),
    record_is ∙ ap (λ (o : Option Pbn). option_or o (option_or (first_location name cached_all) (first_location name read_one))) is
        ∙ ap (λ (o : Option Pbn). option_or o (first_location name read_one)) (sym says),
    sym (used_late is ∙ ap (λ (o : Option ℕ). option_or o (read_whole index read_one)) found),
  )

  -- none of these has it
  pub finds_later : (look : Look) (one : Option ℕ) → early ≡ None → first_location name cached_all ≡ None → number_with name cached_all ≡ None
      → FindsOther index read_one (first_location name read_one) look one → FindsLook name index look one
  finds_later look one is none no_number other = by look other
    where
      unknown : is_known name index ≡ false
      unknown = known_is ∙ ap (λ (o : Option Pbn). is_some (option_or o (first_location name cached_all))) is ∙ ap is_some none

      says : sparse_record name index.cached index.book ≡ first_location name read_one
      says = record_is ∙ ap (λ (o : Option Pbn). option_or o (option_or (first_location name cached_all) (first_location name read_one))) is
          ∙ ap (λ (o : Option Pbn). option_or o (first_location name read_one)) none

      whole : used name index ≡ read_whole index read_one
      whole = used_late is ∙ ap (λ (o : Option ℕ). option_or o (read_whole index read_one)) no_number

      by : (look : Look) → FindsOther index read_one (first_location name read_one) look one → FindsLook name index look one
      by (Known at) other = (asks_other unknown ∙ other.0, says ∙ other.1, other.2 ∙ sym whole)
      by Nothing other = (asks_other unknown ∙ other.0, says ∙ other.1, other.2 ∙ sym whole)
      by (Read at) other = asks_other unknown ∙ other

  -- the cached chapter that was found
  pub cached_number : option_map (λ chapter. chapter.number) (find (λ chapter. is_among index.cached chapter && is_some (location_of name chapter.records)) (sparse_chapters index.book))
      ≡ number_with name cached_all
  cached_number = ap (option_map (λ (chapter : Numbered). chapter.number)) (sym (find_filter (is_among index.cached) (λ chapter. is_some (location_of name chapter.records)) (sparse_chapters index.book)))

  pub cached_none : number_with name cached_all ≡ None → first_location name cached_all ≡ None
  cached_none is = first_find name cached_all ∙ by (find (λ chapter. is_some (location_of name chapter.records)) cached_all) is
    where
      by : (o : Option Numbered) → option_map (λ (chapter : Numbered). chapter.number) o ≡ None → location_at name o ≡ None
      by None is = refl
      by (Some one) is = absurd (never one.number (sym is))

  pub cached_says : (number : ℕ) → AllPairs IsNewer index.book.kept → number_with name cached_all ≡ Some number
      → (location_by name (sparse_chapters index.book) number ≡ first_location name cached_all) × (is_some (location_by name (sparse_chapters index.book) number) ≡ true)
  cached_says number newest is = by (find (λ chapter. is_some (location_of name chapter.records)) cached_all) refl is
    where
      order : AllPairs IsNewer (sparse_chapters index.book)
      order = drop_order (dense_count index.book.places) index.book.kept newest

      by : (o : Option Numbered) → find (λ chapter. is_some (location_of name chapter.records)) cached_all ≡ o → option_map (λ (chapter : Numbered). chapter.number) o ≡ Some number
          → (location_by name (sparse_chapters index.book) number ≡ first_location name cached_all) × (is_some (location_by name (sparse_chapters index.book) number) ≡ true)
      by None found is = absurd (never number is)
      by (Some one) found is =
          let e : one.number ≡ number = some_is one.number number is in
          let own = found_own (λ chapter. is_among index.cached chapter && is_some (location_of name chapter.records)) (sparse_chapters index.book) one order
          (sym (find_filter (is_among index.cached) (λ chapter. is_some (location_of name chapter.records)) (sparse_chapters index.book)) ∙ found) in
          let here : location_by name (sparse_chapters index.book) number ≡ location_of name one.records =
          ap (location_by name (sparse_chapters index.book)) (sym e) ∙ ap (location_at name) own in (
            here ∙ sym (first_find name cached_all ∙ ap (location_at name) found),
            ap is_some here ∙ find_passes (λ chapter. is_some (location_of name chapter.records)) cached_all one found,
          )
