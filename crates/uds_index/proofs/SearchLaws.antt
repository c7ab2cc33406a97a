-- The chapters that a look searches, from one of them on.
use Rattle.std.specs.Prelude.{ℕ, zero, suc, ◌≡◌, ◌≢◌, ◌<◌, ◌≤◌, Bool, true, false, List, [], ◌∷◌, length, map, take, drop, filter, slice_index_or, All, AllPairs, Contains, Option, None, Some, cond, refl}
use Rattle.std.specs.Option.{option_or}
use Rattle.std.proofs.Common.{sym, ◌∙◌, ap, subst, arith, inl, inr}
use Rattle.std.proofs.lemmas.Bool.{eq-eqb, ne_eqb, cases_lt}
use Rattle.std.proofs.lemmas.List.{get_or-map, get_or-take, length-map}
use Rattle.std.proofs.lemmas.List.Elements.{All-filter}
use Rattle.blk_base.specs.declared.place.Pbn.{Pbn}
use Rattle.block_names.specs.Names.{tag_of}
use Rattle.uds_chapters.specs.Chapters.{Numbered, location_of}
use Rattle.index_advice.specs.Books.{first_location, chapter_of, has_tag}
use Rattle.index_advice.specs.Orders.{IsNewer}
use Rattle.uds_index.specs.declared.tags.Tagged.{Tagged}
use Rattle.uds_index.specs.Tags.{AreListed, tagged_with}
use Rattle.uds_index.proofs.KeepLaws.{newer_head, newer_tail}
use Rattle.uds_index.proofs.RoomLaws.{same_read}

-- a list from one of its elements on
pub drop_here : {X : Type 0} (ones : List X) (k : ℕ) (d : X) → k < length ones → drop k ones ≡ slice_index_or ones k d ∷ drop (suc k) ones
drop_here [] k d inside = absurd (omega (arith, inside))
drop_here (one ∷ ones) zero d inside = refl
drop_here (one ∷ ones) (suc k) d inside = drop_here ones k d (omega (arith, inside))

pub drop_none : {X : Type 0} (ones : List X) (k : ℕ) → length ones ≤ k → drop k ones ≡ []
drop_none [] zero none = refl
drop_none [] (suc k) none = refl
drop_none (one ∷ ones) zero none = absurd (omega (arith, none))
drop_none (one ∷ ones) (suc k) none = drop_none ones k (omega (arith, none))

take_inside : {X : Type 0} (n k : ℕ) (ones : List X) → k < n → k < length ones → k < length (take n ones)
take_inside zero k ones below inside = absurd (omega (arith, below))
take_inside (suc n) k [] below inside = absurd (omega (arith, inside))
take_inside (suc n) zero (one ∷ ones) below inside = omega arith
take_inside (suc n) (suc k) (one ∷ ones) below inside = let rest = take_inside n k ones (omega (arith, below)) (omega (arith, inside)) in omega (arith, rest)

pub take_few : {X : Type 0} (n : ℕ) (ones : List X) → (length (take n ones) ≤ n) × (length (take n ones) ≤ length ones)
take_few zero ones = (omega arith, omega arith)
take_few (suc n) [] = (omega arith, omega arith)
take_few (suc n) (one ∷ ones) = let rest = take_few n ones in (omega (arith, rest.0), omega (arith, rest.1))

-- what is left says what all say

pub search_start : (name : List ℕ) (all : List Numbered) → first_location name all ≡ first_location name (drop 0 all)
search_start name [] = refl
search_start name (one ∷ ones) = refl

-- where a chapter hasn't the name, the others are left
pub search_on : (name : List ℕ) (all : List Numbered) (k : ℕ) (one : Numbered) → drop k all ≡ one ∷ drop (suc k) all → location_of name one.records ≡ None
    → first_location name all ≡ first_location name (drop k all) → first_location name all ≡ first_location name (drop (suc k) all)
search_on name all k one here none same = same ∙ ap (first_location name) here ∙ first
  where
    first : option_or (location_of name one.records) (first_location name (drop (suc k) all)) ≡ first_location name (drop (suc k) all)
    first = rw none refl

-- where it has it, that is what all of them say
pub search_found : (name : List ℕ) (all : List Numbered) (k : ℕ) (one : Numbered) (at : Pbn) → drop k all ≡ one ∷ drop (suc k) all → location_of name one.records ≡ Some at
    → first_location name all ≡ first_location name (drop k all) → first_location name all ≡ Some at
search_found name all k one at here found same = same ∙ ap (first_location name) here ∙ first
  where
    first : option_or (location_of name one.records) (first_location name (drop (suc k) all)) ≡ Some at
    first = rw found refl

-- the numbers of the chapters that are searched, and of the tags that were found, are the same
same_length : (ones : List Tagged) (chapters : List Numbered) → map (λ one. one.number) ones ≡ map (λ chapter. chapter.number) chapters → length ones ≡ length chapters
same_length ones chapters same =
    sym (length-map ones (λ (one : Tagged). one.number)) ∙ ap length same ∙ length-map chapters (λ (chapter : Numbered). chapter.number)

-- nothing is left behind the last tag, or the fourth
pub search_over : (name : List ℕ) (ones : List Tagged) (chapters : List Numbered) (k : ℕ) → map (λ one. one.number) ones ≡ map (λ chapter. chapter.number) chapters
    → ((m : ℕ) → m ≤ 4 → m ≤ length ones → m ≤ k) → first_location name (take 4 chapters) ≡ first_location name (drop k (take 4 chapters)) → first_location name (take 4 chapters) ≡ None
search_over name ones chapters k same end says = says ∙ ap (first_location name) (drop_none (take 4 chapters) k over)
  where
    over : length (take 4 chapters) ≤ k
    over = let few = take_few 4 chapters in let size = same_length ones chapters same in end (length (take 4 chapters)) few.0 (omega (arith, few.1, size))

-- a chapter that passes a test is the one with its number
passing : (test : Numbered → Bool) (kept : List Numbered) (k : ℕ) (d : Numbered) → AllPairs IsNewer kept → k < length (filter test kept)
    → chapter_of (slice_index_or (filter test kept) k d).number kept ≡ Some (slice_index_or (filter test kept) k d)
passing test [] k d newest inside = absurd (omega (arith, inside))
passing test (one ∷ kept) k d newest inside = by (test one) k inside (λ k within. passing test kept k d (newer_tail one kept newest) within)
  where
    here : chapter_of one.number (one ∷ kept) ≡ Some one
    here = rw (eq-eqb one.number one.number refl) refl

    older : All (IsNewer one) (filter test kept)
    older = All-filter test (IsNewer one) kept (newer_head one kept newest)

    apart : (k : ℕ) → k < length (filter test kept) → one.number ≢ (slice_index_or (filter test kept) k d).number
    apart k inside same = let less = older k d inside in omega (arith, less, same)

    later : (k : ℕ) → k < length (filter test kept)
        → chapter_of (slice_index_or (filter test kept) k d).number kept ≡ Some (slice_index_or (filter test kept) k d)
        → chapter_of (slice_index_or (filter test kept) k d).number (one ∷ kept) ≡ Some (slice_index_or (filter test kept) k d)
    later k inside rest = rw (ne_eqb one.number (slice_index_or (filter test kept) k d).number (apart k inside)) rest

    by : (b : Bool) (k : ℕ) → k < length (cond b (one ∷ filter test kept) (filter test kept))
        → ((k : ℕ) → k < length (filter test kept) → chapter_of (slice_index_or (filter test kept) k d).number kept ≡ Some (slice_index_or (filter test kept) k d))
        → chapter_of (slice_index_or (cond b (one ∷ filter test kept) (filter test kept)) k d).number (one ∷ kept) ≡ Some (slice_index_or (cond b (one ∷ filter test kept) (filter test kept)) k d)
    by true zero inside rest = here
    by true (suc k) inside rest = later k (omega (arith, inside)) (rest k (omega (arith, inside)))
    by false k inside rest = later k inside (rest k inside)

-- the chapter of a tag that was found is the one that is searched next
pub record IsSearched (test : Numbered → Bool) (kept : List Numbered) (k : ℕ) (number : ℕ) (chapter : Numbered) : Type 0 where
  pub is : chapter_of number kept ≡ Some chapter
  pub here : drop k (take 4 (filter test kept)) ≡ chapter ∷ drop (suc k) (take 4 (filter test kept))
  pub one : Contains (take 4 (filter test kept)) chapter

searched : (test : Numbered → Bool) (kept : List Numbered) (ones : List Tagged) (k : ℕ) (one : Tagged) (d : Numbered) → AllPairs IsNewer kept
    → map (λ one. one.number) ones ≡ map (λ chapter. chapter.number) (filter test kept) → k < 4 → k < length ones → one ≡ slice_index_or ones k one
    → IsSearched test kept k one.number (slice_index_or (filter test kept) k d)
searched test kept ones k one d newest same few inside at = record {
  is = ap (λ (n : ℕ). chapter_of n kept) number ∙ passing test kept k d newest within;
  here = drop_here (take 4 (filter test kept)) k d taken ∙ ap (λ (c : Numbered). c ∷ drop (suc k) (take 4 (filter test kept))) (get_or-take 4 (filter test kept) k d few);
  one = (
    k,
    taken,
    get_or-take 4 (filter test kept) k (slice_index_or (filter test kept) k d) few ∙ same_read (filter test kept) k (slice_index_or (filter test kept) k d) d within,
  );
}
  where
    within : k < length (filter test kept)
    within = let size = same_length ones (filter test kept) same in omega (arith, size, inside)

    taken : k < length (take 4 (filter test kept))
    taken = take_inside 4 k (filter test kept) few within

    number : one.number ≡ (slice_index_or (filter test kept) k d).number
    number =
        ap (λ (t : Tagged). t.number) at
        ∙ sym (get_or-map (λ (t : Tagged). t.number) ones k one 0 inside)
        ∙ ap (λ (ns : List ℕ). slice_index_or ns k 0) same
        ∙ get_or-map (λ (c : Numbered). c.number) (filter test kept) k d 0 within

pub searched_at : (test : Numbered → Bool) (kept : List Numbered) (ones : List Tagged) (k : ℕ) (one : Tagged) → AllPairs IsNewer kept
    → map (λ one. one.number) ones ≡ map (λ chapter. chapter.number) (filter test kept) → k < 4 → k < length ones → one ≡ slice_index_or ones k one
    → (chapter : Numbered) × IsSearched test kept k one.number chapter
searched_at test kept ones k one newest same few inside at =
    (slice_index_or (filter test kept) k none, searched test kept ones k one none newest same few inside at)
  where
    none : Numbered
    none = record { number = 0; records = [] }

some_is : {X : Type 0} (a b : X) → ◌≡◌ {A = Option X} (Some a) (Some b) → a ≡ b
some_is a b same = cc

never : {X : Type 0} (a : X) → ◌≡◌ {A = Option X} None (Some a) → ⊥
never a same = cc

-- what a step of a look knows
module _ (name : List ℕ) (kept : List Numbered) (tags tagged : List Tagged) (tag count k : ℕ) (d : Tagged) (newest : AllPairs IsNewer kept) (listed : AreListed kept tags)
    (is : tagged ≡ tagged_with tag tags) (of : tag ≡ tag_of name) where
  same_numbers : map (λ one. one.number) tagged ≡ map (λ chapter. chapter.number) (filter (has_tag (tag_of name)) kept)
  same_numbers = ap (map (λ (one : Tagged). one.number)) (is ∙ ap (λ (n : ℕ). tagged_with n tags) of) ∙ listed.numbers (tag_of name)

  step : count ≤ 4 → k < length (take count tagged)
      → (chapter : Numbered) × IsSearched (has_tag (tag_of name)) kept k (slice_index_or (take count tagged) k d).number chapter
  step few inside =
      searched_at (has_tag (tag_of name)) kept tagged k (slice_index_or (take count tagged) k d) newest same_numbers
      (let s = take_few count tagged in omega (arith, s.0, inside, few)) within
      (get_or-take count tagged k d (let s = take_few count tagged in omega (arith, s.0, inside)) ∙ same_read tagged k d (slice_index_or (take count tagged) k d) within)
    where
      within : k < length tagged
      within = let s = take_few count tagged in omega (arith, s.1, inside)

  pub step_is : count ≤ 4 → k < length (take count tagged) → (one : Numbered) → chapter_of (slice_index_or (take count tagged) k d).number kept ≡ Some one
      → IsSearched (has_tag (tag_of name)) kept k (slice_index_or (take count tagged) k d).number one
  step_is few inside one found =
      let s = step few inside in
      subst (IsSearched (has_tag (tag_of name)) kept k (slice_index_or (take count tagged) k d).number) (some_is s.0 one (sym s.1.is ∙ found)) s.1

  pub step_there : count ≤ 4 → k < length (take count tagged) → chapter_of (slice_index_or (take count tagged) k d).number kept ≡ None → ⊥
  step_there few inside none = let s = step few inside in never s.0 (sym none ∙ s.1.is)

  pub steps_end : ((m : ℕ) → m ≤ 4 → m ≤ length tagged → m ≤ count) → length (take count tagged) ≤ k
      → first_location name (take 4 (filter (has_tag (tag_of name)) kept)) ≡ first_location name (drop k (take 4 (filter (has_tag (tag_of name)) kept)))
      → first_location name (take 4 (filter (has_tag (tag_of name)) kept)) ≡ None
  steps_end most end says = search_over name tagged (filter (has_tag (tag_of name)) kept) k same_numbers (λ m few within. elim (cases_lt k m) [
    | inl less ↦
        let enough = most m few within in
        let inside = take_inside count k tagged (omega (arith, less, enough)) (omega (arith, less, within)) in
        absurd (omega (arith, inside, end))
    | inr over ↦ over
  ]) says
