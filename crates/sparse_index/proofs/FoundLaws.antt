-- Chapters that are found by a test, by their numbers, and by tags.
use Rattle.std.specs.Prelude.{ℕ, zero, suc, ◌≡◌, ◌≢◌, ◌<◌, ◌≤◌, Bool, true, false, List, [], ◌∷◌, ◌++◌, length, map, take, drop, filter, slice_index_or, All, AllPairs, Option, None, Some, is_some, nat_le, nat_lt, ◌+◌, cond, refl}
use Rattle.std.specs.List.{find}
use Rattle.std.specs.List.Sorted.{IsPartitionedBy, IsPartitionPoint}
use Rattle.std.specs.Option.{option_or}
use Rattle.std.proofs.Common.{sym, ◌∙◌, ap, subst, arith, inl, inr}
use Rattle.std.proofs.lemmas.Bool.{eq-eqb, ne_eqb, lt-ltb, le-ltb, le-leb, leb-true, leb-false, cases_eq}
use Rattle.std.proofs.lemmas.List.Elements.{All-cons, All-head, All-tail, All-filter}
use Rattle.blk_base.specs.declared.place.Pbn.{Pbn}
use Rattle.uds_chapters.specs.Chapters.{Numbered, location_of}
use Rattle.index_advice.specs.Books.{chapter_of, first_location}
use Rattle.index_advice.specs.Orders.{IsNewer}
use Rattle.uds_index.specs.declared.tags.Tagged.{Tagged}
use Rattle.uds_index.proofs.SearchLaws.{drop_here}
use Rattle.uds_index.proofs.KeepLaws.{newer_head, newer_tail}
use Rattle.sparse_index.specs.Finds.{AreFalling, first_by, location_at}
use Rattle.sparse_index.proofs.ListLaws.{all_take, drop_all, map_take, never, some_is}

-- what holds of all holds of the one that is found
pub find_all : {X : Type 0} (P : X → Type 0) (test : X → Bool) (ones : List X) (one : X) → All P ones → find test ones ≡ Some one → P one
find_all P test [] one all found = absurd (never one found)
find_all {X = X} P test (first ∷ ones) one all found = by (test first) (find_all P test ones one (All-tail P first ones all)) found
  where
    by : (b : Bool) → (find test ones ≡ Some one → P one) → cond b (Some first) (find test ones) ≡ Some one → P one
    by true later is = subst P (some_is first one is) (All-head P first ones all)
    by false later is = later is

-- each chapter is the one with its number
pub all_own : (kept : List Numbered) → AllPairs IsNewer kept → All (λ chapter. chapter_of chapter.number kept ≡ Some chapter) kept
all_own [] newest = λ k d inside. absurd (omega (arith, inside))
all_own (one ∷ kept) newest =
    All-cons (λ (c : Numbered). chapter_of c.number (one ∷ kept) ≡ Some c) one kept
    (rw (eq-eqb one.number one.number refl) refl)
    (λ k d inside.
    let less = newer_head one kept newest k d inside in
    let apart : one.number ≢ (slice_index_or kept k d).number = λ same. omega (arith, less, same) in
    rw (ne_eqb one.number (slice_index_or kept k d).number apart) (all_own kept (newer_tail one kept newest) k d inside))

pub found_own : (test : Numbered → Bool) (kept : List Numbered) (one : Numbered) → AllPairs IsNewer kept → find test kept ≡ Some one → chapter_of one.number kept ≡ Some one
found_own test kept one newest found = find_all (λ (c : Numbered). chapter_of c.number kept ≡ Some c) test kept one (all_own kept newest) found

-- by their numbers the same is found
pub first_by_is : (name : List ℕ) (kept ones : List Numbered) → All (λ chapter. chapter_of chapter.number kept ≡ Some chapter) ones
    → first_by name kept (map (λ chapter. chapter.number) ones) ≡ first_location name ones
first_by_is name kept [] all = refl
first_by_is name kept (one ∷ ones) all =
    rw (All-head (λ (c : Numbered). chapter_of c.number kept ≡ Some c) one ones all)
    (ap (option_or (location_of name one.records)) (first_by_is name kept ones (All-tail (λ (c : Numbered). chapter_of c.number kept ≡ Some c) one ones all)))

-- the two newest with a tag
pub two_by_tag : (name : List ℕ) (test : Numbered → Bool) (kept : List Numbered) (numbers : List ℕ) → AllPairs IsNewer kept
    → numbers ≡ take 2 (map (λ chapter. chapter.number) (filter test kept)) → first_by name kept numbers ≡ first_location name (take 2 (filter test kept))
two_by_tag name test kept numbers newest is =
    ap (first_by name kept) (is ∙ sym (map_take (λ (c : Numbered). c.number) 2 (filter test kept)))
    ∙ first_by_is name kept (take 2 (filter test kept))
    (all_take (λ (c : Numbered). chapter_of c.number kept ≡ Some c) 2 (filter test kept) (All-filter test (λ (c : Numbered). chapter_of c.number kept ≡ Some c) kept (all_own kept newest)))

-- of some chapters and others, and of those that are found

pub first_append : (name : List ℕ) (ones others : List Numbered) → first_location name (ones ++ others) ≡ option_or (first_location name ones) (first_location name others)
first_append name [] others = refl
first_append name (one ∷ ones) others = by (location_of name one.records) (first_append name ones others)
  where
    by : (o : Option Pbn) → first_location name (ones ++ others) ≡ option_or (first_location name ones) (first_location name others)
        → option_or o (first_location name (ones ++ others)) ≡ option_or (option_or o (first_location name ones)) (first_location name others)
    by None rest = rest
    by (Some at) rest = refl

pub first_find : (name : List ℕ) (ones : List Numbered) → first_location name ones ≡ location_at name (find (λ chapter. is_some (location_of name chapter.records)) ones)
first_find name [] = refl
first_find name (one ∷ ones) = by (location_of name one.records) refl (first_find name ones)
  where
    by : (o : Option Pbn) → location_of name one.records ≡ o → first_location name ones ≡ location_at name (find (λ chapter. is_some (location_of name chapter.records)) ones)
        → option_or o (first_location name ones) ≡ location_at name (cond (is_some o) (Some one) (find (λ chapter. is_some (location_of name chapter.records)) ones))
    by None is rest = rest
    by (Some at) is rest = sym is

-- what was found passes
pub find_passes : {X : Type 0} (test : X → Bool) (ones : List X) (one : X) → find test ones ≡ Some one → test one ≡ true
find_passes test [] one found = absurd (never one found)
find_passes {X = X} test (first ∷ ones) one found = by (test first) refl (find_passes test ones one) found
  where
    by : (b : Bool) → test first ≡ b → (find test ones ≡ Some one → test one ≡ true) → cond b (Some first) (find test ones) ≡ Some one → test one ≡ true
    by true has later is = subst (λ (x : X). test x ≡ true) (some_is first one is) has
    by false has later is = later is

-- a loop over tags: the next one, and the end

module _ {Y : Type 0} (f : List Tagged → Option Y) (g : Tagged → Option Y) (empty : f [] ≡ None) (step : (one : Tagged) (ones : List Tagged) → f (one ∷ ones) ≡ option_or (g one) (f ones)) where
  pub loop_start : (ones : List Tagged) → f ones ≡ f (drop 0 ones)
  loop_start [] = refl
  loop_start (one ∷ ones) = refl

  at_step : (ones : List Tagged) (k : ℕ) (d : Tagged) → k < length ones → f (drop k ones) ≡ option_or (g (slice_index_or ones k d)) (f (drop (k + 1) ones))
  at_step ones k d inside =
      let next : suc k ≡ k + 1 = omega arith in
      ap f (drop_here ones k d inside) ∙ step (slice_index_or ones k d) (drop (suc k) ones)
      ∙ ap (λ (n : ℕ). option_or (g (slice_index_or ones k d)) (f (drop n ones))) next

  pub loop_found : (ones : List Tagged) (k : ℕ) (d : Tagged) (y : Y) → k < length ones → g (slice_index_or ones k d) ≡ Some y → f ones ≡ f (drop k ones) → ◌≡◌ {A = Option Y} (Some y) (f ones)
  loop_found ones k d y inside is same = sym (same ∙ at_step ones k d inside ∙ ap (λ (o : Option Y). option_or o (f (drop (k + 1) ones))) is)

  pub loop_next : (ones : List Tagged) (k : ℕ) (d : Tagged) → k < length ones → g (slice_index_or ones k d) ≡ None → f ones ≡ f (drop k ones) → f ones ≡ f (drop (k + 1) ones)
  loop_next ones k d inside is same = same ∙ at_step ones k d inside ∙ ap (λ (o : Option Y). option_or o (f (drop (k + 1) ones))) is

  pub loop_end : (ones : List Tagged) (k : ℕ) → length ones ≤ k → f ones ≡ f (drop k ones) → ◌≡◌ {A = Option Y} None (f ones)
  loop_end ones k end same = sym (same ∙ ap f (drop_all k ones end) ∙ empty)

-- tags whose numbers fall, parted at one
pub falls_parted : (end : ℕ) (tagged : List Tagged) → AreFalling tagged → IsPartitionedBy (λ one. nat_le end one.number) tagged
falls_parted end tagged falling = λ i j d before inside passes. elim (cases_eq i j) [
  | inl same ↦ ap (λ (k : ℕ). nat_le end (slice_index_or tagged k d).number) same ∙ passes
  | inr apart ↦
      let above = leb-true end (slice_index_or tagged j d).number passes in
      let less = falling i j d (omega (arith, before, apart)) inside in
      le-leb end (slice_index_or tagged i d).number (omega (arith, above, less))
]

all_pass : {X : Type 0} (p : X → Bool) (ones : List X) → All (λ one. p one ≡ true) ones → ones ≡ filter p ones
all_pass p [] all = refl
all_pass {X = X} p (one ∷ ones) all =
    rw (All-head (λ (x : X). p x ≡ true) one ones all) (ap (λ (xs : List X). one ∷ xs) (all_pass p ones (All-tail (λ (x : X). p x ≡ true) one ones all)))

pub older_from : (end : ℕ) (tagged : List Tagged) (place : ℕ) → ((k : ℕ) (d : Tagged) → k < place → k < length tagged → end ≤ (slice_index_or tagged k d).number)
    → ((k : ℕ) (d : Tagged) → place ≤ k → k < length tagged → (slice_index_or tagged k d).number < end) → drop place tagged ≡ filter (λ one. nat_lt one.number end) tagged
older_from end [] zero from older = refl
older_from end [] (suc place) from older = refl
older_from end (one ∷ tagged) zero from older =
    all_pass (λ (x : Tagged). nat_lt x.number end) (one ∷ tagged)
    (λ k d inside. lt-ltb (slice_index_or (one ∷ tagged) k d).number end (older k d (omega arith) inside))
older_from end (one ∷ tagged) (suc place) from older =
    rw (le-ltb one.number end (from 0 one (omega arith) (omega arith)))
    (older_from end tagged place (λ k d before inside. from (suc k) d (omega (arith, before)) (omega (arith, inside)))
    (λ k d before inside. older (suc k) d (omega (arith, before)) (omega (arith, inside))))

pub older_of : (end : ℕ) (tagged : List Tagged) (place : ℕ) → place ≤ length tagged
    → IsPartitionPoint (λ one. nat_le end one.number ≡ true) (λ one. nat_le end one.number ≡ false) tagged place → drop place tagged ≡ filter (λ one. nat_lt one.number end) tagged
older_of end tagged place inside point =
    older_from end tagged place
    (λ k d before within. leb-true end (slice_index_or tagged k d).number (point.0 k d (omega arith) before))
    (λ k d before within. leb-false end (slice_index_or tagged k d).number (point.1 k d before within))
