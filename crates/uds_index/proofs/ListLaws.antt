-- The list of tags: what is left out of it, added to it and found in it.
use Rattle.std.specs.Prelude.{ℕ, zero, suc, ◌≡◌, ◌≢◌, ◌<◌, ◌≤◌, ◌+◌, ◌-◌, ◌*◌, ◌||◌, ◌&&◌, not, Bool, true, false, List, [], ◌∷◌, ◌++◌, length, map, take, drop, filter, All, AllPairs, Contains, nat_eq, nat_le, nat_lt, cond, slice_index_or, Option, Some, refl}
use Rattle.std.specs.List.{list_any, dedup, slice_get}
use Rattle.std.specs.List.Sorted.{IsStrictlyIncreasing, IsPartitionPoint, IsPermutation, IsSorted}
use Rattle.std.specs.Ordering.{nat_cmp}
use Rattle.std.proofs.Common.{sym, ◌∙◌, ap, subst, arith, length-drop}
use Rattle.std.proofs.lemmas.Bool.{false≢true, eqb-true, eq-eqb, ne_eqb, le-leb, lt-leb, leb-true, leb-false, ltb-true, ltb-false}
use Rattle.std.proofs.lemmas.List.{take-append-drop, get_or-take, get_or-drop, length-map, append_assoc}
use Rattle.std.proofs.lemmas.List.Elements.{All-head, All-tail, All-cons, filter-append}
use Rattle.std.proofs.lemmas.List.Folds.{list_any_none, list_any_at, Any-from_list_any}
use Rattle.std.proofs.lemmas.List.Kept.{IsNonDecreasingBy-filter, AllPairs-from_increasing, Contains-dedup_nat, Contains-from_dedup}
use Rattle.std.proofs.lemmas.List.Sorted.{length_permutation, list_any-IsPermutation}
use Rattle.std.proofs.lemmas.Map.Keys.{IsStrictlyIncreasing-dedup}
use Rattle.block_names.specs.Names.{tag_of}
use Rattle.uds_chapters.specs.declared.entry.Record.{Record}
use Rattle.uds_chapters.specs.Chapters.{Numbered}
use Rattle.index_advice.specs.Books.{Book, number_after, has_tag, is_same_place, chapters_elsewhere}
use Rattle.uds_index.specs.declared.tags.Tagged.{Tagged}
use Rattle.uds_index.proofs.SearchLaws.{take_few, drop_here}
use Rattle.uds_index.specs.Places.{WasClosed}
use Rattle.uds_index.specs.Tags.{AreTagsRising, AreListed, IsListed, IsNewestToList, Listed, AreTagsOf, ArePartedAt, tagged_with, with_tag, with_tags}

-- what is left out by numbers

module _ {X : Type 0} (number_of : X → ℕ) where
  pub numbers_left : (p : ℕ → Bool) (test : X → Bool) (ones : List X)
      → map number_of (filter test (filter (λ one. p (number_of one)) ones)) ≡ filter p (map number_of (filter test ones))
  numbers_left p test [] = refl
  numbers_left p test (one ∷ ones) = by (p (number_of one)) (test one) refl refl (numbers_left p test ones)
    where
      by : (b t : Bool) → p (number_of one) ≡ b → test one ≡ t
          → map number_of (filter test (filter (λ x. p (number_of x)) ones)) ≡ filter p (map number_of (filter test ones))
          → map number_of (filter test (cond b (one ∷ filter (λ x. p (number_of x)) ones) (filter (λ x. p (number_of x)) ones)))
          ≡ filter p (map number_of (cond t (one ∷ filter test ones) (filter test ones)))
      by true true passes has rest = rw (has, passes) (ap (λ (ns : List ℕ). number_of one ∷ ns) rest)
      by true false passes has rest = rw has rest
      by false true passes has rest = rw passes rest
      by false false passes has rest = rest

  pub count_left : (p test : ℕ → Bool) (ones : List X)
      → length (filter (λ one. test (number_of one)) (filter (λ one. p (number_of one)) ones)) ≡ length (filter (λ one. p (number_of one) && test (number_of one)) ones)
  count_left p test [] = refl
  count_left p test (one ∷ ones) = by (p (number_of one)) (test (number_of one)) refl (count_left p test ones)
    where
      by : (b t : Bool) → test (number_of one) ≡ t
          → length (filter (λ x. test (number_of x)) (filter (λ x. p (number_of x)) ones)) ≡ length (filter (λ x. p (number_of x) && test (number_of x)) ones)
          → length (filter (λ x. test (number_of x)) (cond b (one ∷ filter (λ x. p (number_of x)) ones) (filter (λ x. p (number_of x)) ones)))
          ≡ length (cond (b && t) (one ∷ filter (λ x. p (number_of x) && test (number_of x)) ones) (filter (λ x. p (number_of x) && test (number_of x)) ones))
      by true true has rest = rw has (ap (λ (n : ℕ). suc n) rest)
      by true false has rest = rw has rest
      by false t has rest = rest

pub listed_left : (p : ℕ → Bool) (kept : List Numbered) (tags : List Tagged) → AreListed kept tags
    → AreListed (filter (λ chapter. p chapter.number) kept) (filter (λ one. p one.number) tags)
listed_left p kept tags is = record {
  rising = IsNonDecreasingBy-filter (λ (one : Tagged). one.tag) (λ (one : Tagged). p one.number) tags is.rising;
  numbers = λ tag.
      numbers_left (λ (one : Tagged). one.number) p (λ (one : Tagged). nat_eq one.tag tag) tags
      ∙ ap (filter p) (is.numbers tag)
      ∙ sym (numbers_left (λ (chapter : Numbered). chapter.number) p (has_tag tag) kept);
  few = λ test.
      let ones = count_left (λ (one : Tagged). one.number) p test tags in
      let chapters = count_left (λ (chapter : Numbered). chapter.number) p test kept in
      let less = is.few (λ n. p n && test n) in
      omega (arith, ones, chapters, less);
}

-- those of a place
pub listed_elsewhere : (places number : ℕ) (kept : List Numbered) (tags new : List Tagged) → new ≡ filter (λ one. not (is_same_place places one.number number)) tags
    → AreListed kept tags → AreListed (chapters_elsewhere places number kept) new
listed_elsewhere places number kept tags new is listed =
    subst (λ (ts : List Tagged). AreListed (chapters_elsewhere places number kept) ts) (sym is)
    (listed_left (λ n. not (is_same_place places n number)) kept tags listed)

pub none_listed : AreListed [] []
none_listed = record {
  rising = λ i j d before inside. absurd (omega (arith, inside));
  numbers = λ tag. refl;
  few = λ test. omega arith;
}

-- no more tags than 680 for each chapter
pub listed_few : (kept : List Numbered) (tags : List Tagged) → AreListed kept tags → length tags ≤ 680 * length kept
listed_few kept tags is =
    let less = is.few (λ n. true) in let ones = all_pass tags in let chapters = all_kept kept in omega (arith, less, ones, chapters)
  where
    all_pass : (ts : List Tagged) → length (filter (λ (one : Tagged). true) ts) ≡ length ts
    all_pass [] = refl
    all_pass (t ∷ ts) = ap (λ (n : ℕ). suc n) (all_pass ts)

    all_kept : (cs : List Numbered) → length (filter (λ (one : Numbered). true) cs) ≡ length cs
    all_kept [] = refl
    all_kept (t ∷ cs) = ap (λ (n : ℕ). suc n) (all_kept cs)

-- lists that rise

rising_cons : (one : Tagged) (tags : List Tagged) → All (λ other. one.tag ≤ other.tag) tags → AreTagsRising tags → AreTagsRising (one ∷ tags)
rising_cons one tags all rising zero zero d before inside = omega arith
rising_cons one tags all rising zero (suc j) d before inside = all j d (omega (arith, inside))
rising_cons one tags all rising (suc i) zero d before inside = absurd (omega (arith, before))
rising_cons one tags all rising (suc i) (suc j) d before inside = rising i j d (omega (arith, before)) (omega (arith, inside))

rising_head : (one : Tagged) (tags : List Tagged) → AreTagsRising (one ∷ tags) → All (λ other. one.tag ≤ other.tag) tags
rising_head one tags rising = λ k d inside. rising 0 (suc k) d (omega arith) (omega (arith, inside))

rising_tail : (one : Tagged) (tags : List Tagged) → AreTagsRising (one ∷ tags) → AreTagsRising tags
rising_tail one tags rising = λ i j d before inside. rising (suc i) (suc j) d (omega (arith, before)) (omega (arith, inside))

pub rising_drop : (k : ℕ) (tags : List Tagged) → AreTagsRising tags → AreTagsRising (drop k tags)
rising_drop zero [] rising = rising
rising_drop zero (one ∷ tags) rising = rising
rising_drop (suc k) [] rising = rising
rising_drop (suc k) (one ∷ tags) rising = rising_drop k tags (rising_tail one tags rising)

abbrev AreRisingTags : List ℕ → Type 0
AreRisingTags own = AllPairs (λ x y. x < y) own

own_head : (tag : ℕ) (own : List ℕ) → AreRisingTags (tag ∷ own) → All (λ y. tag < y) own
own_head tag own rising = λ k d inside. rising 0 (suc k) d (omega arith) (omega (arith, inside))

own_tail : (tag : ℕ) (own : List ℕ) → AreRisingTags (tag ∷ own) → AreRisingTags own
own_tail tag own rising = λ i j d before inside. rising (suc i) (suc j) d (omega (arith, before)) (omega (arith, inside))

pub own_drop : (k : ℕ) (own : List ℕ) → AreRisingTags own → AreRisingTags (drop k own)
own_drop zero [] rising = rising
own_drop zero (one ∷ own) rising = rising
own_drop (suc k) [] rising = rising
own_drop (suc k) (one ∷ own) rising = own_drop k own (own_tail one own rising)

-- one tag is added

pub all_with_tag : (P : Tagged → Type 0) (new : Tagged) (tags : List Tagged) → P new → All P tags → All P (with_tag new tags)
all_with_tag P new [] fits all = All-cons P new [] fits all
all_with_tag P new (one ∷ tags) fits all = by (nat_le new.tag one.tag) (all_with_tag P new tags fits (All-tail P one tags all))
  where
    by : (b : Bool) → All P (with_tag new tags) → All P (cond b (new ∷ one ∷ tags) (one ∷ with_tag new tags))
    by true rest = All-cons P new (one ∷ tags) fits all
    by false rest = All-cons P one (with_tag new tags) (All-head P one tags all) rest

tag_rising : (new : Tagged) (tags : List Tagged) → AreTagsRising tags → AreTagsRising (with_tag new tags)
tag_rising new [] rising = rising_cons new [] (λ k d inside. absurd (omega (arith, inside))) rising
tag_rising new (one ∷ tags) rising = by (nat_le new.tag one.tag) refl (tag_rising new tags (rising_tail one tags rising))
  where
    behind : new.tag ≤ one.tag → All (λ other. new.tag ≤ other.tag) tags
    behind below = λ k d inside. let more = rising_head one tags rising k d inside in omega (arith, more, below)

    by : (b : Bool) → nat_le new.tag one.tag ≡ b → AreTagsRising (with_tag new tags) → AreTagsRising (cond b (new ∷ one ∷ tags) (one ∷ with_tag new tags))
    by true le rest =
        let below = leb-true new.tag one.tag le in
        rising_cons new (one ∷ tags) (All-cons (λ (other : Tagged). new.tag ≤ other.tag) one tags below (behind below)) rising
    by false le rest =
        let above = leb-false new.tag one.tag le in
        rising_cons one (with_tag new tags) (all_with_tag (λ (other : Tagged). one.tag ≤ other.tag) new tags (omega (arith, above)) (rising_head one tags rising)) rest

tag_other : (tag : ℕ) (new : Tagged) (tags : List Tagged) → nat_eq new.tag tag ≡ false → tagged_with tag (with_tag new tags) ≡ tagged_with tag tags
tag_other tag new [] other = rw other refl
tag_other tag new (one ∷ tags) other = by (nat_le new.tag one.tag) (tag_other tag new tags other)
  where
    by : (b : Bool) → tagged_with tag (with_tag new tags) ≡ tagged_with tag tags
        → tagged_with tag (cond b (new ∷ one ∷ tags) (one ∷ with_tag new tags)) ≡ tagged_with tag (one ∷ tags)
    by true rest = rw other refl
    by false rest = ap (λ (ts : List Tagged). cond (nat_eq one.tag tag) (one ∷ ts) ts) rest

tag_same : (new : Tagged) (tags : List Tagged) → tagged_with new.tag (with_tag new tags) ≡ new ∷ tagged_with new.tag tags
tag_same new [] = rw (eq-eqb new.tag new.tag refl) refl
tag_same new (one ∷ tags) = by (nat_le new.tag one.tag) refl (tag_same new tags)
  where
    apart : one.tag < new.tag → one.tag ≢ new.tag
    apart above same = omega (arith, above, same)

    by : (b : Bool) → nat_le new.tag one.tag ≡ b → tagged_with new.tag (with_tag new tags) ≡ new ∷ tagged_with new.tag tags
        → tagged_with new.tag (cond b (new ∷ one ∷ tags) (one ∷ with_tag new tags)) ≡ new ∷ tagged_with new.tag (one ∷ tags)
    by true le rest = rw (eq-eqb new.tag new.tag refl) refl
    by false le rest = rw (ne_eqb one.tag new.tag (apart (leb-false new.tag one.tag le))) rest

tag_count : (test : Tagged → Bool) (new : Tagged) (tags : List Tagged) → length (filter test (with_tag new tags)) ≡ cond (test new) 1 0 + length (filter test tags)
tag_count test new [] = by (test new)
  where
    by : (b : Bool) → length (cond b (new ∷ []) []) ≡ cond b 1 0 + 0
    by true = omega arith
    by false = omega arith
tag_count test new (one ∷ tags) = by (nat_le new.tag one.tag) (tag_count test new tags)
  where
    first : (b : Bool) → length (cond b (new ∷ filter test (one ∷ tags)) (filter test (one ∷ tags))) ≡ cond b 1 0 + length (filter test (one ∷ tags))
    first true = omega arith
    first false = omega arith

    later : (b : Bool) → length (filter test (with_tag new tags)) ≡ cond (test new) 1 0 + length (filter test tags)
        → length (cond b (one ∷ filter test (with_tag new tags)) (filter test (with_tag new tags))) ≡ cond (test new) 1 0 + length (cond b (one ∷ filter test tags) (filter test tags))
    later true rest = omega (arith, rest)
    later false rest = rest

    by : (b : Bool) → length (filter test (with_tag new tags)) ≡ cond (test new) 1 0 + length (filter test tags)
        → length (filter test (cond b (new ∷ one ∷ tags) (one ∷ with_tag new tags))) ≡ cond (test new) 1 0 + length (filter test (one ∷ tags))
    by true rest = first (test new)
    by false rest = later (test one) rest

-- the tags of a chapter are added

abbrev tagged : ℕ → ℕ → Tagged
tagged number tag = record { tag = tag; number = number }

tags_rising : (number : ℕ) (own : List ℕ) (tags : List Tagged) → AreTagsRising tags → AreTagsRising (with_tags number own tags)
tags_rising number [] tags rising = rising
tags_rising number (tag ∷ own) tags rising = tag_rising (tagged number tag) (with_tags number own tags) (tags_rising number own tags rising)

tags_other : (number tag : ℕ) (own : List ℕ) (tags : List Tagged) → list_any (λ one. nat_eq one tag) own ≡ false
    → tagged_with tag (with_tags number own tags) ≡ tagged_with tag tags
tags_other number tag [] tags none = refl
tags_other number tag (first ∷ own) tags none = by (nat_eq first tag) refl none (tags_other number tag own tags)
  where
    by : (b : Bool) → nat_eq first tag ≡ b → (b || list_any (λ one. nat_eq one tag) own) ≡ false
        → (list_any (λ one. nat_eq one tag) own ≡ false → tagged_with tag (with_tags number own tags) ≡ tagged_with tag tags)
        → tagged_with tag (with_tags number (first ∷ own) tags) ≡ tagged_with tag tags
    by true same none rest = absurd (false≢true (sym none))
    by false other none rest = tag_other tag (tagged number first) (with_tags number own tags) other ∙ rest none

tags_same : (number tag : ℕ) (own : List ℕ) (tags : List Tagged) → AreRisingTags own → list_any (λ one. nat_eq one tag) own ≡ true
    → map (λ one. one.number) (tagged_with tag (with_tags number own tags)) ≡ number ∷ map (λ one. one.number) (tagged_with tag tags)
tags_same number tag [] tags rising some = absurd (false≢true some)
tags_same number tag (first ∷ own) tags rising some = by (nat_eq first tag) refl some (tags_same number tag own tags (own_tail first own rising))
  where
    above : first ≡ tag → list_any (λ one. nat_eq one tag) own ≡ false
    above same = list_any_none (λ (one : ℕ). nat_eq one tag) own (λ k d inside. let less = own_head first own rising k d inside in ne_eqb (slice_index_or own k d) tag (λ is. omega (arith, less, same, is)))

    here : first ≡ tag → tagged_with tag (with_tags number (first ∷ own) tags) ≡ tagged number first ∷ tagged_with tag tags
    here same =
        subst (λ (t : ℕ). tagged_with t (with_tags number (first ∷ own) tags) ≡ tagged number first ∷ tagged_with t (with_tags number own tags)) same
        (tag_same (tagged number first) (with_tags number own tags))
        ∙ ap (λ (ts : List Tagged). tagged number first ∷ ts) (tags_other number tag own tags (above same))

    by : (b : Bool) → nat_eq first tag ≡ b → (b || list_any (λ one. nat_eq one tag) own) ≡ true
        → (list_any (λ one. nat_eq one tag) own ≡ true → map (λ one. one.number) (tagged_with tag (with_tags number own tags)) ≡ number ∷ map (λ one. one.number) (tagged_with tag tags))
        → map (λ one. one.number) (tagged_with tag (with_tags number (first ∷ own) tags)) ≡ number ∷ map (λ one. one.number) (tagged_with tag tags)
    by true same some rest = ap (map (λ (one : Tagged). one.number)) (here (eqb-true first tag same))
    by false other some rest = ap (map (λ (one : Tagged). one.number)) (tag_other tag (tagged number first) (with_tags number own tags) other) ∙ rest some

tags_count : (test : ℕ → Bool) (number : ℕ) (own : List ℕ) (tags : List Tagged)
    → length (filter (λ one. test one.number) (with_tags number own tags)) ≡ cond (test number) (length own) 0 + length (filter (λ one. test one.number) tags)
tags_count test number [] tags = by (test number)
  where
    by : (b : Bool) → length (filter (λ (one : Tagged). test one.number) tags) ≡ cond b 0 0 + length (filter (λ (one : Tagged). test one.number) tags)
    by true = omega arith
    by false = omega arith
tags_count test number (first ∷ own) tags =
    tag_count (λ (one : Tagged). test one.number) (tagged number first) (with_tags number own tags) ∙ by (test number) (tags_count test number own tags)
  where
    by : (b : Bool) → length (filter (λ (one : Tagged). test one.number) (with_tags number own tags)) ≡ cond b (length own) 0 + length (filter (λ (one : Tagged). test one.number) tags)
        → cond b 1 0 + length (filter (λ (one : Tagged). test one.number) (with_tags number own tags)) ≡ cond b (suc (length own)) 0 + length (filter (λ (one : Tagged). test one.number) tags)
    by true rest = omega (arith, rest)
    by false rest = omega (arith, rest)

pub listed_with : (chapter : Numbered) (own : List ℕ) (kept : List Numbered) (tags : List Tagged) → AreTagsOf chapter own → AreListed kept tags
    → AreListed (chapter ∷ kept) (with_tags chapter.number own tags)
listed_with chapter own kept tags of is = record {
  rising = tags_rising chapter.number own tags is.rising;
  numbers = λ tag. numbers tag (has_tag tag chapter) (of.same tag);
  few = λ test.
      let count = tags_count test chapter.number own tags in
      let less = is.few test in
      few test (test chapter.number) count less;
}
  where
    rising : AreRisingTags own
    rising = AllPairs-from_increasing own of.rising

    numbers : (tag : ℕ) (b : Bool) → list_any (λ one. nat_eq one tag) own ≡ b
        → map (λ one. one.number) (tagged_with tag (with_tags chapter.number own tags)) ≡ map (λ c. c.number) (cond b (chapter ∷ filter (has_tag tag) kept) (filter (has_tag tag) kept))
    numbers tag true some = tags_same chapter.number tag own tags rising some ∙ ap (λ (ns : List ℕ). chapter.number ∷ ns) (is.numbers tag)
    numbers tag false none = ap (map (λ (one : Tagged). one.number)) (tags_other chapter.number tag own tags none) ∙ is.numbers tag

    few : (test : ℕ → Bool) (b : Bool)
        → length (filter (λ one. test one.number) (with_tags chapter.number own tags)) ≡ cond b (length own) 0 + length (filter (λ one. test one.number) tags)
        → length (filter (λ one. test one.number) tags) ≤ 680 * length (filter (λ c. test c.number) kept)
        → length (filter (λ one. test one.number) (with_tags chapter.number own tags)) ≤ 680 * length (cond b (chapter ∷ filter (λ c. test c.number) kept) (filter (λ c. test c.number) kept))
    few test true count less = omega (arith, count, less, of.few)
    few test false count less = omega (arith, count, less)

pub listed_added : (chapter : Numbered) (own : List ℕ) (kept : List Numbered) (tags new : List Tagged) (number : ℕ) → number ≡ chapter.number → AreTagsOf chapter own
    → new ≡ with_tags number own tags → AreListed kept tags → AreListed (chapter ∷ kept) new
listed_added chapter own kept tags new number same of is listed =
    subst (λ (ts : List Tagged). AreListed (chapter ∷ kept) ts)
    (ap (λ (n : ℕ). with_tags n own tags) (sym same) ∙ sym is)
    (listed_with chapter own kept tags of listed)

-- the list is put together

pass_tag : (new : Tagged) (p q : List Tagged) → All (λ one. one.tag < new.tag) p → with_tag new (p ++ q) ≡ p ++ with_tag new q
pass_tag new [] q below = refl
pass_tag new (one ∷ p) q below =
    rw (lt-leb new.tag one.tag (All-head (λ (x : Tagged). x.tag < new.tag) one p below))
    (ap (λ (ts : List Tagged). one ∷ ts) (pass_tag new p q (All-tail (λ (x : Tagged). x.tag < new.tag) one p below)))

pass_tags : (number tag : ℕ) (own : List ℕ) (p q : List Tagged) → AreRisingTags (tag ∷ own) → All (λ one. one.tag < tag) p
    → with_tags number (tag ∷ own) (p ++ q) ≡ p ++ with_tags number (tag ∷ own) q
pass_tags number tag [] p q rising below = pass_tag (tagged number tag) p q below
pass_tags number tag (next ∷ own) p q rising below =
    ap (with_tag (tagged number tag)) (pass_tags number next own p q (own_tail tag (next ∷ own) rising) further)
    ∙ pass_tag (tagged number tag) p (with_tags number (next ∷ own) q) below
  where
    more : tag < next
    more = own_head tag (next ∷ own) rising 0 next (omega arith)

    further : All (λ one. one.tag < next) p
    further = λ k d inside. let less = below k d inside in let step = more in omega (arith, less, step)

at_front : (new : Tagged) (tags : List Tagged) → All (λ one. new.tag ≤ one.tag) tags → with_tag new tags ≡ new ∷ tags
at_front new [] all = refl
at_front new (one ∷ tags) all = rw (le-leb new.tag one.tag (All-head (λ (x : Tagged). new.tag ≤ x.tag) one tags all)) refl

all_above : (number tag : ℕ) (own : List ℕ) (tags : List Tagged) → All (λ y. tag < y) own → All (λ one. tag ≤ one.tag) tags
    → All (λ one. tag ≤ one.tag) (with_tags number own tags)
all_above number tag [] tags above all = all
all_above number tag (next ∷ own) tags above all =
    all_with_tag (λ (one : Tagged). tag ≤ one.tag) (tagged number next) (with_tags number own tags)
    (let more = All-head (λ (y : ℕ). tag < y) next own above in omega (arith, more))
    (all_above number tag own tags (All-tail (λ (y : ℕ). tag < y) next own above) all)

pub merged_step : (number tag : ℕ) (own : List ℕ) (tags : List Tagged) (place : ℕ) → AreRisingTags (tag ∷ own) → ArePartedAt tag tags place
    → with_tags number (tag ∷ own) tags ≡ take place tags ++ tagged number tag ∷ with_tags number own (drop place tags)
merged_step number tag own tags place rising at =
    ap (with_tags number (tag ∷ own)) (sym (take-append-drop place tags))
    ∙ pass_tags number tag own (take place tags) (drop place tags) rising at.below
    ∙ ap (λ (ts : List Tagged). take place tags ++ ts)
    (at_front (tagged number tag) (with_tags number own (drop place tags)) (all_above number tag own (drop place tags) (own_head tag own rising) at.behind))

-- the part with a tag

no_tag : (tag : ℕ) (tags : List Tagged) → All (λ one. one.tag ≢ tag) tags → tagged_with tag tags ≡ []
no_tag tag [] all = refl
no_tag tag (one ∷ tags) all =
    rw (ne_eqb one.tag tag (All-head (λ (x : Tagged). x.tag ≢ tag) one tags all)) (no_tag tag tags (All-tail (λ (x : Tagged). x.tag ≢ tag) one tags all))

one_tag : (tag : ℕ) (tags : List Tagged) → All (λ one. one.tag ≡ tag) tags → tagged_with tag tags ≡ tags
one_tag tag [] all = refl
one_tag tag (one ∷ tags) all =
    rw (eq-eqb one.tag tag (All-head (λ (x : Tagged). x.tag ≡ tag) one tags all))
    (ap (λ (ts : List Tagged). one ∷ ts) (one_tag tag tags (All-tail (λ (x : Tagged). x.tag ≡ tag) one tags all)))

all_taken : (P : Tagged → Type 0) (k : ℕ) (tags : List Tagged) → All P tags → All P (take k tags)
all_taken P zero tags all = λ k d inside. absurd (omega (arith, inside))
all_taken P (suc k) [] all = all
all_taken P (suc k) (one ∷ tags) all = All-cons P one (take k tags) (All-head P one tags all) (all_taken P k tags (All-tail P one tags all))

pub part_is : (tag : ℕ) (tags : List Tagged) (place count : ℕ) → ArePartedAt tag tags place → ArePartedAt (tag + 1) (drop place tags) count
    → take count (drop place tags) ≡ tagged_with tag tags
part_is tag tags place count at upto = sym whole
  where
    before : tagged_with tag (take place tags) ≡ []
    before = no_tag tag (take place tags) (λ k d inside is. let less = at.below k d inside in omega (arith, less, is))

    here : tagged_with tag (take count (drop place tags)) ≡ take count (drop place tags)
    here = one_tag tag (take count (drop place tags)) (λ k d inside.
        let more = all_taken (λ (one : Tagged). tag ≤ one.tag) count (drop place tags) at.behind k d inside in
        let less = upto.below k d inside in
        omega (arith, more, less))

    behind : tagged_with tag (drop count (drop place tags)) ≡ []
    behind = no_tag tag (drop count (drop place tags)) (λ k d inside is. let more = upto.behind k d inside in omega (arith, more, is))

    later : tagged_with tag (drop place tags) ≡ take count (drop place tags)
    later =
        ap (tagged_with tag) (sym (take-append-drop count (drop place tags)))
        ∙ filter-append (λ (one : Tagged). nat_eq one.tag tag) (take count (drop place tags)) (drop count (drop place tags))
        ∙ ap (λ (ts : List Tagged). tagged_with tag (take count (drop place tags)) ++ ts) behind
        ∙ ap (λ (ts : List Tagged). ts ++ []) here
        ∙ nothing_more (take count (drop place tags))
      where
        nothing_more : (ts : List Tagged) → ts ++ [] ≡ ts
        nothing_more [] = refl
        nothing_more (t ∷ ts) = ap (λ (xs : List Tagged). t ∷ xs) (nothing_more ts)

    whole : tagged_with tag tags ≡ take count (drop place tags)
    whole =
        ap (tagged_with tag) (sym (take-append-drop place tags))
        ∙ filter-append (λ (one : Tagged). nat_eq one.tag tag) (take place tags) (drop place tags)
        ∙ ap (λ (ts : List Tagged). ts ++ tagged_with tag (drop place tags)) before
        ∙ later

-- what a search by halving found
pub parted_from : (tag : ℕ) (tags : List Tagged) (place : ℕ) → place ≤ length tags
    → IsPartitionPoint (λ one. nat_lt one.tag tag ≡ true) (λ one. nat_lt one.tag tag ≡ false) tags place → ArePartedAt tag tags place
parted_from tag tags place inside point = record {
  inside = inside;
  below = λ k d within.
      let few = take_few place tags in
      let before : k < place = omega (arith, within, few.0) in
      subst (λ (one : Tagged). one.tag < tag) (sym (get_or-take place tags k d before)) (ltb-true (slice_index_or tags k d).tag tag (point.0 k d (omega arith) before));
  behind = λ k d within.
      let rest = length-drop place tags in
      subst (λ (one : Tagged). tag ≤ one.tag) (sym (get_or-drop place tags k d))
      (ltb-false (slice_index_or tags (place + k) d).tag tag (point.1 (place + k) d (omega arith) (omega (arith, within, rest))));
}

-- the same of a search for those that aren't above a tag
pub parted_up_to : (tag : ℕ) (tags : List Tagged) (place : ℕ) → place ≤ length tags
    → IsPartitionPoint (λ one. nat_le one.tag tag ≡ true) (λ one. nat_le one.tag tag ≡ false) tags place → ArePartedAt (tag + 1) tags place
parted_up_to tag tags place inside point = record {
  inside = inside;
  below = λ k d within.
      let few = take_few place tags in
      let before : k < place = omega (arith, within, few.0) in
      subst (λ (one : Tagged). one.tag < tag + 1) (sym (get_or-take place tags k d before))
      (let most = leb-true (slice_index_or tags k d).tag tag (point.0 k d (omega arith) before) in omega (arith, most));
  behind = λ k d within.
      let rest = length-drop place tags in
      subst (λ (one : Tagged). tag + 1 ≤ one.tag) (sym (get_or-drop place tags k d))
      (let more = leb-false (slice_index_or tags (place + k) d).tag tag (point.1 (place + k) d (omega arith) (omega (arith, within, rest))) in omega (arith, more));
}

-- the tags of a chapter

same_truth : (a b : Bool) → (a ≡ true → b ≡ true) → (b ≡ true → a ≡ true) → a ≡ b
same_truth true true there back = refl
same_truth true false there back = sym (there refl)
same_truth false true there back = back refl
same_truth false false there back = refl

contained : (tag : ℕ) (own : List ℕ) → list_any (λ one. nat_eq one tag) own ≡ true → Contains own tag
contained tag own some =
    let any = Any-from_list_any (λ (one : ℕ). nat_eq one tag) own some in
    (any.0, any.2, subst (λ (x : ℕ). slice_index_or own any.0 x ≡ x) (eqb-true any.1 tag any.4) any.3)

some_there : (tag : ℕ) (own : List ℕ) → Contains own tag → list_any (λ one. nat_eq one tag) own ≡ true
some_there tag own there = list_any_at (λ (one : ℕ). nat_eq one tag) own there.0 tag there.1 (eq-eqb (slice_index_or own there.0 tag) tag there.2)

any_once : (tag : ℕ) (own : List ℕ) → list_any (λ one. nat_eq one tag) (dedup nat_eq own) ≡ list_any (λ one. nat_eq one tag) own
any_once tag own =
    same_truth (list_any (λ (one : ℕ). nat_eq one tag) (dedup nat_eq own)) (list_any (λ (one : ℕ). nat_eq one tag) own)
    (λ some. some_there tag own (Contains-from_dedup nat_eq own tag (contained tag (dedup nat_eq own) some)))
    (λ some. some_there tag (dedup nat_eq own) (Contains-dedup_nat own tag (contained tag own some)))

any_tag : (tag : ℕ) (records : List Record) → list_any (λ one. nat_eq one tag) (map (λ one. tag_of one.name) records) ≡ list_any (λ one. nat_eq (tag_of one.name) tag) records
any_tag tag [] = refl
any_tag tag (one ∷ records) = ap (λ (b : Bool). nat_eq (tag_of one.name) tag || b) (any_tag tag records)

pub tags_are : (chapter : Numbered) (sorted own : List ℕ) → length chapter.records ≤ 680 → IsPermutation (map (λ one. tag_of one.name) chapter.records) sorted → IsSorted nat_cmp sorted
    → own ≡ dedup nat_eq sorted → length own ≤ length sorted → AreTagsOf chapter own
tags_are chapter sorted own few moved rises is less = record {
  rising = subst IsStrictlyIncreasing (sym is) (IsStrictlyIncreasing-dedup sorted rises);
  few =
      let same = length_permutation (map (λ (one : Record). tag_of one.name) chapter.records) sorted moved in
      let size = length-map chapter.records (λ (one : Record). tag_of one.name) in
      omega (arith, few, less, same, size);
  same = λ tag.
      ap (list_any (λ (one : ℕ). nat_eq one tag)) is
      ∙ any_once tag sorted
      ∙ sym (list_any-IsPermutation (λ (one : ℕ). nat_eq one tag) (map (λ (one : Record). tag_of one.name) chapter.records) sorted moved)
      ∙ any_tag tag chapter.records;
}

-- a loop's step: the tags up to one are moved to what is put together
pub merged_next : (number tag : ℕ) (own : List ℕ) (k : ℕ) (into rest whole : List Tagged) (place : ℕ) → IsStrictlyIncreasing own → drop k own ≡ tag ∷ drop (suc k) own
    → ArePartedAt tag rest place → into ++ with_tags number (drop k own) rest ≡ whole
    → ((into ++ take place rest) ++ tagged number tag ∷ []) ++ with_tags number (drop (suc k) own) (drop place rest) ≡ whole
merged_next number tag own k into rest whole place rising here at is =
    append_assoc (into ++ take place rest) (tagged number tag ∷ []) (with_tags number (drop (suc k) own) (drop place rest))
    ∙ append_assoc into (take place rest) (tagged number tag ∷ with_tags number (drop (suc k) own) (drop place rest))
    ∙ ap (λ (ts : List Tagged). into ++ ts) (sym (merged_step number tag (drop (suc k) own) rest place later at))
    ∙ ap (λ (ts : List ℕ). into ++ with_tags number ts rest) (sym here)
    ∙ is
  where
    later : AreRisingTags (tag ∷ drop (suc k) own)
    later = subst AreRisingTags here (own_drop k own (AllPairs-from_increasing own rising))

-- as many as there are behind a place are all of them
take_whole : {X : Type 0} (n : ℕ) (ones : List X) → length ones ≤ n → take n ones ≡ ones
take_whole zero [] all = refl
take_whole (suc n) [] all = refl
take_whole zero (one ∷ ones) all = absurd (omega (arith, all))
take_whole {X = X} (suc n) (one ∷ ones) all = ap (λ (xs : List X). one ∷ xs) (take_whole n ones (omega (arith, all)))

pub take_rest : {X : Type 0} (place : ℕ) (ones : List X) → take (length ones - place) (drop place ones) ≡ drop place ones
take_rest place ones = let size = length-drop place ones in take_whole (length ones - place) (drop place ones) (omega (arith, size))

-- the chapters from the last ones on are listed, one after another
pub listed_next : (kept : List Numbered) (k : ℕ) (one : Numbered) (tags : List Tagged) → k < length kept → one ≡ slice_index_or kept k one
    → AreListed (one ∷ drop (suc k) kept) tags → AreListed (drop k kept) tags
listed_next kept k one tags inside at listed =
    subst (λ (cs : List Numbered). AreListed cs tags) (ap (λ (c : Numbered). c ∷ drop (suc k) kept) at ∙ sym (drop_here kept k one inside)) listed

-- the newest chapter is listed in place of others

some_is : (a b : Numbered) → ◌≡◌ {A = Option Numbered} (Some a) (Some b) → a ≡ b
some_is a b same = cc

module _ (book : Book) (list : Listed) (first : Numbered) (to : IsNewestToList book list) (is : slice_get book.kept 0 ≡ Some first) where
  newest_is : first ≡ to.newest
  newest_is = some_is first to.newest (sym is ∙ ap (λ (cs : List Numbered). slice_get cs 0) to.kept)

  pub newest_kept : first ∷ chapters_elsewhere book.places first.number to.older ≡ book.kept
  newest_kept = ap (λ (c : Numbered). c ∷ chapters_elsewhere book.places c.number to.older) newest_is ∙ sym to.kept

  pub newest_room : (left : List Tagged) → AreListed (chapters_elsewhere book.places first.number to.older) left → length book.kept ≤ 4 * book.places → length left + 680 ≤ list.room
  newest_room left listed few =
      let less = listed_few (chapters_elsewhere book.places first.number to.older) left listed in
      let count : length book.kept ≡ suc (length (chapters_elsewhere book.places first.number to.older)) = ap length (sym newest_kept) in
      let all = to.room in
      omega (arith, less, count, all, few)

  pub newest_listed : (new : Listed) → AreListed (first ∷ chapters_elsewhere book.places first.number to.older) new.tags → list.room ≡ new.room → IsListed book new
  newest_listed new listed same = record {
    listed = subst (λ (cs : List Numbered). AreListed cs new.tags) newest_kept listed;
    room = let all = to.room in omega (arith, all, same);
  }

-- a chapter that was closed is to be listed
pub closed_to_list : (was : Bool) (old new : Book) (list : Listed) → was ≡ true → WasClosed was old new → IsListed old list → IsNewestToList new list
closed_to_list false old new list is how listed = absurd (false≢true is)
closed_to_list true old new list is how listed = record {
  older = old.kept;
  newest = newest;
  kept = how.1 ∙ ap (λ (places : ℕ). newest ∷ chapters_elsewhere places newest.number old.kept) (sym how.0);
  listed = listed.listed;
  room = let room = listed.room in let same = how.0 in omega (arith, room, same);
}
  where
    newest : Numbered
    newest = record { number = number_after old.kept; records = old.unclosed }

-- and else the list is that of the same chapters
pub still_listed : (was : Bool) (old new : Book) (list : Listed) → was ≡ false → WasClosed was old new → IsListed old list → IsListed new list
still_listed true old new list is how listed = absurd (false≢true (sym is))
still_listed false old new list is how listed = record {
  listed = subst (λ (cs : List Numbered). AreListed cs list.tags) (sym how.1) listed.listed;
  room = let room = listed.room in let same = how.0 in omega (arith, room, same);
}
