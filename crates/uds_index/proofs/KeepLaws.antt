-- What keeping a page does to the chapters.
use Rattle.std.specs.Prelude.{ℕ, zero, suc, ◌≡◌, ◌≢◌, ◌<◌, ◌≤◌, ◌+◌, ◌*◌, ◌-◌, ◌%◌, ◌||◌, Bool, true, false, List, [], ◌∷◌, length, take, drop, All, AllPairs, nat_eq, nat_le, cond, slice_index_or, slice_set, refl}
use Rattle.std.specs.List.{insert}
use Rattle.std.proofs.Common.{sym, ◌∙◌, ap, subst, arith, inl, inr, length-append, length-take, length-drop}
use Rattle.std.proofs.lemmas.Bool.{false≢true, eqb-true, eqb-false, eq-eqb, ne_eqb, le-leb, lt-leb, leb-true, leb-false, cases_eq, cases_lt}
use Rattle.std.proofs.lemmas.List.Elements.{All-head, All-tail, All-cons}
use Rattle.std.proofs.lemmas.List.Folds.{list_any_none}
use Rattle.std.proofs.lemmas.List.Kept.{AllPairs-cons}
use Rattle.std.proofs.Math.Bool.{or-true}
use Rattle.uds_chapters.specs.declared.entry.Record.{Record}
use Rattle.uds_chapters.specs.Chapters.{Numbered}
use Rattle.index_advice.specs.Orders.{IsNewer}
use Rattle.uds_index.specs.Rooms.{count_at, place_of_chapter}
use Rattle.uds_index.specs.Loads.{has_chapter}
use Rattle.uds_index.specs.Held.{records_of, with_chapter, IsPlaceAmong, IsSmall, HasRecordsAt, IsJoined, KeepsPage}

pub newer_head : (one : Numbered) (ones : List Numbered) → AllPairs IsNewer (one ∷ ones) → All (IsNewer one) ones
newer_head one ones pairs = λ k d inside. pairs 0 (suc k) d (omega arith) (omega arith)

pub newer_tail : (one : Numbered) (ones : List Numbered) → AllPairs IsNewer (one ∷ ones) → AllPairs IsNewer ones
newer_tail one ones pairs = λ i j d before inside. pairs (suc i) (suc j) d (omega arith) (omega arith)

-- what holds of all chapters with other numbers, and of the new one, holds of all then
pub all_with : (P Q : Numbered → Type 0) (new : Numbered) (kept : List Numbered) → AllPairs IsNewer kept → P new
    → ((one : Numbered) → one.number ≢ new.number → Q one → P one) → All Q kept → All P (with_chapter new kept)
all_with P Q new [] pairs fits on all = All-cons P new [] fits (λ k d inside. absurd (omega (arith, inside)))
all_with P Q new (one ∷ ones) pairs fits on all =
    by (nat_le one.number new.number) (nat_eq one.number new.number) refl refl (all_with P Q new ones (newer_tail one ones pairs) fits on (All-tail Q one ones all))
  where
    later : one.number ≤ new.number → All P ones
    later below = λ k d inside.
        let less = newer_head one ones pairs k d inside in
        on (slice_index_or ones k d) (λ same. omega (arith, less, below, same)) (All-tail Q one ones all k d inside)

    by : (l e : Bool) → nat_le one.number new.number ≡ l → nat_eq one.number new.number ≡ e → All P (with_chapter new ones)
        → All P (cond l (new ∷ cond e ones (one ∷ ones)) (one ∷ with_chapter new ones))
    by true true le eq rest = All-cons P new ones fits (later (leb-true one.number new.number le))
    by true false le eq rest =
        All-cons P new (one ∷ ones) fits
        (All-cons P one ones (on one (eqb-false one.number new.number eq) (All-head Q one ones all)) (later (leb-true one.number new.number le)))
    by false e le eq rest =
        let above = leb-false one.number new.number le in
        All-cons P one (with_chapter new ones) (on one (λ same. omega (arith, above, same)) (All-head Q one ones all)) rest

pub newest_with : (new : Numbered) (kept : List Numbered) → AllPairs IsNewer kept → AllPairs IsNewer (with_chapter new kept)
newest_with new [] pairs = AllPairs-cons IsNewer new [] (λ k d inside. absurd (omega (arith, inside))) (λ i j d before inside. absurd (omega (arith, inside)))
newest_with new (one ∷ ones) pairs =
    by (nat_le one.number new.number) (nat_eq one.number new.number) refl refl (newest_with new ones (newer_tail one ones pairs))
  where
    under : one.number ≤ new.number → All (IsNewer new) ones
    under below = λ k d inside. let less = newer_head one ones pairs k d inside in omega (arith, less, below)

    by : (l e : Bool) → nat_le one.number new.number ≡ l → nat_eq one.number new.number ≡ e → AllPairs IsNewer (with_chapter new ones)
        → AllPairs IsNewer (cond l (new ∷ cond e ones (one ∷ ones)) (one ∷ with_chapter new ones))
    by true true le eq rest = AllPairs-cons IsNewer new ones (under (leb-true one.number new.number le)) (newer_tail one ones pairs)
    by true false le eq rest =
        let below = leb-true one.number new.number le in
        let apart = eqb-false one.number new.number eq in
        AllPairs-cons IsNewer new (one ∷ ones) (All-cons (IsNewer new) one ones (less below apart) (under below)) pairs
      where
        less : one.number ≤ new.number → (one.number ≡ new.number → ⊥) → one.number < new.number
        less below apart = omega (arith, below, apart)
    by false e le eq rest =
        let above = leb-false one.number new.number le in
        AllPairs-cons IsNewer one (with_chapter new ones)
        (all_with (IsNewer one) (IsNewer one) new ones (newer_tail one ones pairs) (omega (arith, above)) (λ other apart is. is) (newer_head one ones pairs)) rest

-- at most one more stands at its place
pub count_with : (places place : ℕ) (new : Numbered) (kept : List Numbered)
    → count_at (place_of_chapter places) place (with_chapter new kept) ≤ count_at (place_of_chapter places) place kept + cond (nat_eq (new.number % places) place) 1 0
count_with places place new [] = omega arith
count_with places place new (one ∷ ones) = by (nat_le one.number new.number) (nat_eq one.number new.number) (count_with places place new ones)
  where
    by : (l e : Bool) → count_at (place_of_chapter places) place (with_chapter new ones) ≤ count_at (place_of_chapter places) place ones + cond (nat_eq (new.number % places) place) 1 0
        → count_at (place_of_chapter places) place (cond l (new ∷ cond e ones (one ∷ ones)) (one ∷ with_chapter new ones))
        ≤ count_at (place_of_chapter places) place (one ∷ ones) + cond (nat_eq (new.number % places) place) 1 0
    by true true rest = omega arith
    by true false rest = omega arith
    by false e rest = omega (arith, rest)

-- the chapters that are there are there still, and the new one is
pub has_with : (new : Numbered) (number : ℕ) (kept : List Numbered) → has_chapter number kept ≡ true → has_chapter number (with_chapter new kept) ≡ true
has_with new number [] has = absurd (false≢true has)
has_with new number (one ∷ ones) has = by (nat_le one.number new.number) (nat_eq one.number new.number) refl (has_with new number ones)
  where
    further : (b : Bool) → (b || has_chapter number ones) ≡ true → (has_chapter number ones ≡ true → has_chapter number (with_chapter new ones) ≡ true)
        → (b || has_chapter number (with_chapter new ones)) ≡ true
    further true has rest = refl
    further false has rest = rest has

    by : (l e : Bool) → nat_eq one.number new.number ≡ e → (has_chapter number ones ≡ true → has_chapter number (with_chapter new ones) ≡ true)
        → has_chapter number (cond l (new ∷ cond e ones (one ∷ ones)) (one ∷ with_chapter new ones)) ≡ true
    by true true eq rest = ap (λ (n : ℕ). nat_eq n number || has_chapter number ones) (sym (eqb-true one.number new.number eq)) ∙ has
    by true false eq rest = ap (λ (b : Bool). nat_eq new.number number || b) has ∙ or-true (nat_eq new.number number)
    by false e eq rest = further (nat_eq one.number number) has rest

pub has_new : (new : Numbered) (kept : List Numbered) → has_chapter new.number (with_chapter new kept) ≡ true
has_new new [] = ap (λ (b : Bool). b || false) (eq-eqb new.number new.number refl)
has_new new (one ∷ ones) = by (nat_le one.number new.number) (nat_eq one.number new.number) (has_new new ones)
  where
    by : (l e : Bool) → has_chapter new.number (with_chapter new ones) ≡ true
        → has_chapter new.number (cond l (new ∷ cond e ones (one ∷ ones)) (one ∷ with_chapter new ones)) ≡ true
    by true e rest = ap (λ (b : Bool). b || has_chapter new.number (cond e ones (one ∷ ones))) (eq-eqb new.number new.number refl)
    by false e rest = ap (λ (b : Bool). nat_eq one.number new.number || b) rest ∙ or-true (nat_eq one.number new.number)

-- a chapter that isn't there has no records
pub none_there : (number : ℕ) (kept : List Numbered) → has_chapter number kept ≡ false → records_of number kept ≡ []
none_there number [] none = refl
none_there number (one ∷ ones) none = by (nat_eq one.number number) none (none_there number ones)
  where
    by : (b : Bool) → (b || has_chapter number ones) ≡ false → (has_chapter number ones ≡ false → records_of number ones ≡ [])
        → cond b one.records (records_of number ones) ≡ []
    by true none rest = absurd (false≢true (sym none))
    by false none rest = rest none

pub small_records : (places block number : ℕ) (kept : List Numbered) → All (IsSmall places block) kept
    → length (records_of number kept) ≤ 170 * (block - 4 * (number % places))
small_records places block number [] all = omega arith
small_records places block number (one ∷ ones) all =
    by (nat_eq one.number number) refl (small_records places block number ones (All-tail (IsSmall places block) one ones all))
  where
    by : (b : Bool) → nat_eq one.number number ≡ b → length (records_of number ones) ≤ 170 * (block - 4 * (number % places))
        → length (cond b one.records (records_of number ones)) ≤ 170 * (block - 4 * (number % places))
    by true same rest =
        subst (λ (n : ℕ). length one.records ≤ 170 * (block - 4 * (n % places))) (eqb-true one.number number same) (All-head (IsSmall places block) one ones all)
    by false other rest = rest

-- where the chapter with a number stands, or would stand

place-tail : (number : ℕ) (one : Numbered) (ones : List Numbered) (place : ℕ) → IsPlaceAmong number (one ∷ ones) (suc place) → IsPlaceAmong number ones place
place-tail number one ones place at = let inside = at.inside in record {
  inside = omega (arith, inside);
  before = λ k d below. at.before (suc k) d (omega (arith, below));
  behind = λ d within. at.behind d (omega (arith, within));
}

newer_than : (number : ℕ) (one : Numbered) (ones : List Numbered) (place : ℕ) → IsPlaceAmong number (one ∷ ones) (suc place) → number < one.number
newer_than number one ones place at = at.before 0 one (omega arith)

pub put_at : (new : Numbered) (kept : List Numbered) (place : ℕ) → IsPlaceAmong new.number kept place → place < length kept
    → ((d : Numbered) → (slice_index_or kept place d).number ≡ new.number) → slice_set kept place new ≡ with_chapter new kept
put_at new [] place at inside same = absurd (omega (arith, inside))
put_at new (one ∷ ones) zero at inside same =
    let own : one.number ≡ new.number = same one in
    let le = le-leb one.number new.number (omega (arith, own)) in
    let eq = eq-eqb one.number new.number own in
    rw (le, eq) refl
put_at new (one ∷ ones) (suc place) at inside same =
    let less = newer_than new.number one ones place at in
    let le = lt-leb one.number new.number less in
    rw le (ap (λ rest. one ∷ rest) (put_at new ones place (place-tail new.number one ones place at) (omega (arith, inside)) same))

pub insert_at : (new : Numbered) (kept : List Numbered) (place : ℕ) → IsPlaceAmong new.number kept place
    → (place < length kept → (d : Numbered) → (slice_index_or kept place d).number ≢ new.number) → insert kept place new ≡ with_chapter new kept
insert_at new [] zero at apart = refl
insert_at new [] (suc place) at apart = let inside = at.inside in absurd (omega (arith, inside))
insert_at new (one ∷ ones) zero at apart =
    let below : one.number ≤ new.number = at.behind one (omega arith) in
    let le = le-leb one.number new.number below in
    let eq = ne_eqb one.number new.number (apart (omega arith) one) in
    rw (le, eq) refl
insert_at new (one ∷ ones) (suc place) at apart =
    let less = newer_than new.number one ones place at in
    let le = lt-leb one.number new.number less in
    rw le (ap (λ rest. one ∷ rest) (insert_at new ones place (place-tail new.number one ones place at) (λ inside. apart (omega (arith, inside)))))

pub records_at : (number : ℕ) (kept : List Numbered) (place : ℕ) (d : Numbered) → IsPlaceAmong number kept place → place < length kept
    → (slice_index_or kept place d).number ≡ number → records_of number kept ≡ (slice_index_or kept place d).records
records_at number [] place d at inside same = absurd (omega (arith, inside))
records_at number (one ∷ ones) zero d at inside same = let eq = eq-eqb one.number number same in rw eq refl
records_at number (one ∷ ones) (suc place) d at inside same =
    let less = newer_than number one ones place at in
    let eq = ne_eqb one.number number (λ is. omega (arith, less, is)) in
    rw eq (records_at number ones place d (place-tail number one ones place at) (omega (arith, inside)) same)

-- where it would stand there is none
pub no_chapter : (number : ℕ) (kept : List Numbered) (place : ℕ) → AllPairs IsNewer kept → IsPlaceAmong number kept place
    → (place < length kept → (d : Numbered) → (slice_index_or kept place d).number ≢ number) → has_chapter number kept ≡ false
no_chapter number kept place pairs at apart = list_any_none (λ (one : Numbered). nat_eq one.number number) kept (λ k d inside.
    ne_eqb (slice_index_or kept k d).number number (λ same. elim (cases_lt k place) [
      | inl before ↦ let newer = at.before k d before in omega (arith, newer, same)
      | inr behind ↦ elim (cases_eq k place) [
        | inl here ↦ apart (omega (arith, here, inside)) d (ap (λ (n : ℕ). (slice_index_or kept n d).number) (sym here) ∙ same)
        | inr other ↦
            let newer = pairs place k d (before_other place k behind other) inside in
            let below = at.behind d (omega (arith, behind, inside)) in
            omega (arith, newer, below, same)
      ]
    ]))
  where
    before_other : (m k : ℕ) → m ≤ k → (k ≡ m → ⊥) → m < k
    before_other m k behind other = omega (arith, behind, other)

-- a page is kept, with the records of its chapter, or as a chapter of its own

pub replaced : (number : ℕ) (page : List Record) (old : List Numbered) (place : ℕ) (earlier : List Record) (chapter : Numbered)
    → IsPlaceAmong number old place → HasRecordsAt number old place earlier → IsJoined number earlier page chapter
    → KeepsPage number page old (slice_set old place chapter)
replaced number page old place earlier chapter at has joined = record {
  chapter = chapter;
  joined = subst (λ (rs : List Record). IsJoined number rs page chapter)
      (sym (records_at number old place chapter at has.inside (has.number_is chapter) ∙ has.records_are chapter)) joined;
  kept = put_at chapter old place (subst (λ (n : ℕ). IsPlaceAmong n old place) (sym joined.number_is) at) has.inside (λ d. has.number_is d ∙ sym joined.number_is);
}

inserts : (number : ℕ) (page : List Record) (old : List Numbered) (place : ℕ) (chapter : Numbered) → IsPlaceAmong number old place
    → (place < length old → (d : Numbered) → (slice_index_or old place d).number ≢ number) → IsJoined number [] page chapter
    → insert old place chapter ≡ with_chapter chapter old
inserts number page old place chapter at none joined =
    insert_at chapter old place (subst (λ (n : ℕ). IsPlaceAmong n old place) (sym joined.number_is) at) (λ inside d same. none inside d (same ∙ joined.number_is))

pub inserted : (number : ℕ) (page : List Record) (old : List Numbered) (place : ℕ) (chapter : Numbered) (new : List Numbered) → AllPairs IsNewer old
    → IsPlaceAmong number old place → (place < length old → (d : Numbered) → (slice_index_or old place d).number ≢ number)
    → IsJoined number [] page chapter → new ≡ insert old place chapter → KeepsPage number page old new
inserted number page old place chapter new pairs at none joined is = record {
  chapter = chapter;
  joined = subst (λ (rs : List Record). IsJoined number rs page chapter) (sym (none_there number old (no_chapter number old place pairs at none))) joined;
  kept = is ∙ inserts number page old place chapter at none joined;
}

pub one_more : (number : ℕ) (page : List Record) (old : List Numbered) (place : ℕ) (chapter : Numbered) → IsPlaceAmong number old place
    → (place < length old → (d : Numbered) → (slice_index_or old place d).number ≢ number) → IsJoined number [] page chapter
    → length (with_chapter chapter old) ≡ length old + 1
one_more number page old place chapter at none joined =
    let both = length-append (take place old) (chapter ∷ drop place old) in
    let before = length-take place old in
    let behind = length-drop place old in
    let inside = at.inside in
    sym (ap length (inserts number page old place chapter at none joined)) ∙ (omega (arith, both, before, behind, inside))
