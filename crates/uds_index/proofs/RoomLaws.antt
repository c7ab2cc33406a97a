-- Where at no place stand more than four, there are at most four for each place.
use Rattle.std.specs.Prelude.{ℕ, zero, suc, ◌≡◌, ◌≢◌, ◌<◌, ◌≤◌, ◌+◌, ◌*◌, Bool, true, false, not, List, [], ◌∷◌, ◌++◌, length, filter, take, nat_eq, nat_lt, cond, refl}
use Rattle.std.proofs.Common.{sym, ◌∙◌, ap, arith, get_or}
use Rattle.std.proofs.lemmas.List.{take_more}
use Rattle.std.proofs.lemmas.Bool.{eqb-true, eqb-false, ltb-true, ltb-false, lt-ltb, le-ltb}
use Rattle.uds_index.specs.Rooms.{count_at, FewAtPlaces}

further : (m k : ℕ) → k ≤ m → (m ≡ k → ⊥) → suc k ≤ m
further m k above apart = omega (arith, above, apart)

-- a number is below the next one where it is below this one, or is it
one_next : (m k : ℕ) → cond (nat_lt m (suc k)) 1 0 ≡ cond (nat_lt m k) 1 0 + cond (nat_eq m k) 1 0
one_next m k = by (nat_lt m k) (nat_eq m k) refl refl
  where
    by : (l e : Bool) → nat_lt m k ≡ l → nat_eq m k ≡ e → cond (nat_lt m (suc k)) 1 0 ≡ cond l 1 0 + cond e 1 0
    by true true less same = let below = ltb-true m k less in let equal = eqb-true m k same in absurd (omega (arith, below, equal))
    by true false less same = let below = ltb-true m k less in rw (lt-ltb m (suc k) (omega (arith, below))) refl
    by false true less same = let equal = eqb-true m k same in rw (lt-ltb m (suc k) (omega (arith, equal))) refl
    by false false less same =
        let above = ltb-false m k less in let apart = eqb-false m k same in
        rw (le-ltb m (suc k) (further m k above apart)) refl

-- what is read inside a list doesn't look at what a read past its end would give
pub same_read : {X : Type 0} (ones : List X) (k : ℕ) (d e : X) → k < length ones → get_or ones k d ≡ get_or ones k e
same_read [] k d e inside = absurd (omega (arith, inside))
same_read (one ∷ ones) zero d e inside = refl
same_read (one ∷ ones) (suc k) d e inside = same_read ones k d e (omega (arith, inside))

-- an if counts one at most
pub one_at_most : (b : Bool) → cond b 1 0 ≤ 1
one_at_most true = omega arith
one_at_most false = omega arith

module _ {X : Type 0} (place_of : X → ℕ) where
  -- how many stand below this place
  count_below : ℕ → List X → ℕ
  count_below k [] = 0
  count_below k (one ∷ ones) = cond (nat_lt (place_of one) k) 1 0 + count_below k ones

  below_none : (ones : List X) → count_below 0 ones ≡ 0
  unfolding count_below
  below_none [] = refl
  below_none (one ∷ ones) = rw (le-ltb (place_of one) 0 (omega arith)) (let rest = below_none ones in omega (arith, rest))

  below_next : (k : ℕ) (ones : List X) → count_below (suc k) ones ≡ count_below k ones + count_at place_of k ones
  unfolding count_below
  below_next k [] = refl
  below_next k (one ∷ ones) = let first = one_next (place_of one) k in let more = below_next k ones in omega (arith, first, more)

  below_few : (k : ℕ) (ones : List X) → FewAtPlaces place_of ones → count_below k ones ≤ 4 * k
  below_few zero ones few = let none = below_none ones in omega (arith, none)
  below_few (suc k) ones few =
      let next = below_next k ones in let less = below_few k ones few in let here = few k in omega (arith, next, less, here)

  below_all : (k : ℕ) (ones : List X) → ((one : X) → place_of one < k) → count_below k ones ≡ length ones
  unfolding count_below
  below_all k [] below = refl
  below_all k (one ∷ ones) below = rw (lt-ltb (place_of one) k (below one)) (let more = below_all k ones below in omega (arith, more))

  pub few_in_all : (places : ℕ) (ones : List X) → ((one : X) → place_of one < places) → FewAtPlaces place_of ones → length ones ≤ 4 * places
  few_in_all places ones below few = let all = below_all places ones below in let less = below_few places ones few in omega (arith, all, less)

  -- leaving some out adds none
  count_fewer : (test : X → Bool) (place : ℕ) (ones : List X) → count_at place_of place (filter test ones) ≤ count_at place_of place ones
  count_fewer test place [] = omega arith
  count_fewer test place (one ∷ ones) = by (test one) (count_fewer test place ones)
    where
      by : (b : Bool) → count_at place_of place (filter test ones) ≤ count_at place_of place ones
          → count_at place_of place (cond b (one ∷ filter test ones) (filter test ones)) ≤ count_at place_of place (one ∷ ones)
      by true less = omega (arith, less)
      by false less = omega (arith, less)

  -- and where all of a place are left out, none stands there
  count_none : (place : ℕ) (ones : List X) → count_at place_of place (filter (λ one. not (nat_eq (place_of one) place)) ones) ≡ 0
  count_none place [] = refl
  count_none place (one ∷ ones) = by (nat_eq (place_of one) place) refl (count_none place ones)
    where
      by : (b : Bool) → nat_eq (place_of one) place ≡ b → count_at place_of place (filter (λ one. not (nat_eq (place_of one) place)) ones) ≡ 0
          → count_at place_of place (cond (not b) (one ∷ filter (λ one. not (nat_eq (place_of one) place)) ones) (filter (λ one. not (nat_eq (place_of one) place)) ones)) ≡ 0
      by true same none = none
      by false other none = rw other (omega (arith, none))

  pub count_append : (place : ℕ) (ones more : List X) → count_at place_of place (ones ++ more) ≡ count_at place_of place ones + count_at place_of place more
  count_append place [] more = omega arith
  count_append place (one ∷ ones) more = let rest = count_append place ones more in omega (arith, rest)

  -- at most four that all stand at this place, behind those that stand elsewhere
  pub few_behind : (here : ℕ) (ones more : List X) → FewAtPlaces place_of ones → ((place : ℕ) → here ≢ place → count_at place_of place more ≡ 0)
      → count_at place_of here more ≤ 4 → FewAtPlaces place_of (filter (λ one. not (nat_eq (place_of one) here)) ones ++ more)
  few_behind here ones more few elsewhere four place = by (nat_eq here place) refl
    where
      by : (b : Bool) → nat_eq here place ≡ b → count_at place_of place (filter (λ one. not (nat_eq (place_of one) here)) ones ++ more) ≤ 4
      by true same = rw (sym (eqb-true here place same))
          (let both = count_append here (filter (λ one. not (nat_eq (place_of one) here)) ones) more in let none = count_none here ones in omega (arith, both, none, four))
      by false other =
          let both = count_append place (filter (λ one. not (nat_eq (place_of one) here)) ones) more in
          let none = elsewhere place (eqb-false here place other) in
          let less = count_fewer (λ one. not (nat_eq (place_of one) here)) place ones in
          let room = few place in
          omega (arith, both, none, less, room)

  -- one at this place, before those that stand elsewhere
  pub few_before : (new : X) (ones : List X) → FewAtPlaces place_of ones → FewAtPlaces place_of (new ∷ filter (λ one. not (nat_eq (place_of one) (place_of new))) ones)
  few_before new ones few place = by (nat_eq (place_of new) place) refl
    where
      by : (b : Bool) → nat_eq (place_of new) place ≡ b
          → cond b 1 0 + count_at place_of place (filter (λ one. not (nat_eq (place_of one) (place_of new))) ones) ≤ 4
      by true same = rw (sym (eqb-true (place_of new) place same)) (let none = count_none (place_of new) ones in omega (arith, none))
      by false other =
          let less = count_fewer (λ one. not (nat_eq (place_of one) (place_of new))) place ones in
          let room = few place in
          omega (arith, less, room)

  -- none counts more than there are, and one more counts where it stands at the place
  pub count_few : (place : ℕ) (ones : List X) → count_at place_of place ones ≤ length ones
  count_few place [] = omega arith
  count_few place (one ∷ ones) = by (nat_eq (place_of one) place) (count_few place ones)
    where
      by : (b : Bool) → count_at place_of place ones ≤ length ones → cond b 1 0 + count_at place_of place ones ≤ suc (length ones)
      by true less = omega (arith, less)
      by false less = omega (arith, less)

  pub count_more : (place : ℕ) (ones : List X) (k : ℕ) (one : X) → k < length ones → one ≡ get_or ones k one
      → count_at place_of place (take (k + 1) ones) ≡ count_at place_of place (take k ones) + cond (nat_eq (place_of one) place) 1 0
  count_more place ones k one inside is =
      let both = count_append place (take k ones) (get_or ones k one ∷ []) in
      ap (count_at place_of place) (take_more ones k one inside) ∙ both
      ∙ ap (λ (x : X). count_at place_of place (take k ones) + (cond (nat_eq (place_of x) place) 1 0 + 0)) (sym is)
      ∙ omega arith

  pub count_taken : (place k : ℕ) (ones : List X) → count_at place_of place (take k ones) ≤ k
  count_taken place zero ones = omega arith
  count_taken place (suc k) [] = omega arith
  count_taken place (suc k) (one ∷ ones) =
      let less = count_taken place k ones in
      let first = one_at_most (nat_eq (place_of one) place) in
      omega (arith, less, first)
