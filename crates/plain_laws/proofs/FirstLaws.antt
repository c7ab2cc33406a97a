-- What the list is without the first element that passes a test, and how it is found by its place.
use Rattle.std.specs.Prelude.{ℕ, suc, ◌≡◌, ◌≤◌, ◌+◌, Bool, true, false, cond, not, List, [], ◌∷◌, length, None, Some, All, position, refl}
use Rattle.std.specs.List.{find, remove, position_or_len}
use Rattle.std.proofs.Common.{ap, ◌∙◌, sym, subst, arith, get_or}
use Rattle.std.proofs.lemmas.Bool.{ltb-true, ltb-false, cond-false}
use Rattle.std.proofs.lemmas.List.Elements.{All-nil, All-cons, All-head, All-tail}
use Rattle.std.proofs.lemmas.List.Folds.{find_at}
use Rattle.std.proofs.lemmas.Option.{cond_some, same_Some, slice_get_read, slice_get_past}
use Rattle.plain_laws.specs.Firsts.{but_first}

-- where nothing is found, the first doesn't pass, and nothing behind it is found
pub find-none_parts : {X : Type 0} (test : X → Bool) (x : X) (xs : List X) → find test (x ∷ xs) ≡ None → (test x ≡ false) × (find test xs ≡ None)
find-none_parts {X} test x xs none = by_first (test x) none
  where
    by_first : (passes : Bool) → cond passes (Some x) (find test xs) ≡ None → (passes ≡ false) × (find test xs ≡ None)
    by_first true some = cc
    by_first false none = (refl, none)

module _ {X : Type 0} (test : X → Bool) where
  -- by the place at which code finds it
  pub find-position : (xs : List X) (place : ℕ) (x : X) → position test xs ≡ Some place → x ≡ get_or xs place x → find test xs ≡ Some x
  find-position xs place x found read =
      let at = cond_some _ _ _ found in
      find_at test xs ∙ slice_get_read xs (length xs) (position_or_len test xs) x refl (ltb-true _ _ at.0) (read ∙ ap (λ n. get_or xs n x) (sym at.1))

  pub find-nowhere : (xs : List X) → position test xs ≡ None → find test xs ≡ None
  find-nowhere xs none = find_at test xs ∙ slice_get_past xs (position_or_len test xs) (ltb-false _ _ (unplaced _ _ none))
    where
      unplaced : (inside : Bool) (place : ℕ) → cond inside (Some place) None ≡ None → inside ≡ false
      unplaced true place some = cc
      unplaced false place none = refl

  remove_first : (xs : List X) → remove xs (position_or_len test xs) ≡ but_first test xs
  remove_first [] = refl
  remove_first (x ∷ xs) = elim (test x) as (λ b. remove (x ∷ xs) (cond (not b) (1 + position_or_len test xs) 0) ≡ cond b xs (x ∷ but_first test xs)) [
    | true ↦ refl
    | false ↦
        let more : 1 + position_or_len test xs ≡ suc (position_or_len test xs) = omega arith in
        ap (λ n. remove (x ∷ xs) n) more ∙ ap (λ ys. x ∷ ys) (remove_first xs)
  ]

  pub remove-position : (xs : List X) (place : ℕ) → position test xs ≡ Some place → remove xs place ≡ but_first test xs
  remove-position xs place found = ap (λ n. remove xs n) (sym (cond_some _ _ _ found).1) ∙ remove_first xs

  pub length-but_first : (xs : List X) (x : X) → find test xs ≡ Some x → length (but_first test xs) + 1 ≡ length xs
  length-but_first [] x found = cc
  length-but_first (y ∷ ys) x found = grind (arith, length-but_first ys x)

  pub length-but_first_most : (xs : List X) → length (but_first test xs) ≤ length xs
  length-but_first_most [] = omega arith
  length-but_first_most (x ∷ xs) = elim (test x) as (λ b. length (cond b xs (x ∷ but_first test xs)) ≤ length (x ∷ xs)) [
    | true ↦ omega arith
    | false ↦ omega (arith, length-but_first_most xs)
  ]

  pub All-but_first : (P : X → Type 0) (xs : List X) → All P xs → All P (but_first test xs)
  All-but_first P [] all = all
  All-but_first P (x ∷ xs) all = elim (test x) as (λ b. All P (cond b xs (x ∷ but_first test xs))) [
    | true ↦ All-tail P x xs all
    | false ↦ All-cons P x (but_first test xs) (All-head P x xs all) (All-but_first P xs (All-tail P x xs all))
  ]

  -- what is found passes the test; where nothing is found, nothing passes
  pub find-passes : (xs : List X) (x : X) → find test xs ≡ Some x → test x ≡ true
  find-passes [] x found = cc
  find-passes (y ∷ ys) x found = by_first (test y) refl found (find-passes ys x)
    where
      by_first : (passes : Bool) → test y ≡ passes → cond passes (Some y) (find test ys) ≡ Some x → (find test ys ≡ Some x → test x ≡ true) → test x ≡ true
      by_first true passes same behind = ap test (sym (same_Some _ _ same)) ∙ passes
      by_first false fails found behind = behind found

  pub All-find : (P : X → Type 0) (xs : List X) (x : X) → All P xs → find test xs ≡ Some x → P x
  All-find P [] x all found = cc
  All-find P (y ∷ ys) x all found = by_first (test y) found (All-find P ys x (All-tail P y ys all))
    where
      by_first : (passes : Bool) → cond passes (Some y) (find test ys) ≡ Some x → (find test ys ≡ Some x → P x) → P x
      by_first true same behind = subst (λ (z : X). P z) (same_Some _ _ same) (All-head P y ys all)
      by_first false found behind = behind found

  pub find-none : (xs : List X) → find test xs ≡ None → All (λ x. test x ≡ false) xs
  find-none [] none = All-nil (λ x. test x ≡ false)
  find-none (x ∷ xs) none =
      let parts = find-none_parts test x xs none in
      All-cons (λ y. test y ≡ false) x xs parts.0 (find-none xs parts.1)

  -- where nothing passes, the list stays
  pub but_first-none : (xs : List X) → find test xs ≡ None → but_first test xs ≡ xs
  but_first-none [] none = refl
  but_first-none (x ∷ xs) none =
      let parts = find-none_parts test x xs none in
      cond-false (test x) xs (x ∷ but_first test xs) parts.0 ∙ ap (λ ys. x ∷ ys) (but_first-none xs parts.1)

  -- what another test finds is found without it, where no element passes both
  pub find-but_first : (other : X → Bool) → ((x : X) → test x ≡ true → other x ≡ false) → (xs : List X) → find other (but_first test xs) ≡ find other xs
  find-but_first other apart [] = refl
  find-but_first other apart (x ∷ xs) = by_first (test x) refl (find-but_first other apart xs)
    where
      by_first : (passes : Bool) → test x ≡ passes → find other (but_first test xs) ≡ find other xs
          → find other (cond passes xs (x ∷ but_first test xs)) ≡ find other (x ∷ xs)
      by_first true passes behind = sym (cond-false (other x) (Some x) (find other xs) (apart x passes))
      by_first false fails behind = ap (λ found. cond (other x) (Some x) found) behind

  pub find-but_first_none : (other : X → Bool) (xs : List X) → find other xs ≡ None → find other (but_first test xs) ≡ None
  find-but_first_none other [] none = none
  find-but_first_none other (x ∷ xs) none =
      let parts = find-none_parts other x xs none in
      elim (test x) as (λ b. find other (cond b xs (x ∷ but_first test xs)) ≡ None) [
        | true ↦ parts.1
        | false ↦ cond-false (other x) (Some x) (find other (but_first test xs)) parts.0 ∙ find-but_first_none other xs parts.1
      ]
