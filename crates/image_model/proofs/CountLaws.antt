-- A data block has one stored count, or one point at which it has none, and one number of mappings.
use Rattle.std.proofs.Common.{ℕ, zero, suc, ◌≡◌, ◌⊎◌, ◌+◌, ◌-◌, ◌%◌, ◌==◌, ◌<◌, nat_le, nat_lt, Bool, true, false, if◌then◌else◌, List, [], ◌∷◌, Contains, Result, Ok, Err, refl, sym, ◌∙◌, ap, ap₂, inl, inr, arith}
use Rattle.std.specs.List.{AllByRecursion}
use Rattle.std.proofs.lemmas.Bool.Decides.{eqb_tells}
use Rattle.blk_base.specs.Counters.{limit_of}
use Rattle.blk_base.specs.declared.layout.DataPlace.{DataPlace}
use Rattle.blk_base.specs.declared.place.Pbn.{Pbn}
use Rattle.image_model.specs.Counts.{AreRising, AreUpdates, HasMappings, Stores, adds_of, commit_of, count_after, count_from, counter_of, mapped_below, takes_of}
use Rattle.image_model.specs.Maps.{Image, mapping_of, IsTreePage}
use Rattle.image_model.specs.Pages.{address_count}

-- Rising numbers are known by which they are.

pub is_first_or_behind : {X : Type 0} (x : X) (xs : List X) (y : X) → Contains (x ∷ xs) y → (x ≡ y) ⊎ Contains xs y
is_first_or_behind x xs y (zero, inside, is) = inl is
is_first_or_behind x xs y (suc k, inside, is) = inr (k, omega (arith, inside), is)

pub is_first : {X : Type 0} (x : X) (xs : List X) → Contains (x ∷ xs) x
is_first x xs = (0, omega arith, refl)

pub is_behind : {X : Type 0} (x : X) (xs : List X) (y : X) → Contains xs y → Contains (x ∷ xs) y
is_behind x xs y (k, inside, is) = (suc k, omega (arith, inside), is)

pub none_in_nothing : {X : Type 0} (y : X) → Contains [] y → ⊥
none_in_nothing y (k, inside, is) = omega (arith, inside)

pub behind_is_above : (x : ℕ) (xs : List ℕ) (y : ℕ) → AllByRecursion (λ m. x < m) xs → Contains xs y → x < y
behind_is_above x [] y above has = absurd (none_in_nothing y has)
behind_is_above x (z ∷ zs) y above has = elim (is_first_or_behind z zs y has) [
  | inl same ↦ let more = above.0 in omega (arith, more, same)
  | inr later ↦ behind_is_above x zs y above.1 later
]

same_first : (x y : ℕ) (xs ys : List ℕ) → AreRising (x ∷ xs) → AreRising (y ∷ ys) → Contains (y ∷ ys) x → Contains (x ∷ xs) y → x ≡ y
same_first x y xs ys rising rising' there there' = elim (is_first_or_behind y ys x there) [
  | inl same ↦ sym same
  | inr later ↦ elim (is_first_or_behind x xs y there') [
    | inl same ↦ same
    | inr later' ↦ let more = behind_is_above y ys x rising'.0 later in let less = behind_is_above x xs y rising.0 later' in absurd (omega (arith, more, less))
  ]
]

rest_has : (x y : ℕ) (xs ys : List ℕ) → x ≡ y → AreRising (x ∷ xs) → ((p : ℕ) → Contains (x ∷ xs) p → Contains (y ∷ ys) p) → (p : ℕ) → Contains xs p → Contains ys p
rest_has x y xs ys same rising has p inside = elim (is_first_or_behind y ys p (has p (is_behind x xs p inside))) [
  | inl first ↦ let more = behind_is_above x xs p rising.0 inside in absurd (omega (arith, more, same, first))
  | inr behind ↦ behind
]

pub one_rising : (xs ys : List ℕ) → AreRising xs → AreRising ys → ((p : ℕ) → Contains xs p → Contains ys p) → ((p : ℕ) → Contains ys p → Contains xs p) → xs ≡ ys
one_rising [] [] rising rising' there back = refl
one_rising [] (y ∷ ys) rising rising' there back = absurd (none_in_nothing y (back y (is_first y ys)))
one_rising (x ∷ xs) [] rising rising' there back = absurd (none_in_nothing x (there x (is_first x xs)))
one_rising (x ∷ xs) (y ∷ ys) rising rising' there back =
    let same = same_first x y xs ys rising rising' (there x (is_first x xs)) (back y (is_first y ys)) in
    ap₂ (λ (n : ℕ) (ns : List ℕ). n ∷ ns) same
    (one_rising xs ys rising.1 rising'.1 (rest_has x y xs ys same rising there) (rest_has y x ys xs (sym same) rising' back))

-- The updates of a block, its stored count and the number of its mappings.

pub one_list_of_updates : (image : Image) (place : DataPlace) (points points' : List ℕ) → AreUpdates image place points → AreUpdates image place points' → points ≡ points'
one_list_of_updates image place points points' are are' =
    one_rising points points' are.rising are'.rising (λ p has. (are'.each p).1 ((are.each p).0 has)) (λ p has. (are.each p).1 ((are'.each p).0 has))

pub one_stored : (image : Image) (place : DataPlace) (result result' : Result ℕ ℕ) → Stores image place result → Stores image place result' → result ≡ result'
one_stored image place result result' stores stores' =
    sym stores.counted
    ∙ ap (count_from (limit_of image.geometry) (commit_of image place) (counter_of image place))
    (one_list_of_updates image place stores.points stores'.points stores.updates stores'.updates)
    ∙ stores'.counted

same_pages : (P : Type 0) (n m : ℕ) → ((n ≡ 1) × P) ⊎ ((n ≡ 0) × (P → ⊥)) → ((m ≡ 1) × P) ⊎ ((m ≡ 0) × (P → ⊥)) → n ≡ m
same_pages P n m (inl has) (inl has') = has.0 ∙ sym has'.0
same_pages P n m (inl has) (inr none') = absurd (none'.1 has.1)
same_pages P n m (inr none) (inl has') = absurd (none.1 has'.1)
same_pages P n m (inr none) (inr none') = none.0 ∙ sym none'.0

pub one_number : (image : Image) (block : Pbn) (count count' : ℕ) → HasMappings image block count → HasMappings image block count' → count ≡ count'
one_number image block count count' has has' =
    has.sum
    ∙ ap (λ (n : ℕ). mapped_below (mapping_of image) block (address_count image.geometry) + n)
    (same_pages (IsTreePage image block) has.pages has'.pages has.one_page has'.one_page)
    ∙ sym has'.sum

-- A stored count is the counter, plus what is added and minus what is taken away.

step : (even room none : Bool) (more less : Result ℕ ℕ) (point n : ℕ) → (if even then (if room then more else Err point) else (if none then Err point else less)) ≡ Ok n
    → ((even ≡ true) × (more ≡ Ok n)) ⊎ ((even ≡ false) × (none ≡ false) × (less ≡ Ok n))
step true true none more less point n is = inl (refl, is)
step true false none more less point n is = absurd (cc is)
step false room true more less point n is = absurd (cc is)
step false room false more less point n is = inr (refl, refl, is)

pub counted_is_sum : (limit count : ℕ) (points : List ℕ) (n : ℕ) → count_after limit count points ≡ Ok n → count + adds_of points ≡ n + takes_of points
counted_is_sum limit count [] n is = let same : count ≡ n = cc is in omega (arith, same)
counted_is_sum limit count (point ∷ later) n is =
    elim (step (point % 2 == 0) (nat_lt count limit) (count == 0) (count_after limit (count + 1) later) (count_after limit (count - 1) later) point n is) [
      | inl added ↦ let rest = counted_is_sum limit (count + 1) later n added.1 in rw (added.0) (omega (arith, rest))
      | inr taken ↦
          let rest = counted_is_sum limit (count - 1) later n taken.2 in
          elim (eqb_tells count 0) [
            | inl none ↦ absurd (let no = taken.1 in let yes = none.0 in cc (no, yes))
            | inr some ↦ let above = some.1 in rw (taken.0) (omega (arith, rest, above))
          ]
    ]

from_step : (fits : Bool) (counted : Result ℕ ℕ) (commit n : ℕ) → (if fits then counted else Err commit) ≡ Ok n → counted ≡ Ok n
from_step true counted commit n is = is
from_step false counted commit n is = absurd (cc is)

pub stored_is_sum : (limit commit counter : ℕ) (points : List ℕ) (n : ℕ) → count_from limit commit counter points ≡ Ok n → counter + adds_of points ≡ n + takes_of points
stored_is_sum limit commit counter points n is =
    counted_is_sum limit counter points n (from_step (nat_le counter limit) (count_after limit counter points) commit n is)
