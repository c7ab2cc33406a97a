-- The addresses that a script names, as they are gathered.
use Rattle.std.proofs.Common.{ℕ, ◌≡◌, ◌⊎◌, ◌<◌, nat_lt, Bool, if◌then◌else◌, Option, Some, None, List, [], ◌∷◌, Contains, map, flat_map, get_or, eqb, refl, sym, ◌∙◌, ap, subst, inl, inr, arith}
use Rattle.std.specs.List.{AllPairs, dedup, filter_map}
use Rattle.std.specs.List.Retain.{DiffersFromLast, IsFiltered}
use Rattle.std.specs.List.Sorted.{IsPermutation, IsSorted}
use Rattle.std.specs.Ordering.{nat_cmp}
use Rattle.std.proofs.lemmas.Bool.{cases_Bool, lt-ltb, ltb-true}
use Rattle.std.proofs.Math.ListN.{get_or-map}
use Rattle.std.proofs.lemmas.List.{length-map}
use Rattle.std.proofs.lemmas.List.Concat.{flat_map-cons}
use Rattle.std.proofs.lemmas.List.Elements.{Contains-append_left, Contains-append_right, Contains-append_cases}
use Rattle.std.proofs.lemmas.List.Filters.{dedup_is}
use Rattle.std.proofs.lemmas.List.Kept.{AllPairs-from_increasing, Contains-dedup_nat, Contains-from_dedup}
use Rattle.std.proofs.lemmas.List.Sorted.{Contains-permutation, IsPermutation-sym}
use Rattle.std.proofs.lemmas.Map.Keys.{IsStrictlyIncreasing-dedup}
use Rattle.blk_base.specs.declared.place.Lba.{Lba}
use Rattle.blk_base.specs.Forms.{lba}
use Rattle.image_model.proofs.CountLaws.{is_behind, is_first, is_first_or_behind, none_in_nothing}
use Rattle.vdo_model.specs.Scripts.{Script, address_of}
use Rattle.crash_images.specs.Addresses.{AreAddresses, IsNamed, address_below, where_below}

-- Of one request.

below_is : (logical : ℕ) (o : Option ℕ) (address : ℕ) → where_below logical o ≡ Some address → (o ≡ Some address) × (address < logical)
below_is logical None address is = absurd cc
below_is logical (Some other) address is = elim (cases_Bool (nat_lt other logical)) [
  | inl below ↦ let same : Some other ≡ Some address = rw below at is in (same, subst (λ (n : ℕ). n < logical) (let here : other ≡ address = cc in here) (ltb-true other logical below))
  | inr not_below ↦ absurd (let none : None ≡ Some address = rw not_below at is in cc)
]

is_below : (logical : ℕ) (o : Option ℕ) (address : ℕ) → o ≡ Some address → address < logical → where_below logical o ≡ Some address
is_below logical o address same below =
    subst (λ (p : Option ℕ). where_below logical p ≡ Some address) (sym same) (ap (λ (b : Bool). if b then Some address else None) (lt-ltb address logical below))

-- Of the requests of one stream.

module _ {X : Type 0} (f : X → Option ℕ) where
  step_has : (o : Option ℕ) (x : X) (xs : List X) (address : ℕ) → f x ≡ o → Contains (filter_map f (x ∷ xs)) address → (o ≡ Some address) ⊎ Contains (filter_map f xs) address
  step_has None x xs address is has = inr (rw is at has)
  step_has (Some first) x xs address is has = elim (is_first_or_behind first (filter_map f xs) address (rw is at has)) [
    | inl same ↦ inl (ap Some same)
    | inr behind ↦ inr behind
  ]

  from_has : (xs : List X) (address : ℕ) → Contains (filter_map f xs) address → (x : X) × Contains xs x × (f x ≡ Some address)
  from_has [] address has = absurd (none_in_nothing address has)
  from_has (x ∷ xs) address has = elim (step_has (f x) x xs address refl has) [
    | inl first ↦ (x, is_first x xs, first)
    | inr behind ↦ let found = from_has xs address behind in (found.0, is_behind x xs found.0 found.1, found.2)
  ]

  keeps_it : (first : Option ℕ) (x : X) (xs : List X) (address : ℕ) → f x ≡ first → Contains (filter_map f xs) address → Contains (filter_map f (x ∷ xs)) address
  keeps_it None x xs address is has = rw is has
  keeps_it (Some first) x xs address is has = rw is (is_behind first (filter_map f xs) address has)

  has_it : (xs : List X) (x : X) (address : ℕ) → Contains xs x → f x ≡ Some address → Contains (filter_map f xs) address
  has_it [] x address has is = absurd (none_in_nothing x has)
  has_it (y ∷ xs) x address has is = elim (is_first_or_behind y xs x has) [
    | inl same ↦ let here : f y ≡ Some address = ap f same ∙ is in rw here (is_first address (filter_map f xs))
    | inr behind ↦ keeps_it (f y) y xs address refl (has_it xs x address behind is)
  ]

  -- Of all streams.

  pub from_all : (rows : List (List X)) (address : ℕ) → Contains (flat_map (filter_map f) rows) address
      → (row : List X) × (x : X) × Contains rows row × Contains row x × (f x ≡ Some address)
  from_all [] address has = absurd (none_in_nothing address has)
  from_all (row ∷ rows) address has = elim (Contains-append_cases (filter_map f row) (flat_map (filter_map f) rows) address (rw (flat_map-cons (filter_map f) row rows) at has)) [
    | inl here ↦ let found = from_has row address here in (row, found.0, is_first row rows, found.1, found.2)
    | inr later ↦ let found = from_all rows address later in (found.0, found.1, is_behind row rows found.0 found.2, found.3, found.4)
  ]

  pub has_all : (rows : List (List X)) (row : List X) (x : X) (address : ℕ) → Contains rows row → Contains row x → f x ≡ Some address
      → Contains (flat_map (filter_map f) rows) address
  has_all [] row x address there has is = absurd (none_in_nothing row there)
  has_all (first ∷ rows) row x address there has is =
      rw (flat_map-cons (filter_map f) first rows)
      (elim (is_first_or_behind first rows row there) [
        | inl same ↦
            Contains-append_left (filter_map f first) (flat_map (filter_map f) rows) address (has_it first x address (subst (λ (r : List X). Contains r x) (sym same) has) is)
        | inr later ↦ Contains-append_right (filter_map f first) (flat_map (filter_map f) rows) address (has_all rows row x address later has is)
      ])

-- So what is gathered is what the script names.

pub named_of : (script : Script) (logical address : ℕ) → Contains (flat_map (filter_map (address_below logical)) script) address → IsNamed script logical address
named_of script logical address has =
    let found = from_all (address_below logical) script address has in
    let is = below_is logical (address_of found.1) address found.4 in
    (found.0, found.1, found.2, found.3, is.0, is.1)

pub of_named : (script : Script) (logical address : ℕ) → IsNamed script logical address → Contains (flat_map (filter_map (address_below logical)) script) address
of_named script logical address (requests, request, there, has, is, below) =
    has_all (address_below logical) script requests request address there has (is_below logical (address_of request) address is below)

-- Addresses for numbers.

pub number_in : (numbers : List ℕ) (at : Lba) → Contains (map lba numbers) at → Contains numbers at.0
number_in numbers at (k, inside, is) =
    let size = length-map numbers lba in (k, omega (arith, inside, size), ap (λ (l : Lba). l.0) (sym (get_or-map lba numbers k at.0) ∙ is))

pub address_in : (numbers : List ℕ) (at : Lba) → Contains numbers at.0 → Contains (map lba numbers) at
address_in numbers at (k, inside, is) =
    let size = length-map numbers lba in (k, omega (arith, inside, size), get_or-map lba numbers k at.0 ∙ ap lba is)

pub rising_too : (numbers : List ℕ) → AllPairs (λ (x y : ℕ). x < y) numbers → AllPairs (λ (first second : Lba). first.0 < second.0) (map lba numbers)
rising_too numbers rises i j d less inside =
    let size = length-map numbers lba in
    let first : (get_or (map lba numbers) i d).0 ≡ get_or numbers i d.0 = ap (λ (l : Lba). l.0) (get_or-map lba numbers i d.0) in
    let second : (get_or (map lba numbers) j d).0 ≡ get_or numbers j d.0 = ap (λ (l : Lba). l.0) (get_or-map lba numbers j d.0) in
    let pair = rises i j d.0 less (omega (arith, inside, size)) in
    omega (arith, first, second, pair)

-- Sorted, and each once, they are the addresses of the script.
pub addresses_are : (script : Script) (logical : ℕ) (sorted kept : List ℕ) → IsPermutation (flat_map (filter_map (address_below logical)) script) sorted → IsSorted nat_cmp sorted
    → IsFiltered (DiffersFromLast eqb) [] sorted kept → AreAddresses script logical (map lba kept)
addresses_are script logical sorted kept moved sorts filtered =
    let named = flat_map (filter_map (address_below logical)) script in
    let is : kept ≡ dedup eqb sorted = dedup_is eqb sorted kept filtered in
    record {
      rising = rising_too kept (AllPairs-from_increasing kept (rw is (IsStrictlyIncreasing-dedup sorted sorts)));
      each = λ at. (
        λ has. named_of script logical at.0
            (Contains-permutation sorted named at.0 (IsPermutation-sym named sorted moved) (Contains-from_dedup eqb sorted at.0 (rw is at (number_in kept at has)))),
        λ is_named. address_in kept at (rw is (Contains-dedup_nat sorted at.0 (Contains-permutation named sorted at.0 moved (of_named script logical at.0 is_named)))),
      );
    }
