-- The changes of one page: they stand together among all, in the order of its slots.
use Rattle.std.specs.Prelude.{ℕ, zero, suc, ◌≡◌, ◌⊎◌, ◌+◌, ◌<◌, ◌≤◌, ◌==◌, ◌&&◌, not, Bool, true, false, cond, List, [], ◌∷◌, ◌++◌, map, Option, Some, None}
use Rattle.std.specs.BTreeMap.Range.{range_contains}
use Rattle.std.specs.Cmp.{nat_cmp_is}
use Rattle.std.specs.List.{AllByRecursion, filter}
use Rattle.std.specs.List.Sorted.{IsStrictlySortedBy}
use Rattle.std.specs.Map.{keys_of}
use Rattle.std.specs.Ordering.{nat_cmp, ordering_then, is_eq, is_le, is_lt}
use Rattle.std.specs.declared.cmp.Ordering.{Ordering}
use Rattle.std.specs.declared.cmp.Ordering.TheVariants.{Less, Equal, Greater}
use Rattle.std.specs.declared.ops.Bound.TheVariants.{Included}
use Rattle.std.proofs.Common.{refl, sym, ◌∙◌, ap, ap₂, subst, inl, inr, arith}
use Rattle.std.proofs.lemmas.Bool.{and_from, and_left, and_parts, and_right, both_ways, cases_Bool, cases_lt, cases_order, cond-false, cond-true, not-true}
use Rattle.std.proofs.lemmas.Bool.Decides.{eqb_tells}
use Rattle.std.proofs.lemmas.Map.Keys.{ge_from_not_lt, sorted_head, sorted_tail}
use Rattle.blk_base.specs.Pages.{page_order}
use Rattle.blk_base.specs.declared.place.Mapping.{Mapping}
use Rattle.blk_base.specs.declared.place.PageId.{PageId}
use Rattle.image_model.specs.Pages.{is_page}
use Rattle.replay_map.proofs.ChangeLaws.{pages_alike, slot_cmp}
use Rattle.replay_map.specs.Changes.{changed, is_slot}
use Rattle.replay_map.specs.Forms.{as_found, changes_in}
use Rattle.replay_map.specs.Taken.{change_in}
use Rattle.replay_map.specs.declared.changes.SlotId.{SlotId}
use Rattle.replay_map.specs.declared.found.SlotChange.{SlotChange}

-- One page, or two; one slot, or two.

pub page_tells : (a b : PageId) → ((is_page a b ≡ true) × (a ≡ b)) ⊎ ((is_page a b ≡ false) × (a ≡ b → ⊥))
page_tells a b = elim (eqb_tells a.tree b.tree) [
  | inr other ↦ inr (rw other.0 refl, λ same. other.1 (ap (λ (p : PageId). p.tree) same))
  | inl tree ↦ elim (eqb_tells a.level b.level) [
    | inr other ↦ inr (rw (tree.0, other.0) refl, λ same. other.1 (ap (λ (p : PageId). p.level) same))
    | inl level ↦ elim (eqb_tells a.index b.index) [
      | inr other ↦ inr (rw (tree.0, level.0, other.0) refl, λ same. other.1 (ap (λ (p : PageId). p.index) same))
      | inl index ↦ inl (
        rw (tree.0, level.0, index.0) refl,
        ap (λ (t : ℕ). record { tree = t; level = a.level; index = a.index }) tree.1
            ∙ ap₂ (λ (l i : ℕ). record { tree = b.tree; level = l; index = i }) level.1 index.1,
      )
    ]
  ]
]

slot_tells : (id : SlotId) (page : PageId) (slot : ℕ)
    → ((is_slot id page slot ≡ true) × (page ≡ id.page) × (slot ≡ id.slot)) ⊎ ((is_slot id page slot ≡ false) × (page ≡ id.page → slot ≡ id.slot → ⊥))
slot_tells id page slot = elim (page_tells page id.page) [
  | inr other ↦ inr (and_left (is_page page id.page) (slot == id.slot) other.0, λ same number. other.1 same)
  | inl one ↦ elim (eqb_tells slot id.slot) [
    | inr other ↦ inr (and_right (is_page page id.page) (slot == id.slot) other.0, λ same number. other.1 number)
    | inl number ↦ inl (and_from (is_page page id.page) (slot == id.slot) one.0 number.0, one.1, number.1)
  ]
]

-- With one change more in front.

pub changed_here : (change : SlotId × Mapping) (others : List (SlotId × Mapping)) (page : PageId) (slot : ℕ) → page ≡ change.0.page → slot ≡ change.0.slot
    → changed (change ∷ others) page slot ≡ Some change.1
changed_here change others page slot same number = elim (slot_tells change.0 page slot) [
  | inl one ↦ cond-true (is_slot change.0 page slot) (Some change.1) (changed others page slot) one.0
  | inr other ↦ absurd (other.1 same number)
]

pub changed_behind : (change : SlotId × Mapping) (others : List (SlotId × Mapping)) (page : PageId) (slot : ℕ) → (page ≡ change.0.page → slot ≡ change.0.slot → ⊥)
    → changed (change ∷ others) page slot ≡ changed others page slot
changed_behind change others page slot differs = elim (slot_tells change.0 page slot) [
  | inl one ↦ absurd (differs one.1 one.2)
  | inr other ↦ cond-false (is_slot change.0 page slot) (Some change.1) (changed others page slot) other.0
]

-- Changes of one page whose slots rise are listed as they stand.

abbrev Rise : PageId → ℕ → ℕ → List (SlotId × Mapping) → Type 0
Rise page n from [] = Unit {0}
Rise page n from (change ∷ later) = (change.0.page ≡ page) × (from ≤ change.0.slot) × (change.0.slot < n) × Rise page n (change.0.slot + 1) later

none_before : (page : PageId) (n from : ℕ) (changes : List (SlotId × Mapping)) → Rise page n from changes → (slot : ℕ) → slot < from → changed changes page slot ≡ None
none_before page n from [] rise slot below = refl
none_before page n from (change ∷ later) rise slot below =
    let least = rise.1 in
    changed_behind change later page slot (λ same number. omega (arith, number, least, below))
    ∙ none_before page n (change.0.slot + 1) later rise.3 slot (omega (arith, least, below))

none_listed : (changes : List (SlotId × Mapping)) (page : PageId) (n : ℕ) → ((slot : ℕ) → slot < n → changed changes page slot ≡ None) → changes_in changes page n ≡ []
none_listed changes page zero none = refl
none_listed changes page (suc n) none =
    ap₂ (λ (xs : List SlotChange) (o : Option Mapping). xs ++ change_in page n o) (none_listed changes page n (λ slot below. none slot (omega (arith, below)))) (none n (omega arith))

first_listed : (change : SlotId × Mapping) (later : List (SlotId × Mapping)) (page : PageId) (most n : ℕ) → page ≡ change.0.page → Rise page most (change.0.slot + 1) later → change.0.slot < n
    → changes_in (change ∷ later) page n ≡ as_found change ∷ changes_in later page n
first_listed change later page most zero own rise inside = absurd (omega (arith, inside))
first_listed change later page most (suc n) own rise inside = elim (cases_lt change.0.slot n) [
  | inl before ↦
      ap₂ (λ (xs : List SlotChange) (o : Option Mapping). xs ++ change_in page n o) (first_listed change later page most n own rise before)
      (changed_behind change later page n (λ same number. omega (arith, number, before)))
  | inr last ↦
      let here : n ≡ change.0.slot = omega (arith, inside, last) in
      let none : (slot : ℕ) → slot < suc n → changed later page slot ≡ None = λ slot below. none_before page most (change.0.slot + 1) later rise slot (omega (arith, below, here)) in
      ap₂ (λ (xs : List SlotChange) (o : Option Mapping). xs ++ change_in page n o)
      (none_listed (change ∷ later) page n (λ slot below. changed_behind change later page slot (λ same number. omega (arith, number, here, below)) ∙ none slot (omega (arith, below))))
      (changed_here change later page n own here)
      ∙ ap₂ (λ (p : PageId) (s : ℕ). change_in p s (Some change.1)) own here
      ∙ ap (λ (xs : List SlotChange). as_found change ∷ xs) (sym (none_listed later page (suc n) none))
]

all_listed : (page : PageId) (n from : ℕ) (changes : List (SlotId × Mapping)) → Rise page n from changes → map as_found changes ≡ changes_in changes page n
all_listed page n from [] rise = sym (none_listed [] page n (λ slot below. refl))
all_listed page n from (change ∷ later) rise =
    ap (λ (xs : List SlotChange). as_found change ∷ xs) (all_listed page n (change.0.slot + 1) later rise.3)
    ∙ sym (first_listed change later page n n (sym rise.0) rise.3 rise.2)

same_listed : (changes others : List (SlotId × Mapping)) (page : PageId) (n : ℕ) → ((slot : ℕ) → slot < n → changed changes page slot ≡ changed others page slot)
    → changes_in changes page n ≡ changes_in others page n
same_listed changes others page zero same = refl
same_listed changes others page (suc n) same =
    ap₂ (λ (xs : List SlotChange) (o : Option Mapping). xs ++ change_in page n o) (same_listed changes others page n (λ slot below. same slot (omega (arith, below)))) (same n (omega arith))

-- Between the first slot of a page and its last one stand those of the page.

is_equal : (o : Ordering) → is_eq o ≡ true → o ≡ Equal
is_equal Less is = absurd (cc is)
is_equal Equal is = refl
is_equal Greater is = absurd (cc is)

both_ends : (o b c : Ordering) → (is_le (ordering_then o b) && not (is_lt (ordering_then o c))) ≡ true → (is_eq o ≡ true) × (not (is_lt c) ≡ true)
both_ends Less b c is = absurd (cc is)
both_ends Equal b c is = (refl, (and_parts (is_le b) (not (is_lt c)) is).1)
both_ends Greater b c is = absurd (cc is)

from_both : (o b c : Ordering) → o ≡ Equal → is_le b ≡ true → is_lt c ≡ false → (is_le (ordering_then o b) && not (is_lt (ordering_then o c))) ≡ true
from_both o b c same low high = rw (same, low, high) refl

least : (slot : ℕ) → is_le (nat_cmp 0 slot) ≡ true
least slot = elim (cases_order 0 slot) [
  | inl same ↦ ap is_le (sym (nat_cmp_is 0 slot Equal same))
  | inr differs ↦ elim differs [
    | inl less ↦ ap is_le (sym (nat_cmp_is 0 slot Less less))
    | inr more ↦ absurd (omega (arith, more))
  ]
]

not_above : (slot last : ℕ) → slot ≤ last → is_lt (nat_cmp last slot) ≡ false
not_above slot last most = elim (cases_order last slot) [
  | inl same ↦ ap is_lt (sym (nat_cmp_is last slot Equal same))
  | inr differs ↦ elim differs [
    | inl less ↦ absurd (omega (arith, most, less))
    | inr more ↦ ap is_lt (sym (nat_cmp_is last slot Greater more))
  ]
]

less_is : (a b : ℕ) → nat_cmp a b ≡ Less → a < b
less_is a b is = elim (cases_order a b) [
  | inl same ↦ let other = nat_cmp_is a b Equal same in absurd (cc (is, other))
  | inr differs ↦ elim differs [
    | inl less ↦ less
    | inr more ↦ let other = nat_cmp_is a b Greater more in absurd (cc (is, other))
  ]
]

one_page : (a b : PageId) → a ≡ b → page_order a b ≡ Equal
one_page a b same = elim (page_tells a b) [
  | inl one ↦ is_equal (page_order a b) (pages_alike a b ∙ one.0)
  | inr other ↦ absurd (other.1 same)
]

less_slot : (a b : SlotId) → a.page ≡ b.page → slot_cmp a b ≡ Less → a.slot + 1 ≤ b.slot
less_slot a b same is =
    let less = less_is a.slot b.slot (sym (ap (λ (o : Ordering). ordering_then o (nat_cmp a.slot b.slot)) (one_page a.page b.page same)) ∙ is) in
    omega (arith, less)

module _ (page : PageId) (last : ℕ) where
  abbrev pub inside : SlotId → Bool
  inside id = range_contains slot_cmp (Included (record { page = page; slot = 0 })) (Included (record { page = page; slot = last })) id

  is_inside : (id : SlotId) → inside id ≡ true → (id.page ≡ page) × (id.slot ≤ last)
  is_inside id is =
      let parts = both_ends (page_order page id.page) (nat_cmp 0 id.slot) (nat_cmp last id.slot) is in (
        elim (page_tells page id.page) [
          | inl one ↦ sym one.1
          | inr other ↦ absurd (both_ways (is_page page id.page) other.0 (sym (pages_alike page id.page) ∙ parts.0))
        ],
        ge_from_not_lt last id.slot (not-true (is_lt (nat_cmp last id.slot)) parts.1),
      )

  are_inside : (id : SlotId) → page ≡ id.page → id.slot ≤ last → inside id ≡ true
  are_inside id same most =
      from_both (page_order page id.page) (nat_cmp 0 id.slot) (nat_cmp last id.slot) (one_page page id.page same) (least id.slot) (not_above id.slot last most)

  abbrev pub own : List (SlotId × Mapping) → List (SlotId × Mapping)
  own changes = filter (λ change. inside change.0) changes

  pub own_each : (changes : List (SlotId × Mapping)) (slot : ℕ) → slot ≤ last → changed (own changes) page slot ≡ changed changes page slot
  own_each [] slot most = refl
  own_each (change ∷ others) slot most = elim (cases_Bool (inside change.0)) [
    | inl kept ↦
        ap (λ (xs : List (SlotId × Mapping)). changed xs page slot) (cond-true (inside change.0) (change ∷ own others) (own others) kept)
        ∙ ap (λ (o : Option Mapping). cond (is_slot change.0 page slot) (Some change.1) o) (own_each others slot most)
    | inr dropped ↦
        ap (λ (xs : List (SlotId × Mapping)). changed xs page slot) (cond-false (inside change.0) (change ∷ own others) (own others) dropped)
        ∙ own_each others slot most
        ∙ sym (changed_behind change others page slot (λ same number. both_ways (inside change.0) dropped (are_inside change.0 same (omega (arith, number, most)))))
  ]

  above : (id : SlotId) (ids : List SlotId) → id.page ≡ page → AllByRecursion (λ other. slot_cmp id other ≡ Less) ids
      → AllByRecursion (λ other. inside other ≡ true → id.slot + 1 ≤ other.slot) ids
  above id [] same less = tt
  above id (other ∷ others) same less = (λ is. less_slot id other (same ∙ sym (is_inside other is).0) less.0, above id others same less.1)

  from_least : (ids : List SlotId) → AllByRecursion (λ other. inside other ≡ true → 0 ≤ other.slot) ids
  from_least [] = tt
  from_least (id ∷ ids) = (λ is. omega arith, from_least ids)

  own_rise : (changes : List (SlotId × Mapping)) (from : ℕ) → IsStrictlySortedBy slot_cmp (keys_of changes) → AllByRecursion (λ id. inside id ≡ true → from ≤ id.slot) (keys_of changes)
      → Rise page (last + 1) from (own changes)
  own_rise [] from sorted most = tt
  own_rise (change ∷ others) from sorted most = elim (cases_Bool (inside change.0)) [
    | inl kept ↦
        let is = is_inside change.0 kept in
        let few : change.0.slot < last + 1 = omega (arith, is.1) in
        subst (λ (xs : List (SlotId × Mapping)). Rise page (last + 1) from xs) (sym (cond-true (inside change.0) (change ∷ own others) (own others) kept)) (
          is.0,
          most.0 kept,
          few,
          own_rise others (change.0.slot + 1) (sorted_tail slot_cmp change.0 (keys_of others) sorted)
              (above change.0 (keys_of others) is.0 (sorted_head slot_cmp change.0 (keys_of others) sorted)),
        )
    | inr dropped ↦
        subst (λ (xs : List (SlotId × Mapping)). Rise page (last + 1) from xs) (sym (cond-false (inside change.0) (change ∷ own others) (own others) dropped))
        (own_rise others from (sorted_tail slot_cmp change.0 (keys_of others) sorted) most.1)
  ]

  pub own_listed : (changes : List (SlotId × Mapping)) → IsStrictlySortedBy slot_cmp (keys_of changes) → map as_found (own changes) ≡ changes_in changes page (last + 1)
  own_listed changes sorted =
      all_listed page (last + 1) 0 (own changes) (own_rise changes 0 sorted (from_least (keys_of changes)))
      ∙ same_listed (own changes) changes page (last + 1) (λ slot below. own_each changes slot (omega (arith, below)))
