-- The changes of a page are put somewhere one after the other.
use Rattle.std.specs.Prelude.{ℕ, zero, suc, ◌≡◌, ◌+◌, ◌<◌, List, [], ◌∷◌, ◌++◌, map, Option, Some, None, slice_index_or}
use Rattle.std.specs.List.{AllByRecursion}
use Rattle.std.proofs.Common.{refl, sym, ◌∙◌, ap, subst, inl, inr, arith, append-nil, append_assoc}
use Rattle.std.proofs.lemmas.Bool.Decides.{eqb_tells}
use Rattle.blk_base.specs.declared.place.Mapping.{Mapping}
use Rattle.blk_base.specs.declared.place.Mapping.TheVariants.{Unmapped}
use Rattle.blk_base.specs.declared.place.PageId.{PageId}
use Rattle.blk_base.specs.declared.sizes.TheConstants.{PAGE_SLOTS}
use Rattle.replay_map.proofs.OwnLaws.{changed_behind}
use Rattle.replay_map.proofs.TakenLaws.{changes_more, changes_none}
use Rattle.replay_map.specs.Changes.{changed}
use Rattle.replay_map.specs.Forms.{as_found, changes_in}
use Rattle.replay_map.specs.Taken.{AreChanges, Gained, change_in}
use Rattle.replay_map.specs.declared.changes.SlotId.{SlotId}
use Rattle.replay_map.specs.declared.found.SlotChange.{SlotChange}

-- These are all of the page.

abbrev pub AreOwn : List (SlotId × Mapping) → PageId → List (SlotId × Mapping) → Type 0
AreOwn changes page own = AllByRecursion (λ change. AreChanges changes page PAGE_SLOTS (as_found change)) own

all_joined : {T : Type 0} (P : T → Type 0) (xs ys : List T) → AllByRecursion P xs → AllByRecursion P ys → AllByRecursion P (xs ++ ys)
all_joined P [] ys first second = second
all_joined P (x ∷ xs) ys first second = (first.0, all_joined P xs ys first.1 second)

one_more : (changes : List (SlotId × Mapping)) (page : PageId) (n : ℕ) (xs : List SlotChange) → AllByRecursion (AreChanges changes page n) xs → AllByRecursion (AreChanges changes page (suc n)) xs
one_more changes page n [] are = tt
one_more changes page n (x ∷ xs) are = let below = are.0.1 in ((are.0.0, omega (arith, below), are.0.2), one_more changes page n xs are.1)

last_one : (changes : List (SlotId × Mapping)) (page : PageId) (n : ℕ) (o : Option Mapping) → changed changes page n ≡ o → AllByRecursion (AreChanges changes page (suc n)) (change_in page n o)
last_one changes page n None is = tt
last_one changes page n (Some mapping) is = ((refl, omega arith, is), tt)

listed_are : (changes : List (SlotId × Mapping)) (page : PageId) (n : ℕ) → AllByRecursion (AreChanges changes page n) (changes_in changes page n)
listed_are changes page zero = tt
listed_are changes page (suc n) =
    all_joined (AreChanges changes page (suc n)) (changes_in changes page n) (change_in page n (changed changes page n))
    (one_more changes page n (changes_in changes page n) (listed_are changes page n)) (last_one changes page n (changed changes page n) refl)

all_before : {T U : Type 0} (f : T → U) (P : U → Type 0) (xs : List T) → AllByRecursion P (map f xs) → AllByRecursion (λ x. P (f x)) xs
all_before f P [] all = tt
all_before f P (x ∷ xs) all = (all.0, all_before f P xs all.1)

pub are_own : (changes own : List (SlotId × Mapping)) (page : PageId) → map as_found own ≡ changes_in changes page PAGE_SLOTS → AreOwn changes page own
are_own changes own page listed =
    all_before as_found (AreChanges changes page PAGE_SLOTS) own
    (subst (λ (xs : List SlotChange). AllByRecursion (AreChanges changes page PAGE_SLOTS) xs) (sym listed) (listed_are changes page PAGE_SLOTS))

-- What a list gains by them.
pub listed_gained : (changes : List (SlotId × Mapping)) (page : PageId) (n : ℕ) (slots : List SlotChange) → Gained slots (slots ++ changes_in changes page n) (AreChanges changes page n)
listed_gained changes page zero slots =
    subst (λ (xs : List SlotChange). Gained slots xs (AreChanges changes page 0)) (sym (append-nil slots)) (changes_none changes page slots)
listed_gained changes page (suc n) slots =
    let more =
    changes_more changes page n slots (slots ++ changes_in changes page n) (slots ++ changes_in changes page (suc n)) (listed_gained changes page n slots)
    (sym (append_assoc slots (changes_in changes page n) (change_in page n (changed changes page n)))) in
    subst (λ (k : ℕ). Gained slots (slots ++ changes_in changes page (suc n)) (AreChanges changes page k)) (let next : n + 1 ≡ suc n = omega arith in next) more

-- Each of them is put into something whose slots can be looked at, and which says of a mapping what `say` does.

pub record ArePutBut {S X : Type 0} (look : ℕ → S → X) (say : Mapping → X) (changes : List (SlotId × Mapping)) (page : PageId) (left : List (SlotId × Mapping)) (old new : S) : Type 0 where
  pub put : (slot : ℕ) (mapping : Mapping) → slot < PAGE_SLOTS → changed left page slot ≡ None → changed changes page slot ≡ Some mapping → look slot new ≡ say mapping
  pub others : (slot : ℕ) → slot < PAGE_SLOTS → changed changes page slot ≡ None → look slot new ≡ look slot old

module _ {S X : Type 0} (look : ℕ → S → X) (say : Mapping → X) (changes : List (SlotId × Mapping)) (page : PageId) where
  pub none_put : (own : List (SlotId × Mapping)) (old : S) → ((slot : ℕ) → slot < PAGE_SLOTS → changed own page slot ≡ changed changes page slot)
      → ArePutBut look say changes page own old old
  none_put own old each = record {
    put = λ slot mapping inside none is. let here = each slot inside in absurd (cc (here, none, is));
    others = λ slot inside none. refl;
  }

  pub one_put : (change : SlotId × Mapping) (left : List (SlotId × Mapping)) (old middle new : S) → AreChanges changes page PAGE_SLOTS (as_found change)
      → ArePutBut look say changes page (change ∷ left) old middle → look change.0.slot new ≡ say change.1
      → ((slot : ℕ) → slot < PAGE_SLOTS → (slot ≡ change.0.slot → ⊥) → look slot new ≡ look slot middle)
      → ArePutBut look say changes page left old new
  one_put change left old middle new own were here rest = record {
    put = λ slot mapping inside none is. elim (eqb_tells slot change.0.slot) [
      | inl same ↦
          let there : Some change.1 ≡ Some mapping = sym own.2 ∙ ap (λ (n : ℕ). changed changes page n) (sym same.1) ∙ is in
          let one : change.1 ≡ mapping = cc there in
          ap (λ (n : ℕ). look n new) same.1 ∙ here ∙ ap say one
      | inr differs ↦
          rest slot inside differs.1
          ∙ were.put slot mapping inside (changed_behind change left page slot (λ page_too number. differs.1 number) ∙ none) is
    ];
    others = λ slot inside none.
        rest slot inside
        (λ same. let there : Some change.1 ≡ None = sym own.2 ∙ ap (λ (n : ℕ). changed changes page n) (sym same) ∙ none in absurd (cc there))
        ∙ were.others slot inside none;
  }

-- what a list of mappings has in a slot
abbrev pub mapping_at : ℕ → List Mapping → Mapping
mapping_at slot mappings = slice_index_or mappings slot Unmapped

abbrev pub itself : Mapping → Mapping
itself mapping = mapping
