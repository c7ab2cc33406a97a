-- The discards that passed: they say nothing of what an address is mapped to, nor of its value.
use Rattle.std.proofs.Common.{ℕ, ◌≡◌, None, Some, List, [], ◌∷◌, ◌++◌, refl, ap, sym, ◌∙◌, subst, ◌⊎◌, ◌==◌, false, IsNone, inl, inr}
use Rattle.core_laws.proofs.Common.{AllByRecursion, Remapping, RightTrace, Session, Trace, each_both, newest, of_address, passed, request_at, value_from, value_written, Enters, Logged, Passes, Remaps, Writer, cases_Bool, entered, eqb_tells, journaled, logged_of, not_both, remappings, same_tells, same_writer, mapped_or, opened_at, IsAsOpened, applied}
use Rattle.core_laws.proofs.lists.CoreLists.{Has, has_it}
use Rattle.core_laws.proofs.trace.AnswersOfTrace.{there_some}
use Rattle.core_laws.proofs.trace.Cuts.{journaled_append}
use Rattle.blk_base.specs.declared.place.Mapping.TheVariants.{Unmapped}
use Rattle.core_laws.proofs.kept.OpenedBlocks.{lacks_unmapped}
use Rattle.core_model.specs.PageLinks.{Lacks}
use Rattle.image_model.specs.Maps.{value_with}
use Rattle.blk_base.specs.declared.request.Request.TheVariants as request
use Rattle.core_laws.proofs.lists.Between.{same_before, address_behind, address_between, address_there}
use Rattle.core_laws.proofs.trace.DeskOfTrace.{are_of_address, each_of_address, of_address_append, changes_append}
use Rattle.core_laws.proofs.trace.Growth.{passed_grows, entered_stays}

-- a discard of an address that lacked a page of its path
pub record IsPass (s : Session) (e : Remapping) : Type 0 where
  pub asked : request_at s.script e.request ≡ Some (request.Discard e.at)
  pub new_is : e.new ≡ Unmapped
  pub lacks : (es : List Logged) × Lacks s.sizes.geometry.height s.links es e.at.0

pub passes_are : (s : Session) (t : Trace) → RightTrace s t → AllByRecursion (IsPass s) (passed t)
passes_are s [] right = tt
passes_are s (h ∷ t) right =
    let rest = passes_are s t right.2 in
    passed_grows (AllByRecursion (IsPass s)) s h t right.0 rest (λ e came next. (record { asked = next.asked; new_is = next.maps.1; lacks = (applied t, next.lacking) }, rest))

module _ (s : Session) (t : Trace) (a : ℕ) (right : RightTrace s t) (opened : IsAsOpened s) where
  abbrev IsHere : Remapping → Type 0
  IsHere e = IsPass s e × (e.at.0 ≡ a)

  all_here : AllByRecursion IsHere (of_address a (passed t))
  all_here = each_both (IsPass s) (λ (e : Remapping). e.at.0 ≡ a) (of_address a (passed t)) (each_of_address (IsPass s) a (passed t) (passes_are s t right)) (are_of_address a (passed t))

  opened_none : (e : Remapping) → IsHere e → opened_at s a ≡ Unmapped
  opened_none e here = subst (λ (b : ℕ). opened_at s b ≡ Unmapped) here.1 (lacks_unmapped s opened here.0.lacks.0 e.at.0 here.0.lacks.1)

  past_value : (es : List Remapping) → AllByRecursion IsHere es → value_from s a (newest es) ≡ value_from s a None
  past_value [] all = refl
  past_value (e ∷ es) all = ap value_written all.0.0.asked ∙ sym (ap (value_with s.image) (opened_none e all.0))

  past_mapping : (es : List Remapping) → AllByRecursion IsHere es → mapped_or (newest es) (opened_at s a) ≡ opened_at s a
  past_mapping [] all = refl
  past_mapping (e ∷ es) all = all.0.0.new_is ∙ sym (opened_none e all.0)

  -- the value of an address, and what it is mapped to, by its entries alone
  pub value_past : (xs : List Remapping) → value_from s a (newest (of_address a (xs ++ passed t))) ≡ value_from s a (newest (of_address a xs))
  value_past xs = ap (λ (es : List Remapping). value_from s a (newest es)) (of_address_append a xs (passed t)) ∙ by (of_address a xs)
    where
      by : (ys : List Remapping) → value_from s a (newest (ys ++ of_address a (passed t))) ≡ value_from s a (newest ys)
      by [] = past_value (of_address a (passed t)) all_here
      by (y ∷ ys) = refl

  pub mapped_past : (xs : List Remapping) → mapped_or (newest (of_address a (xs ++ passed t))) (opened_at s a) ≡ mapped_or (newest (of_address a xs)) (opened_at s a)
  mapped_past xs = ap (λ (es : List Remapping). mapped_or (newest es) (opened_at s a)) (of_address_append a xs (passed t)) ∙ by (of_address a xs)
    where
      by : (ys : List Remapping) → mapped_or (newest (ys ++ of_address a (passed t))) (opened_at s a) ≡ mapped_or (newest ys) (opened_at s a)
      by [] = past_mapping (of_address a (passed t)) all_here
      by (y ∷ ys) = refl

-- lists that are the same before those that passed
pub cut_passed : (a : ℕ) (xs ys zs : List Remapping) → of_address a (xs ++ zs) ≡ of_address a (ys ++ zs) → of_address a xs ≡ of_address a ys
cut_passed a xs ys zs is = same_before (of_address a xs) (of_address a ys) (of_address a zs) (sym (of_address_append a xs zs) ∙ is ∙ of_address_append a ys zs)

-- A trace in two parts: of an address the older part's entries come behind those of the newer one, and behind those that passed
-- there.
pub entered_at_both : (s : Session) (newer older : Trace) (a : ℕ) → RightTrace s (newer ++ older)
    → of_address a (entered (newer ++ older)) ≡ of_address a (remappings (journaled newer)) ++ (of_address a (passed newer) ++ of_address a (entered older))
entered_at_both s [] older a right = refl
entered_at_both s (Enters (Remaps e) ∷ t) older a right =
    let rest = entered_at_both s t older a right.2 in
    elim (cases_Bool (e.at.0 == a)) [ inl here ↦ rw here (ap (λ (xs : List Remapping). e ∷ xs) rest) | inr there ↦ rw there rest ]
entered_at_both s (Passes e ∷ t) older a right =
    let rest = entered_at_both s t older a right.2 in
    let all = t ++ older in
    elim (eqb_tells e.at.0 a) [
      | inl same ↦
          let first : of_address a (remappings (journaled all)) ≡ [] = subst (λ (b : ℕ). of_address b (remappings (journaled all)) ≡ []) same.1 right.0.first in
          let none : of_address a (remappings (journaled t)) ≡ [] = no_front (of_address a (remappings (journaled t))) (of_address a (remappings (journaled older)))
          (sym (changes_append a (journaled t) (journaled older)) ∙ ap (λ (es : List Logged). of_address a (remappings es)) (sym (journaled_append t older)) ∙ first) in
          let here : of_address a (e ∷ passed t) ≡ e ∷ of_address a (passed t) = rw same.0 refl in
          address_there a (remappings (journaled all)) (passed all) e same.1 first
          ∙ ap (λ (xs : List Remapping). e ∷ xs) (sym (address_behind a (remappings (journaled all)) (passed all) first) ∙ rest ∙ ap (λ (xs : List Remapping). xs ++ (of_address a (passed t) ++ of_address a (entered older))) none)
          ∙ ap (λ (xs : List Remapping). xs ++ of_address a (entered older)) (sym here)
          ∙ ap (λ (xs : List Remapping). xs ++ (of_address a (e ∷ passed t) ++ of_address a (entered older))) (sym none)
      | inr other ↦ address_between a (remappings (journaled all)) (passed all) e other.1 ∙ rest
          ∙ ap (λ (xs : List Remapping). of_address a (remappings (journaled t)) ++ (xs ++ of_address a (entered older))) (sym (address_behind_one a e (passed t) other.0))
    ]
  where
    no_front : (xs ys : List Remapping) → xs ++ ys ≡ [] → xs ≡ []
    no_front [] ys is = refl
    no_front (x ∷ xs) ys is = absurd cc

    address_behind_one : (a : ℕ) (e : Remapping) (es : List Remapping) → (e.at.0 == a) ≡ false → of_address a (e ∷ es) ≡ of_address a es
    address_behind_one a e es off = rw off refl
entered_at_both s (other ∷ t) older a right = entered_at_both s t older a right.2

-- a request of a list is one of either part
pub has_either : (xs ys : List Remapping) (w : Writer) → Has (xs ++ ys) w → Has xs w ⊎ Has ys w
has_either [] ys w has = inr has
has_either (x ∷ xs) ys w has = elim (cases_Bool (same_writer x.request w)) [
  | inl same ↦ inl (rw same refl)
  | inr other ↦ elim (has_either xs ys w (rw other at has)) [ inl here ↦ inl (rw other here) | inr there ↦ inr there ]
]

-- one that was entered before isn't entered again, and doesn't pass
entered_still : (s : Session) (newer older : Trace) (w : Writer) → RightTrace s (newer ++ older) → Has (entered older) w → Has (entered (newer ++ older)) w
entered_still s [] older w right has = has
entered_still s (h ∷ t) older w right has =
    let found = there_some (logged_of (entered (t ++ older)) w) (entered_still s t older w right.2 has) in
    has_it (entered (h ∷ (t ++ older))) w found.0 (entered_stays s h (t ++ older) w found.0 right.0 found.1)

once_is : (s : Session) (t older : Trace) (w v : Writer) → RightTrace s (t ++ older) → Has (entered older) w → v ≡ w → IsNone (logged_of (entered (t ++ older)) v) → ⊥
once_is s t older w v right old same once =
    let found = there_some (logged_of (entered (t ++ older)) w) (entered_still s t older w right old) in
    not_both (logged_of (entered (t ++ older)) w) found.0 (subst (λ (x : Writer). IsNone (logged_of (entered (t ++ older)) x)) same once) found.1

pub entered_once : (s : Session) (newer older : Trace) (w : Writer) → RightTrace s (newer ++ older) → Has (remappings (journaled newer)) w ⊎ Has (passed newer) w → Has (entered older) w → ⊥
entered_once s [] older w right (inl now) old = absurd cc
entered_once s [] older w right (inr now) old = absurd cc
entered_once s (Enters (Remaps e) ∷ t) older w right (inl now) old = elim (same_tells e.request w) [
  | inl same ↦ once_is s t older w e.request right.2 old same.1 right.0.once
  | inr other ↦ entered_once s t older w right.2 (inl (rw other.0 at now)) old
]
entered_once s (Enters (Remaps e) ∷ t) older w right (inr now) old = entered_once s t older w right.2 (inr now) old
entered_once s (Passes e ∷ t) older w right (inl now) old = entered_once s t older w right.2 (inl now) old
entered_once s (Passes e ∷ t) older w right (inr now) old = elim (same_tells e.request w) [
  | inl same ↦ once_is s t older w e.request right.2 old same.1 right.0.once
  | inr other ↦ entered_once s t older w right.2 (inr (rw other.0 at now)) old
]
entered_once s (other ∷ t) older w right now old = entered_once s t older w right.2 now old
