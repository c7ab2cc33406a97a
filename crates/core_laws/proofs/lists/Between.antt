-- An entry between two parts of a list.
use Rattle.std.proofs.Common.{ℕ, ◌≡◌, ◌≢◌, ◌==◌, false, Some, IsNone, List, [], ◌∷◌, ◌++◌, length, refl, ap, ◌∙◌, inl, inr, arith, length-append}
use Rattle.core_laws.proofs.Common.{AllByRecursion, Remapping, Writer, cases_Bool, eqb_tells, logged_of, of_address, same_self, same_writer}

pub every_between : (P : Remapping → Type 0) (xs ys : List Remapping) (e : Remapping) → P e → AllByRecursion P (xs ++ ys) → AllByRecursion P (xs ++ e ∷ ys)
every_between P [] ys e new all = (new, all)
every_between P (x ∷ xs) ys e new all = (all.0, every_between P xs ys e new all.1)

-- of another request nothing else is said
pub logged_between : (xs ys : List Remapping) (e : Remapping) (w : Writer) → same_writer e.request w ≡ false → logged_of (xs ++ e ∷ ys) w ≡ logged_of (xs ++ ys) w
logged_between [] ys e w apart = rw apart refl
logged_between (x ∷ xs) ys e w apart = elim (cases_Bool (same_writer x.request w)) [
  | inl same ↦ rw same refl
  | inr other ↦ rw other (logged_between xs ys e w apart)
]

-- and it is that of its own request, where that had none
pub logged_there : (xs ys : List Remapping) (e : Remapping) → IsNone (logged_of (xs ++ ys) e.request) → logged_of (xs ++ e ∷ ys) e.request ≡ Some e
logged_there [] ys e none = rw (same_self e.request) refl
logged_there (x ∷ xs) ys e none = elim (cases_Bool (same_writer x.request e.request)) [
  | inl same ↦ absurd (let some : IsNone (Some x) = rw same at none in cc)
  | inr other ↦ rw other (logged_there xs ys e (rw other at none))
]

-- of another address nothing else is said, and it is the newest of its own where the first part has none
pub address_between : (a : ℕ) (xs ys : List Remapping) (e : Remapping) → e.at.0 ≢ a → of_address a (xs ++ e ∷ ys) ≡ of_address a (xs ++ ys)
address_between a [] ys e apart = elim (eqb_tells e.at.0 a) [ inl same ↦ absurd (apart same.1) | inr other ↦ rw other.0 refl ]
address_between a (x ∷ xs) ys e apart = elim (cases_Bool (x.at.0 == a)) [
  | inl here ↦ rw here (ap (λ (es : List Remapping). x ∷ es) (address_between a xs ys e apart))
  | inr there ↦ rw there (address_between a xs ys e apart)
]

pub address_behind : (a : ℕ) (xs ys : List Remapping) → of_address a xs ≡ [] → of_address a (xs ++ ys) ≡ of_address a ys
address_behind a [] ys none = refl
address_behind a (x ∷ xs) ys none = elim (cases_Bool (x.at.0 == a)) [
  | inl here ↦ absurd (let some : x ∷ of_address a xs ≡ [] = rw here at none in cc)
  | inr there ↦ rw there (address_behind a xs ys (rw there at none))
]

pub address_there : (a : ℕ) (xs ys : List Remapping) (e : Remapping) → e.at.0 ≡ a → of_address a xs ≡ [] → of_address a (xs ++ e ∷ ys) ≡ e ∷ of_address a ys
address_there a xs ys e same none = address_behind a xs (e ∷ ys) none ∙ here
  where
    here : of_address a (e ∷ ys) ≡ e ∷ of_address a ys
    here = elim (eqb_tells e.at.0 a) [ inl is ↦ rw is.0 refl | inr other ↦ absurd (other.1 same) ]

-- lists before the same one are the same
pub same_before : (xs ys zs : List Remapping) → xs ++ zs ≡ ys ++ zs → xs ≡ ys
same_before [] [] zs is = refl
same_before [] (y ∷ ys) zs is = absurd (let longer = ap length is in let all = length-append (y ∷ ys) zs in omega (arith, longer, all))
same_before (x ∷ xs) [] zs is = absurd (let longer = ap length is in let all = length-append (x ∷ xs) zs in omega (arith, longer, all))
same_before (x ∷ xs) (y ∷ ys) zs is = let both = heads x y (xs ++ zs) (ys ++ zs) is in cons_same x y xs ys both.0 (same_before xs ys zs both.1)
  where
    heads : (x y : Remapping) (xs ys : List Remapping) → x ∷ xs ≡ y ∷ ys → (x ≡ y) × (xs ≡ ys)
    heads x y xs ys is = (cc, cc)

    cons_same : (x y : Remapping) (xs ys : List Remapping) → x ≡ y → xs ≡ ys → x ∷ xs ≡ y ∷ ys
    cons_same x y xs ys p q = cc
