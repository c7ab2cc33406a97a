-- Sums and elements of lists, after a write and after an append.
use Rattle.std.proofs.Common.{◌≡◌, ℕ, zero, suc, ◌+◌, ◌≤◌, Bool, true, false, List, [], ◌∷◌, ◌++◌, length, replicate, Some, slice_get, slice_index, slice_set, refl, ap, inl, inr, arith}
use Rattle.std.proofs.lemmas.Bool.{cases_lt}
use Rattle.std.proofs.lemmas.List.{get_or-replicate, get_or_past, length-replicate}
use Rattle.std.proofs.lemmas.Option.{same_Some}
use Rattle.std.specs.List.{AllByRecursion}
use Rattle.plain_laws.specs.Sums.{bit, total, Each}

pub total-append : {X : Type 0} (f : X → ℕ) (xs ys : List X) → total f (xs ++ ys) ≡ total f xs + total f ys
total-append f [] ys = omega arith
total-append f (x ∷ xs) ys = omega (arith, total-append f xs ys)

pub total-set : {X : Type 0} (f : X → ℕ) (xs : List X) (i : ℕ) (old new : X) → slice_get xs i ≡ Some old → total f (slice_set xs i new) + f old ≡ total f xs + f new
total-set f [] i old new h = cc
total-set f (x ∷ xs) zero old new h = let e = ap f (same_Some _ _ h) in omega (arith, e)
total-set f (x ∷ xs) (suc i) old new h = omega (arith, total-set f xs i old new h)

pub total-get : {X : Type 0} (f : X → ℕ) (xs : List X) (i : ℕ) (x : X) → slice_get xs i ≡ Some x → f x ≤ total f xs
total-get f [] i x h = cc
total-get f (y ∷ xs) zero x h = let e = ap f (same_Some _ _ h) in omega (arith, e)
total-get f (y ∷ xs) (suc i) x h = omega (arith, total-get f xs i x h)

pub every-append : {X : Type 0} (P : X → Type 0) (xs ys : List X) → AllByRecursion P xs → AllByRecursion P ys → AllByRecursion P (xs ++ ys)
every-append P [] ys h k = k
every-append P (x ∷ xs) ys h k = (h.0, every-append P xs ys h.1 k)

pub every-front : {X : Type 0} (P : X → Type 0) (xs ys : List X) → AllByRecursion P (xs ++ ys) → AllByRecursion P xs × AllByRecursion P ys
every-front P [] ys h = (tt, h)
every-front P (x ∷ xs) ys h = let r = every-front P xs ys h.1 in ((h.0, r.0), r.1)

pub every-map : {X : Type 0} {P Q : X → Type 0} (f : (x : X) → P x → Q x) (xs : List X) → AllByRecursion P xs → AllByRecursion Q xs
every-map f [] h = tt
every-map f (x ∷ xs) h = (f x h.0, every-map f xs h.1)

-- what holds of every thing holds of each of a list
pub every_one : {X : Type 0} (P : X → Type 0) (xs : List X) → ((x : X) → P x) → AllByRecursion P xs
every_one P [] h = tt
every_one P (x ∷ xs) h = (h x, every_one P xs h)

-- two facts on each element give a third
pub every_both : {X : Type 0} {P Q R : X → Type 0} (f : (x : X) → P x → Q x → R x) (xs : List X) → AllByRecursion P xs → AllByRecursion Q xs → AllByRecursion R xs
every_both f [] p q = tt
every_both f (x ∷ xs) p q = (f x p.0 q.0, every_both f xs p.1 q.1)

pub every-set : {X : Type 0} (P : X → Type 0) (xs : List X) (i : ℕ) (x : X) → AllByRecursion P xs → P x → AllByRecursion P (slice_set xs i x)
every-set P [] i x h k = tt
every-set P (y ∷ xs) zero x h k = (k, h.1)
every-set P (y ∷ xs) (suc i) x h k = (h.0, every-set P xs i x h.1 k)

pub every-get : {X : Type 0} (P : X → Type 0) (xs : List X) (i : ℕ) (x : X) → AllByRecursion P xs → slice_get xs i ≡ Some x → P x
every-get P [] i x h e = absurd (cc)
every-get P (y ∷ xs) zero x h e = rw (← same_Some _ _ e) h.0
every-get P (y ∷ xs) (suc i) x h e = every-get P xs i x h.1 e

pub length-put : {X : Type 0} (xs : List X) (i : ℕ) (x : X) → length (slice_set xs i x) ≡ length xs
length-put [] i x = refl
length-put (y ∷ xs) zero x = refl
length-put (y ∷ xs) (suc i) x = ap suc (length-put xs i x)

-- what stands at a number after a write
pub get-put_same : {X : Type 0} (xs : List X) (i : ℕ) (old new : X) → slice_get xs i ≡ Some old → slice_get (slice_set xs i new) i ≡ Some new
get-put_same [] i old new h = cc
get-put_same (y ∷ xs) zero old new h = refl
get-put_same (y ∷ xs) (suc i) old new h = get-put_same xs i old new h

pub get-put_other : {X : Type 0} (xs : List X) (i j : ℕ) (new : X) → (j ≡ i → ⊥) → slice_get (slice_set xs i new) j ≡ slice_get xs j
get-put_other [] i j new h = refl
get-put_other (y ∷ xs) zero zero new h = absurd (h refl)
get-put_other (y ∷ xs) zero (suc j) new h = refl
get-put_other (y ∷ xs) (suc i) zero new h = refl
get-put_other (y ∷ xs) (suc i) (suc j) new h = get-put_other xs i j new (λ e. h (ap suc e))

pub Each-put : {X : Type 0} {P Q : ℕ → X → Type 0} (xs : List X) (i : ℕ) (old new : X) → slice_get xs i ≡ Some old → Each P xs → ((j : ℕ) (x : X) → P j x → Q j x) → Q i new → Each Q (slice_set xs i new)
Each-put (y ∷ xs) zero old new h each keep at zero x e = rw (← same_Some _ _ e) at
Each-put (y ∷ xs) zero old new h each keep at (suc j) x e = keep (suc j) x (each (suc j) x e)
Each-put (y ∷ xs) (suc i) old new h each keep at zero x e = keep zero x (each zero x e)
Each-put {P = P} {Q = Q} (y ∷ xs) (suc i) old new h each keep at (suc j) x e = Each-put {P = λ k. P (suc k)} {Q = λ k. Q (suc k)} xs i old new h (λ k. each (suc k)) (λ k. keep (suc k)) at j x e
Each-put [] i old new h each keep at j x e = absurd (cc)

-- the same where the others may use that they are others
pub Each-put_other : {X : Type 0} {P Q : ℕ → X → Type 0} (xs : List X) (i : ℕ) (old new : X) → slice_get xs i ≡ Some old → Each P xs → ((j : ℕ) (x : X) → (j ≡ i → ⊥) → P j x → Q j x) → Q i new → Each Q (slice_set xs i new)
Each-put_other (y ∷ xs) zero old new h each keep at zero x e = rw (← same_Some _ _ e) at
Each-put_other (y ∷ xs) zero old new h each keep at (suc j) x e = keep (suc j) x (λ q. cc) (each (suc j) x e)
Each-put_other (y ∷ xs) (suc i) old new h each keep at zero x e = keep zero x (λ q. cc) (each zero x e)
Each-put_other {P = P} {Q = Q} (y ∷ xs) (suc i) old new h each keep at (suc j) x e = Each-put_other {P = λ k. P (suc k)} {Q = λ k. Q (suc k)} xs i old new h (λ k. each (suc k)) (λ k z ne. keep (suc k) z (λ q. ne (omega arith))) at j x e
Each-put_other [] i old new h each keep at j x e = absurd (cc)

-- one more at the end
pub Each-append : {X : Type 0} (P : ℕ → X → Type 0) (xs : List X) (x : X) → Each P xs → P (length xs) x → Each P (xs ++ x ∷ [])
Each-append P [] x each h zero y e = rw (← same_Some _ _ e) h
Each-append P [] x each h (suc i) y e = absurd (cc)
Each-append P (z ∷ zs) x each h zero y e = each 0 y e
Each-append P (z ∷ zs) x each h (suc i) y e = Each-append (λ n. P (suc n)) zs x (λ n. each (suc n)) h i y e

-- a sum with one summand, and one without any
pub total_zero : {X : Type 0} (f : X → ℕ) (xs : List X) → Each (λ i x. f x ≡ 0) xs → total f xs ≡ 0
total_zero f [] each = refl
total_zero f (x ∷ xs) each = omega (arith, each 0 x refl, total_zero f xs (λ i. each (suc i)))

pub total_alone : {X : Type 0} (f : X → ℕ) (xs : List X) (i : ℕ) (x : X) → slice_get xs i ≡ Some x → Each (λ j y. (j ≡ i → ⊥) → f y ≡ 0) xs → total f xs ≡ f x
total_alone f [] i x h each = absurd (cc)
total_alone f (y ∷ xs) zero x h each =
    let e = ap f (same_Some _ _ h) in
    let n = total_zero f xs (λ j z k. each (suc j) z k (λ q. cc)) in
    omega (arith, e, n)
total_alone f (y ∷ xs) (suc i) x h each = omega (arith, each 0 y refl (λ q. cc), total_alone f xs i x h (λ j z k ne. each (suc j) z k (λ q. ne (omega arith))))

pub total_nothing : {X : Type 0} (f : X → ℕ) (xs : List X) → total f xs ≤ 0 → Each (λ j y. f y ≡ 0) xs
total_nothing f (y ∷ ys) h zero z e = rw (← same_Some _ _ e) (omega (arith, h))
total_nothing f (y ∷ ys) h (suc j) z e = total_nothing f ys (omega (arith, h)) j z e
total_nothing f [] h j z e = absurd (cc)

-- where one summand is all of the sum, nobody else has any
pub nobody_else : {X : Type 0} (f : X → ℕ) (xs : List X) (i : ℕ) (x : X) → slice_get xs i ≡ Some x → total f xs ≤ f x → Each (λ j y. (j ≡ i → ⊥) → f y ≡ 0) xs
nobody_else f (y ∷ ys) zero x h le zero z e ne = absurd (ne refl)
nobody_else f (y ∷ ys) zero x h le (suc j) z e ne =
    let q = ap f (same_Some _ _ h) in total_nothing f ys (omega (arith, le, q)) j z e
nobody_else f (y ∷ ys) (suc i) x h le zero z e ne =
    let q = ap f (same_Some _ _ e) in let w = total-get f ys i x h in omega (arith, le, q, w)
nobody_else f (y ∷ ys) (suc i) x h le (suc j) z e ne = nobody_else f ys i x h (omega (arith, le)) j z e (λ q. ne (ap suc q))
nobody_else f [] i x h le j z e ne = absurd (cc)

-- a sum that isn't 0 has a summand that isn't
pub record Summand {X : Type 0} (f : X → ℕ) (xs : List X) : Type 0 where
  pub at : ℕ
  pub item : X
  pub is : slice_get xs at ≡ Some item
  pub some : 1 ≤ f item

by_head : {X : Type 0} (f : X → ℕ) (x : X) (xs : List X) (n : ℕ) → f x ≡ n → 1 ≤ f x + total f xs → (1 ≤ total f xs → Summand f xs) → Summand f (x ∷ xs)
by_head f x xs zero e h tail = let r = tail (omega arith) in record { at = suc r.at; item = r.item; is = r.is; some = r.some }
by_head f x xs (suc n) e h tail = record { at = zero; item = x; is = refl; some = omega (arith, e) }

pub summand : {X : Type 0} (f : X → ℕ) (xs : List X) → 1 ≤ total f xs → Summand f xs
summand f [] h = absurd (omega arith)
summand f (x ∷ xs) h = by_head f x xs (f x) refl h (λ k. summand f xs k)

-- what follows from a fact of each item holds of each
pub each_both : {X : Type 0} (P Q : X → Type 0) (xs : List X) → AllByRecursion P xs → AllByRecursion Q xs → AllByRecursion (λ x. P x × Q x) xs
each_both P Q [] p q = tt
each_both P Q (x ∷ xs) p q = ((p.0, q.0), each_both P Q xs p.1 q.1)

-- what each has, the first has and the others have
pub each_at : {X : Type 0} (P : X → Type 0) (x : X) (xs ys : List X) → ys ≡ x ∷ xs → AllByRecursion P ys → P x × AllByRecursion P xs
each_at P x xs ys is all = let here : AllByRecursion P (x ∷ xs) = rw is at all in (here.0, here.1)

-- each number of zeros is 0, and so is what stands behind them
pub zero_at : (n k : ℕ) → slice_index (replicate n 0) k ≡ 0
zero_at n k = elim (cases_lt k n) [ inl low ↦ get_or-replicate n k 0 0 low | inr past ↦ get_or_past (replicate n 0) k 0 (omega (arith, past, length-replicate {A = ℕ} n 0)) ]

-- a bit is 1 at most
pub bit_most : (b : Bool) → bit b ≤ 1
bit_most true = omega arith
bit_most false = omega arith
