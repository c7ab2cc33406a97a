-- Sums over the first numbers.
use Rattle.std.proofs.Common.{ℕ, zero, suc, ◌≡◌, ◌+◌, ◌*◌, ◌<◌, ◌≤◌, refl, sym, ◌∙◌, ap, inl, inr, arith}
use Rattle.std.proofs.lemmas.Bool.{cases_lt}
use Rattle.blk_base.specs.declared.place.Mapping.{Mapping}
use Rattle.blk_base.specs.declared.place.Pbn.{Pbn}
use Rattle.image_model.specs.Counts.{leads_to, mapped_below}
use Rattle.plain_laws.specs.Sums.{bit}
use Rattle.replay_map.specs.Sums.{sum_below}

pub sum_none : (f : ℕ → ℕ) → sum_below f 0 ≡ 0
unfolding sum_below
sum_none f = refl

pub sum_more : (f : ℕ → ℕ) (n : ℕ) → sum_below f (suc n) ≡ sum_below f n + f n
unfolding sum_below
sum_more f n = refl

pub sum_next : (f : ℕ → ℕ) (n : ℕ) → sum_below f (n + 1) ≡ sum_below f n + f n
sum_next f n = let one_more : n + 1 ≡ suc n = omega arith in ap (λ (k : ℕ). sum_below f k) one_more ∙ sum_more f n

pub sum_same : (f g : ℕ → ℕ) (n : ℕ) → ((i : ℕ) → i < n → f i ≡ g i) → sum_below f n ≡ sum_below g n
sum_same f g zero same = sum_none f ∙ sym (sum_none g)
sum_same f g (suc n) same =
    let older = sum_same f g n (λ i below. same i (omega (arith, below))) in
    let here = same n (omega arith) in
    let more = sum_more f n in
    let more' = sum_more g n in
    omega (arith, older, here, more, more')

pub sum_zero : (f : ℕ → ℕ) (n : ℕ) → ((i : ℕ) → i < n → f i ≡ 0) → sum_below f n ≡ 0
sum_zero f zero nothing = sum_none f
sum_zero f (suc n) nothing =
    let older = sum_zero f n (λ i below. nothing i (omega (arith, below))) in
    let here = nothing n (omega arith) in
    let more = sum_more f n in
    omega (arith, older, here, more)

pub sum_plus : (f g : ℕ → ℕ) (n : ℕ) → sum_below (λ i. f i + g i) n ≡ sum_below f n + sum_below g n
sum_plus f g zero = let a = sum_none f in let b = sum_none g in let c = sum_none (λ i. f i + g i) in omega (arith, a, b, c)
sum_plus f g (suc n) =
    let older = sum_plus f g n in
    let a = sum_more f n in
    let b = sum_more g n in
    let c = sum_more (λ i. f i + g i) n in
    omega (arith, older, a, b, c)

-- one part behind the other
pub sum_on : (f : ℕ → ℕ) (m n : ℕ) → sum_below f (m + n) ≡ sum_below f m + sum_below (λ i. f (m + i)) n
sum_on f m zero =
    let none = sum_none (λ i. f (m + i)) in
    let same : m + 0 ≡ m = omega arith in
    let here = ap (λ (k : ℕ). sum_below f k) same in
    omega (arith, none, here)
sum_on f m (suc n) =
    let older = sum_on f m n in
    let later = sum_more (λ i. f (m + i)) n in
    let same : m + suc n ≡ suc (m + n) = omega arith in
    let here = ap (λ (k : ℕ). sum_below f k) same ∙ sum_more f (m + n) in
    omega (arith, older, later, here)

-- row by row
pub sum_rows : (f : ℕ → ℕ) (rows n : ℕ) → sum_below (λ row. sum_below (λ i. f (row * n + i)) n) rows ≡ sum_below f (rows * n)
sum_rows f zero n =
    let none = sum_none (λ row. sum_below (λ i. f (row * n + i)) n) in
    let same : 0 * n ≡ 0 = omega arith in
    none ∙ sym (ap (λ (k : ℕ). sum_below f k) same ∙ sum_none f)
sum_rows f (suc rows) n =
    let older = sum_rows f rows n in
    let more = sum_more (λ row. sum_below (λ i. f (row * n + i)) n) rows in
    let same : suc rows * n ≡ rows * n + n = omega arith in
    let whole = ap (λ (k : ℕ). sum_below f k) same ∙ sum_on f (rows * n) n in
    omega (arith, older, more, whole)

-- the columns of all rows
pub sum_swap : (f : ℕ → ℕ → ℕ) (m n : ℕ) → sum_below (λ i. sum_below (λ j. f i j) n) m ≡ sum_below (λ j. sum_below (λ i. f i j) m) n
sum_swap f zero n = sum_none (λ i. sum_below (λ j. f i j) n) ∙ sym (sum_zero (λ j. sum_below (λ i. f i j) 0) n (λ j below. sum_none (λ i. f i j)))
sum_swap f (suc m) n =
    let older = sum_swap f m n in
    let more = sum_more (λ i. sum_below (λ j. f i j) n) m in
    let whole = sum_same (λ j. sum_below (λ i. f i j) (suc m)) (λ j. sum_below (λ i. f i j) m + f m j) n (λ j below. sum_more (λ i. f i j) m) in
    let parts = sum_plus (λ j. sum_below (λ i. f i j) m) (λ j. f m j) n in
    omega (arith, older, more, whole, parts)

-- a sum that isn't 0 has a summand that isn't
pub sum_some : (f : ℕ → ℕ) (n : ℕ) → 1 ≤ sum_below f n → (i : ℕ) × (i < n) × (1 ≤ f i)
sum_some f zero some = let none = sum_none f in absurd (omega (arith, none, some))
sum_some f (suc n) some = elim (cases_lt 0 (f n)) [
  | inl here ↦ (n, omega arith, omega (arith, here))
  | inr none ↦
      let more = sum_more f n in
      let before = sum_some f n (omega (arith, more, none, some)) in
      let inside = before.1 in
      (before.0, omega (arith, inside), before.2)
]

pub sum_has : (f : ℕ → ℕ) (n i : ℕ) → i < n → 1 ≤ f i → 1 ≤ sum_below f n
sum_has f zero i inside some = absurd (omega (arith, inside))
sum_has f (suc n) i inside some =
    let more = sum_more f n in
    elim (cases_lt i n) [
      | inl before ↦ let sum = sum_has f n i before some in omega (arith, more, sum)
      | inr last ↦
          let here : i ≡ n = omega (arith, inside, last) in
          let same = ap f here in
          omega (arith, more, same, some)
    ]

-- Numbers of mappings are sums.

pub mapped_sum : (mappings : ℕ → Mapping) (block : Pbn) (n : ℕ) → mapped_below mappings block n ≡ sum_below (λ i. bit (leads_to block (mappings i))) n
unfolding mapped_below sum_below
mapped_sum mappings block zero = refl
mapped_sum mappings block (suc n) = omega (arith, mapped_sum mappings block n)

pub mapped_same : (mappings other : ℕ → Mapping) (block : Pbn) (n : ℕ) → ((i : ℕ) → i < n → mappings i ≡ other i) → mapped_below mappings block n ≡ mapped_below other block n
mapped_same mappings other block n same =
    mapped_sum mappings block n
    ∙ sum_same (λ i. bit (leads_to block (mappings i))) (λ i. bit (leads_to block (other i))) n (λ i below. ap (λ (m : Mapping). bit (leads_to block m)) (same i below))
    ∙ sym (mapped_sum other block n)

pub mapped_next : (mappings : ℕ → Mapping) (block : Pbn) (n : ℕ) → mapped_below mappings block (n + 1) ≡ mapped_below mappings block n + bit (leads_to block (mappings n))
mapped_next mappings block n =
    let now = mapped_sum mappings block n in
    let next = mapped_sum mappings block (n + 1) in
    let more = sum_next (λ i. bit (leads_to block (mappings i))) n in
    omega (arith, now, next, more)

pub mapped_none : (mappings : ℕ → Mapping) (block : Pbn) → mapped_below mappings block 0 ≡ 0
mapped_none mappings block = mapped_sum mappings block 0 ∙ sum_none (λ i. bit (leads_to block (mappings i)))
