-- Sums over numbers that are shared out by their remainders: each number is in one share.
use Rattle.std.proofs.Common.{ℕ, zero, suc, ◌≡◌, ◌+◌, ◌*◌, ◌/◌, ◌%◌, ◌<◌, ◌≤◌, ◌==◌, if◌then◌else◌, refl, sym, ◌∙◌, ap, arith, inl, inr}
use Rattle.std.proofs.Math.Nat.{mod-lt, mul-le-mul_right}
use Rattle.std.proofs.lemmas.Bool.{cases_lt}
use Rattle.std.proofs.lemmas.Bool.Decides.{eqb_tells}
use Rattle.std.proofs.lemmas.Nat.{div-add-mod', mod-mul-add}
use Rattle.core_model.specs.Uses.{sum_below}

-- a value where it is of this share; and the sum of those of a share, below a number
abbrev pub of_share : (value of share : ℕ) → ℕ
of_share value of share = if of == share then value else 0

abbrev pub share_below : (f : ℕ → ℕ) (shares n share : ℕ) → ℕ
share_below f shares n share = sum_below (λ k. of_share (f k) (k % shares) share) n

nothing : (n : ℕ) → sum_below (λ k. 0) n ≡ 0
nothing zero = refl
nothing (suc n) = let rest = nothing n in omega (arith, rest)

both : (f h : ℕ → ℕ) (n : ℕ) → sum_below (λ k. f k + h k) n ≡ sum_below f n + sum_below h n
both f h zero = refl
both f h (suc n) = let rest = both f h n in omega (arith, rest)

-- a value is in one share
none_below : (value of n : ℕ) → n ≤ of → sum_below (of_share value of) n ≡ 0
none_below value of zero few = refl
none_below value of (suc n) few =
    let rest = none_below value of n (omega (arith, few)) in
    elim (eqb_tells of n) [
      | inl here ↦ absurd (omega (arith, here.1, few))
      | inr other ↦ let none : of_share value of n ≡ 0 = rw other.0 refl in omega (arith, rest, none)
    ]

in_one : (value of n : ℕ) → of < n → sum_below (of_share value of) n ≡ value
in_one value of zero inside = absurd (omega (arith, inside))
in_one value of (suc n) inside = elim (eqb_tells of n) [
  | inl here ↦
      let rest = none_below value of n (omega (arith, here.1)) in
      let all : of_share value of n ≡ value = rw here.0 refl in
      omega (arith, rest, all)
  | inr other ↦
      let rest = in_one value of n (below_others of n inside other.1) in
      let none : of_share value of n ≡ 0 = rw other.0 refl in
      omega (arith, rest, none)
]
  where
    below_others : (of n : ℕ) → of < suc n → (of ≡ n → ⊥) → of < n
    below_others of n inside apart = elim (cases_lt of n) [ inl less ↦ less | inr not_less ↦ absurd (apart (omega (arith, inside, not_less))) ]

-- so the shares make the whole sum
pub shared_out : (f : ℕ → ℕ) (shares : ℕ) → 0 < shares → (n : ℕ) → sum_below (share_below f shares n) shares ≡ sum_below f n
shared_out f shares some zero = nothing shares
shared_out f shares some (suc n) =
    let rest = shared_out f shares some n in
    let parts = both (share_below f shares n) (of_share (f n) (n % shares)) shares in
    let one = in_one (f n) (n % shares) shares (mod-lt n some) in
    omega (arith, rest, parts, one)

-- the numbers of a share, one after the other
module _ (f : ℕ → ℕ) (shares share : ℕ) (less : share < shares) where
  abbrev nth : ℕ → ℕ
  nth k = k * shares + share

  nth_share : (k : ℕ) → nth k % shares ≡ share
  nth_share k = mod-mul-add k shares share less

  further : (j k : ℕ) → j < k → nth j + shares ≤ nth k
  further j k below = let most = mul-le-mul_right shares below in omega (arith, most)

  -- so many of them are below a number
  pub record AreBelow (n l : ℕ) : Type 0 where
    pub all : (m : ℕ) → m < n → m % shares ≡ share → m / shares < l
    pub each : (k : ℕ) → k < l → nth k < n

  -- of the last one, and of those before it
  module _ (n l : ℕ) (are : AreBelow (suc n) l) where
    module _ (here : n % shares ≡ share) where
      abbrev last : ℕ
      last = n / shares

      place : nth last ≡ n
      place = let parts = div-add-mod' n shares in omega (arith, parts, here)

      is_last : l ≡ suc last
      is_last =
          let inside = are.all n (omega arith) here in
          elim (cases_lt (suc last) l) [
            | inl more ↦ let next = are.each (suc last) more in let far = further last (suc last) (omega arith) in absurd (omega (arith, next, far, place, less))
            | inr few ↦ omega (arith, few, inside)
          ]

      before : AreBelow n last
      before = record { all = all; each = each }
        where
          all : (m : ℕ) → m < n → m % shares ≡ share → m / shares < last
          all m below same = elim (cases_lt (m / shares) last) [
            | inl earlier ↦ earlier
            | inr late ↦
                let most = mul-le-mul_right shares late in
                let parts = div-add-mod' m shares in
                absurd (omega (arith, most, parts, same, place, below))
          ]

          each : (k : ℕ) → k < last → nth k < n
          each k below = let far = further k last below in omega (arith, far, place, less)

    others : (n % shares ≡ share → ⊥) → AreBelow n l
    others other = record { all = λ m below. are.all m (omega (arith, below)); each = λ k below. apart k (are.each k below) }
      where
        apart : (k : ℕ) → nth k < suc n → nth k < n
        apart k below = elim (cases_lt (nth k) n) [
          | inl earlier ↦ earlier
          | inr past ↦ let same : nth k ≡ n = omega (arith, below, past) in absurd (other (ap (λ (m : ℕ). m % shares) (sym same) ∙ nth_share k))
        ]

  pub one_by_one : (n l : ℕ) → AreBelow n l → share_below f shares n share ≡ sum_below (λ k. f (nth k)) l
  one_by_one zero zero are = refl
  one_by_one zero (suc l) are = let none = are.each 0 (omega arith) in absurd (omega (arith, none))
  one_by_one (suc n) l are = elim (eqb_tells (n % shares) share) [
    | inl here ↦
        let rest = one_by_one n (n / shares) (before n l are here.1) in
        let value : of_share (f n) (n % shares) share ≡ f (nth (n / shares)) = rw here.0 (ap f (sym (place n l are here.1))) in
        let total = ap (sum_below (λ k. f (nth k))) (is_last n l are here.1) in
        omega (arith, rest, value, total)
    | inr other ↦
        let rest = one_by_one n l (others n l are other.1) in
        let none : of_share (f n) (n % shares) share ≡ 0 = rw other.0 refl in
        omega (arith, rest, none)
  ]
