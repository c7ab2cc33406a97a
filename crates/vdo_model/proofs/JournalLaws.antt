-- Sequences that are less than a journal's length apart have slots of their own.
use Rattle.std.proofs.Common.{ℕ, suc, ◌≢◌, ◌+◌, ◌*◌, ◌/◌, ◌%◌, ◌<◌, ◌≤◌, inl, inr, arith}
use Rattle.std.proofs.Math.Nat.{div-add-mod, mul-le-mul_left}
use Rattle.std.proofs.lemmas.Bool.{cases_lt}

apart_products : (journal p q : ℕ) → journal * p < journal * q → journal * q < journal * p + journal → ⊥
apart_products journal p q less near = elim (cases_lt p q) [
  | inl before ↦
      let step : journal * suc p ≤ journal * q = mul-le-mul_left journal before in omega (arith, step)
  | inr not_before ↦
      let back : journal * q ≤ journal * p = mul-le-mul_left journal not_before in omega (arith, back)
]

pub slots_apart : (journal m n : ℕ) → m < n → n < m + journal → m % journal ≢ n % journal
slots_apart journal m n before near same =
    let at_m = div-add-mod m journal in
    let at_n = div-add-mod n journal in
    apart_products journal (m / journal) (n / journal) (omega (arith, at_m, at_n, same, before)) (omega (arith, at_m, at_n, same, near))
