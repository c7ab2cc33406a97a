-- The sum of the bytes of one load, and of those up to it.
use Rattle.std.proofs.Common.{◌≡◌, ℕ, ◌+◌, ◌*◌, ◌≤◌, List, [], ◌∷◌, length, take, get_or, replicate, sum, refl, sym, ap, ◌∙◌, arith, Fits, w8, w32}
use Rattle.std.proofs.Math.Seq.{take-add}
use Rattle.std.proofs.lemmas.List.Sums.{sum_by-append}
use Rattle.std.proofs.lemmas.Simd.{bytes_below, chunk-fits, dot4_Fits, fold-sum, length-chunk, length-replicate, sum_bound, sum_by-ones, sum_dots, sum_fits}
use lib.Dec.{T}
use lib.Lanes.{Steps, all_below, chunk, dots, fold_l, pair_sums, products, sum_l}

sum_is : (xs : List ℕ) → sum xs ≡ sum_l xs
sum_is [] = refl
sum_is (x ∷ xs) =
    let split = sum_by-append (λ y. y) (x ∷ []) xs in
    let rest = sum_is xs in
    omega (arith, split, rest)

-- one more load
pub sum_more : (at : ℕ) (bytes : List ℕ) → sum (take (at + 64) bytes) ≡ sum (take at bytes) + sum_l (chunk at 64 bytes)
sum_more at bytes =
    ap sum (take-add at 64 bytes) ∙ sum_by-append (λ x. x) (take at bytes) (chunk at 64 bytes) ∙ ap (λ n. sum (take at bytes) + n) (sum_is (chunk at 64 bytes))

module _ (bytes : List ℕ) (at : ℕ) (room : at + 64 ≤ length bytes) (fits : (k : ℕ) → Fits w8 (get_or bytes k 0)) where
  abbrev pub parts : List ℕ
  parts = dots (chunk at 64 bytes) (replicate 64 1)

  long : length (chunk at 64 bytes) ≡ 64
  long = length-chunk at 64 bytes room

  parts_total : sum_l parts ≡ sum_l (chunk at 64 bytes)
  parts_total =
      (sum_dots 16 (chunk at 64 bytes) (replicate 64 1) long (length-replicate {A = ℕ} 64 1)).0
      ∙ ap (λ n. sum_l (products (chunk at 64 bytes) (replicate n 1))) (sym long) ∙ sum_by-ones (chunk at 64 bytes)

  bound : sum_l (chunk at 64 bytes) ≤ 255 * 64
  bound =
      let most = sum_bound 255 (chunk at 64 bytes) (bytes_below (chunk at 64 bytes) (chunk-fits w8 at 64 bytes fits)) in
      omega (arith, most, long)

  -- no sum of two products is too large
  pub parts_fit : T (all_below 32768 (pair_sums (products (chunk at 64 bytes) (replicate 64 1))))
  parts_fit = dot4_Fits (chunk at 64 bytes) (replicate 64 1) (chunk-fits w8 at 64 bytes fits) tt

  -- no partial sum is too large
  pub adds_up : Steps (λ s x. Fits w32 (s + x)) (λ s x. s + x) 0 parts
  adds_up = sum_fits w32 0 parts (omega (arith, parts_total, bound))

  pub total_is : fold_l (λ s x. s + x) 0 parts ≡ sum_l (chunk at 64 bytes)
  total_is = omega (arith, fold-sum 0 parts, parts_total)

  pub few_is : fold_l (λ s x. s + x) 0 parts ≤ 255 * 64
  few_is = omega (arith, total_is, bound)
