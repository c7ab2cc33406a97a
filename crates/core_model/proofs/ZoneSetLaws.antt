-- Sets of zones as the bits of a number.
use Rattle.std.proofs.Common.{ℕ, ◌≡◌, ◌<◌, ◌≤◌, ◌-◌, ◌*◌, ◌^◌, ◌%◌, ◌/◌, Bool, true, false, IsTrue, ◌↔◌, not, bit_and, bit_or, inl, inr, refl, sym, ◌∙◌, ap, arith, eqb}
use Rattle.std.proofs.Math.Nat.{mod-eq_of_lt}
use Rattle.std.proofs.Math.Pow.{pow-lt}
use Rattle.std.proofs.lemmas.Bool.{cases_lt}
use Rattle.std.proofs.lemmas.Nat.{and_le_l}
use Rattle.std.proofs.lemmas.Nat.Bits.{bit_at-lt, bit_at-zero, bit_at_above, bit_at_and, bit_at_ones, bit_at_ones_above, bit_at_clear_other, bit_at_clear_same, bit_at_set_other, bit_at_set_same, bit_at-trailing_zeros, shr_and_one}
use Rattle.std.specs.Int.{bit_at, bit_not, trailing_zeros, w32}
use Rattle.core_model.specs.ZoneSets.{IsBelow, Puts, TakesFirst, is_in}

-- by the bit of a number
set_there : (set n : ℕ) → bit_at set n ≡ 1 → is_in set n ≡ true
set_there set n one = ap (λ b. eqb b 1) one

unset_there : (set n : ℕ) → bit_at set n ≡ 0 → is_in set n ≡ false
unset_there set n none = ap (λ b. eqb b 1) none

as_there : (set other n : ℕ) → bit_at set n ≡ bit_at other n → is_in set n ≡ is_in other n
as_there set other n same = ap (λ b. eqb b 1) same

-- no flag is set and not
pub both_ways : (b : Bool) → b ≡ true → b ≡ false → ⊥
both_ways b set unset = let same : true ≡ false = sym set ∙ unset in absurd cc

-- no zone is in the empty set
pub none_inside : (set : ℕ) → set ≡ 0 → (n : ℕ) → is_in set n ≡ false
none_inside set none n = unset_there set n (ap (λ m. bit_at m n) none ∙ bit_at-zero n)

-- by whether a set is empty
pub empty_where : (empty : Bool) (set : ℕ) → (IsTrue empty ↔ (set ≡ 0)) → not empty ≡ false → set ≡ 0
empty_where true set tells unset = tells.0 refl
empty_where false set tells unset = absurd cc

-- the test of a bit
pub has_tells : (set n : ℕ) → eqb (bit_and (set / 2 ^ n) 1) 1 ≡ is_in set n
has_tells set n = ap (λ b. eqb b 1) (shr_and_one set n)

-- a bit is set
pub puts_in : (old number : ℕ) → number < 32 → Puts old (bit_or old (1 * 2 ^ number % 2 ^ 32)) number true
puts_in old number low = record {
  there = set_there _ number (bit_at_set_same w32 old number low);
  others = λ n other. as_there _ old n (bit_at_set_other w32 old number low n other);
}

-- and cleared
pub takes_out : (old number : ℕ) → old < 2 ^ 32 → number < 32 → Puts old (bit_and old (bit_not w32 (1 * 2 ^ number % 2 ^ 32))) number false
takes_out old number fits low =
    let new : ℕ = bit_and old (bit_not w32 (1 * 2 ^ number % 2 ^ 32)) in
    let less : new ≤ old = and_le_l old (bit_not w32 (1 * 2 ^ number % 2 ^ 32)) in
    record {
      there = unset_there new number (bit_at_clear_same w32 old number low);
      others = λ n other. as_there new old n (elim (cases_lt n 32) [
        | inl below ↦ bit_at_clear_other w32 old number low n below other
        | inr past ↦ bit_at_above new 32 n (omega (arith, less, fits)) past ∙ sym (bit_at_above old 32 n fits past)
      ]);
    }

-- the lowest bit that is set
pub lowest_low : (old : ℕ) → (old ≡ 0 → ⊥) → old < 2 ^ 32 → trailing_zeros w32 old < 32
lowest_low old some fits = (bit_at-trailing_zeros w32 old (omega (arith, some)) fits).0

less_where_cleared : (new old n : ℕ) → new ≤ old → bit_at new n ≡ 0 → bit_at old n ≡ 1 → new < old
less_where_cleared new old n most gone had = elim (cases_lt new old) [
  | inl less ↦ less
  | inr past ↦ absurd (let same : new ≡ old = omega arith in let kept : bit_at new n ≡ bit_at old n = ap (λ m. bit_at m n) same in omega (arith, kept, gone, had))
]

pub takes_first : (old : ℕ) → (old ≡ 0 → ⊥) → old < 2 ^ 32 → TakesFirst old (bit_and old (bit_not w32 (1 * 2 ^ trailing_zeros w32 old % 2 ^ 32))) (trailing_zeros w32 old)
takes_first old some fits =
    let (low, had, lowest) = bit_at-trailing_zeros w32 old (omega (arith, some)) fits in
    let first : ℕ = trailing_zeros w32 old in
    let new : ℕ = bit_and old (bit_not w32 (1 * 2 ^ first % 2 ^ 32)) in
    let most : new ≤ old = and_le_l old (bit_not w32 (1 * 2 ^ first % 2 ^ 32)) in
    let gone : bit_at new first ≡ 0 = bit_at_clear_same w32 old first low in
    record {
      had = set_there old first had;
      lowest = λ n below. unset_there old n (lowest n below);
      left = takes_out old first fits low;
      less = less_where_cleared new old first most gone had;
    }

-- those below a number
below_mask : (set end : ℕ) → end < 32 → bit_and set (1 * 2 ^ end % 2 ^ 32 - 1) ≡ bit_and set (2 ^ end - 1)
below_mask set end low =
    let fits : 2 ^ end < 2 ^ 32 = pow-lt low in
    let mask : 1 * 2 ^ end % 2 ^ 32 ≡ 2 ^ end = (let one : 1 * 2 ^ end ≡ 2 ^ end = omega arith in ap (λ k. k % 2 ^ 32) one ∙ mod-eq_of_lt fits) in
    ap (λ k. bit_and set (k - 1)) mask

pub below_inside : (set end n : ℕ) → end < 32 → n < end → is_in (bit_and set (1 * 2 ^ end % 2 ^ 32 - 1)) n ≡ is_in set n
below_inside set end n low inside =
    let both = bit_at_and set (2 ^ end - 1) n in
    let one = bit_at_ones end n inside in
    let bit = bit_at-lt set n in
    ap (λ m. is_in m n) (below_mask set end low) ∙ as_there _ set n (omega (arith, both, one, bit))

pub below_past : (set end : ℕ) → end < 32 → IsBelow end (bit_and set (1 * 2 ^ end % 2 ^ 32 - 1))
below_past set end low n past =
    let both = bit_at_and set (2 ^ end - 1) n in
    let none = bit_at_ones_above end n past in
    ap (λ m. is_in m n) (below_mask set end low) ∙ unset_there _ n (omega (arith, both, none))
