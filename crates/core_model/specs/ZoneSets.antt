-- Sets of zones, each the number whose bits are set at the numbers of its zones.
use Rattle.std.specs.Prelude.{ℕ, ◌≡◌, ◌≢◌, ◌<◌, ◌≤◌, Bool, true, false, eqb}
use Rattle.std.specs.Int.{bit_at}

-- whether a zone is in a set
abbrev pub is_in : ℕ → ℕ → Bool
is_in set n = eqb (bit_at set n) 1

-- the zone of this number was put into the set, or taken out, and no other
pub record Puts (old new number : ℕ) (inside : Bool) : Type 0 where
  pub there : is_in new number ≡ inside
  pub others : (n : ℕ) → n ≢ number → is_in new n ≡ is_in old n

-- this zone was the lowest of the set, and has left
pub record TakesFirst (old new first : ℕ) : Type 0 where
  pub had : is_in old first ≡ true
  pub lowest : (n : ℕ) → n < first → is_in old n ≡ false
  pub left : Puts old new first false
  pub less : new < old

-- no zone in the set has this number or a higher one
abbrev pub IsBelow : ℕ → ℕ → Type 0
IsBelow count set = (n : ℕ) → count ≤ n → is_in set n ≡ false
