-- Sums over lists, and what holds of each element with its number.
use Rattle.std.specs.Prelude.{ℕ, ◌+◌, ◌≡◌, List, [], ◌∷◌, Bool, cond, Some, slice_get}

-- the sum of a number of each element
abbrev pub total : {X : Type 0} → (X → ℕ) → List X → ℕ
total f [] = 0
total f (x ∷ xs) = f x + total f xs

-- 1 where a test passes, else 0
abbrev pub bit : Bool → ℕ
bit b = cond b 1 0

-- P holds of what stands at each number
abbrev pub Each : {X : Type 0} → (ℕ → X → Type 0) → List X → Type 0
Each {X} P xs = (i : ℕ) (x : X) → slice_get xs i ≡ Some x → P i x
