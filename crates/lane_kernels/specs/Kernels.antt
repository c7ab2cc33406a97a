-- What the kernels over bytes answer.
use Rattle.std.specs.Prelude.{ℕ, ◌≡◌, ◌==◌, ◌<◌, ◌≤◌, Bool, ◌&&◌, List, length, slice_index}
use Rattle.std.specs.Simd.Lanes.{chunk, zip2}

-- a place is free where neither a reference nor a claim is on it
abbrev pub IsFreeAt : List ℕ → List ℕ → ℕ → Type 0
IsFreeAt counters claims k = (slice_index counters k ≡ 0) × (slice_index claims k ≡ 0)

-- each of 64 lanes is 0
abbrev pub AreZeros : List ℕ → Type 0
AreZeros lanes = (k : ℕ) → k < 64 → slice_index lanes k ≡ 0

-- none of 64 lanes is 0
abbrev pub HasNoZero : List ℕ → Type 0
HasNoZero lanes = (k : ℕ) → k < 64 → ¬ (slice_index lanes k ≡ 0)

-- the least free place
pub record IsLeastFree (counters claims : List ℕ) (at : ℕ) : Type 0 where
  pub inside : at < length counters
  pub free : IsFreeAt counters claims at
  pub least : (k : ℕ) → k < at → ¬ IsFreeAt counters claims k

-- the least free place from one place up to another
pub record IsLeastFreeWithin (from to : ℕ) (counters claims : List ℕ) (at : ℕ) : Type 0 where
  pub within : (from ≤ at) × (at < to)
  pub free : IsFreeAt counters claims at
  pub least : (k : ℕ) → from ≤ k → k < at → ¬ IsFreeAt counters claims k

-- which of so many places from one on are free
abbrev pub free_lanes : (at lanes : ℕ) → (counters claims : List ℕ) → List Bool
free_lanes at lanes counters claims =
    zip2 (λ counter claim. (counter == 0) && (claim == 0)) (chunk at lanes counters) (chunk at lanes claims)
