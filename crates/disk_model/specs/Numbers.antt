-- Rows of numbers: a row begins with a state, and of each state behind it its high bits are a number.
use Rattle.std.specs.Prelude.{ℕ, zero, suc, ◌+◌, ◌*◌, ◌/◌, ◌%◌, ◌^◌}

-- the state behind this one
unfoldable pub next_state : ℕ → ℕ
next_state x = (x * 6364136223846793005 + 1442695040888963407) % 2 ^ 64

-- the number that a state gives
unfoldable pub number_in : ℕ → ℕ
number_in state = state / 2 ^ 33

-- the state so many states behind the first one
abbrev pub state_after : ℕ → ℕ → ℕ
state_after seed zero = seed
state_after seed (suc n) = next_state (state_after seed n)
