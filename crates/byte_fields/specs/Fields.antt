-- Numbers as bytes at a place, the lowest byte first.
use Rattle.std.specs.Prelude.{ℕ, List, drop}
use Rattle.byteorder.specs.Endian.{little_bytes, little_number}

-- a number's lowest n bytes, the lowest first
unfoldable pub le : ℕ → ℕ → List ℕ
le n x = little_bytes n x

-- the number in the n bytes at a place
unfoldable pub number_at : ℕ → ℕ → List ℕ → ℕ
number_at n at bytes = little_number n (drop at bytes)
