-- The bytes of a file, by sectors of 512 bytes and blocks of 4,096.
use Rattle.std.specs.Prelude.{ℕ, zero, suc, ◌*◌, List, [], ◌∷◌, ◌++◌, take, drop, replicate}

-- the first n of these bytes; zeros behind their end
unfoldable pub front : ℕ → List ℕ → List ℕ
front n bytes = take n (bytes ++ replicate n 0)

-- a sector of a file
abbrev pub file_sector : ℕ → List ℕ → List ℕ
file_sector s bytes = front 512 (drop (512 * s) bytes)

-- a block of a file
abbrev pub file_block : ℕ → List ℕ → List ℕ
file_block b bytes = front 4096 (drop (4096 * b) bytes)

-- so many blocks, from the first on
abbrev pub blocks_of : ℕ → List ℕ → List (List ℕ)
blocks_of zero bytes = []
blocks_of (suc n) bytes = front 4096 bytes ∷ blocks_of n (drop 4096 bytes)
