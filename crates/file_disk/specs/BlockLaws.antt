-- A device has as many opening blocks as it has blocks.
use Rattle.std.specs.Prelude.{ℕ, zero, suc, ◌≡◌, List, length, drop, refl}
use Rattle.std.proofs.Common.{ap}
use Rattle.file_disk.specs.FileBytes.{blocks_of}

pub length-blocks : (n : ℕ) (bytes : List ℕ) → length (blocks_of n bytes) ≡ n
length-blocks zero bytes = refl
length-blocks (suc n) bytes = ap suc (length-blocks n (drop 4096 bytes))
