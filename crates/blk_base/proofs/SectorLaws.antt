-- How long a block is; and blocks that different bytes fill differ, already in their first sectors.
use Rattle.std.specs.Prelude.{ℕ, ◌≡◌, List, length, get_or}
use Rattle.std.proofs.Common.{ap}
use Rattle.std.proofs.lemmas.List.{length-replicate}
use Rattle.blk_base.specs.Sectors.{filled_block, sector, zero_block}

pub zero_size : length zero_block ≡ 4096
unfolding zero_block
zero_size = length-replicate {A = ℕ} 4096 0

pub filled_size : (byte : ℕ) → length (filled_block byte) ≡ 4096
unfolding filled_block
filled_size byte = length-replicate 4096 byte

pub sectors_tell : (a b : ℕ) → sector 0 (filled_block a) ≡ sector 0 (filled_block b) → a ≡ b
unfolding filled_block
sectors_tell a b same = ap (λ (bytes : List ℕ). get_or bytes 0 0) same
