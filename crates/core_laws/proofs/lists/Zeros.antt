-- Blocks of zeros.
use Rattle.std.proofs.Common.{◌≡◌, ◌≢◌, ◌==◌, ◌∙◌, ℕ, zero, suc, true, false, List, [], ◌∷◌, ap, length, refl, replicate, sym}
use Rattle.core_laws.proofs.Common.{and_parts, eqb-true, length-replicate}
use Rattle.blk_base.specs.Sectors.{zero_block}
use Rattle.core_model.specs.LogicalRules.{are_zeros}

pub zeros_length : length zero_block ≡ 4096
unfolding zero_block
zeros_length = length-replicate {A = ℕ} 4096 0

-- a block of zeros has zeros alone
replicated_zeros : (n : ℕ) → are_zeros (replicate n 0) ≡ true
replicated_zeros zero = refl
replicated_zeros (suc n) = replicated_zeros n

block_zeros : are_zeros zero_block ≡ true
unfolding zero_block
block_zeros = replicated_zeros 4096

pub others_are : (bytes : List ℕ) → are_zeros bytes ≡ false → bytes ≢ zero_block
others_are bytes is same = let both : true ≡ false = sym block_zeros ∙ sym (ap are_zeros same) ∙ is in cc

zeros_are : (bytes : List ℕ) → are_zeros bytes ≡ true → bytes ≡ replicate (length bytes) 0
zeros_are [] is = refl
zeros_are (b ∷ bytes) is =
    let both = and_parts (b == 0) (are_zeros bytes) is in
    let first = eqb-true b 0 both.0 in
    rw first (ap (λ bs. 0 ∷ bs) (zeros_are bytes both.1))

-- a whole block whose bytes are zeros
pub zeros_of : (bytes : List ℕ) → length bytes ≡ 4096 → are_zeros bytes ≡ true → bytes ≡ zero_block
unfolding zero_block
zeros_of bytes size is = zeros_are bytes is ∙ ap (λ n. replicate n 0) size
