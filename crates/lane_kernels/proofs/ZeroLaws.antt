-- A block whose bytes are all 0 is the block of zeros.
use Rattle.std.specs.Prelude.{ℕ, ◌≡◌, List, [], ◌∷◌, length, replicate, All, refl}
use Rattle.std.proofs.Common.{ap, ◌∙◌, subst, sym}
use Rattle.std.proofs.lemmas.List.Elements.{All-head, All-tail, All-replicate}
use Rattle.blk_base.specs.Sectors.{zero_block}

pub zeros_only : (xs : List ℕ) → All (λ byte. byte ≡ 0) xs → xs ≡ replicate (length xs) 0
zeros_only [] all = refl
zeros_only (x ∷ xs) all =
    let first = All-head (λ byte. byte ≡ 0) x xs all in
    let rest = zeros_only xs (All-tail (λ byte. byte ≡ 0) x xs all) in
    ap (λ y. y ∷ xs) first ∙ ap (λ ys. 0 ∷ ys) rest

pub All-zeros : (xs : List ℕ) → xs ≡ replicate (length xs) 0 → All (λ byte. byte ≡ 0) xs
All-zeros xs same = let P : List ℕ → Type 0 = All (λ byte. byte ≡ 0) in subst P (sym same) (All-replicate (λ byte. byte ≡ 0) (length xs) 0 refl)

pub zero_block-of : (xs : List ℕ) → length xs ≡ 4096 → All (λ byte. byte ≡ 0) xs → xs ≡ zero_block
unfolding zero_block
zero_block-of xs size all = zeros_only xs all ∙ ap (λ n. replicate n 0) size

pub All-zero_block : (xs : List ℕ) → xs ≡ zero_block → All (λ byte. byte ≡ 0) xs
unfolding zero_block
All-zero_block xs same = let P : List ℕ → Type 0 = All (λ byte. byte ≡ 0) in subst P (sym same) (All-replicate (λ byte. byte ≡ 0) 4096 0 refl)
