-- A number of one byte is that byte.
use Rattle.std.proofs.Common.{ℕ, ◌≡◌, ◌∙◌, List, [], ◌∷◌, get_or, drop, refl, ap, arith}
use Rattle.std.proofs.lemmas.List.{get_or-drop}
use Rattle.byteorder.specs.Endian.{little_number}
use Rattle.byte_fields.specs.Fields.{number_at}

first_byte : (bytes : List ℕ) → little_number 1 bytes ≡ get_or bytes 0 0
first_byte [] = refl
first_byte (x ∷ rest) = omega arith

pub byte_at : (at : ℕ) (bytes : List ℕ) → number_at 1 at bytes ≡ get_or bytes at 0
unfolding number_at
byte_at at bytes = first_byte (drop at bytes) ∙ get_or-drop at bytes 0 0 ∙ ap (λ (n : ℕ). get_or bytes n 0) (omega arith)
