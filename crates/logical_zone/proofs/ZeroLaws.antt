-- Whether a block has zeros alone, by its bytes.
use Rattle.std.proofs.Common.{◌≡◌, ◌==◌, ◌↔◌, ℕ, suc, Bool, true, false, IsTrue, List, [], ◌∷◌, refl, sym, inl, inr, arith}
use Rattle.std.proofs.lemmas.Bool.{and_parts, cases_Bool, eq-eqb, eqb-true}
use Rattle.std.proofs.lemmas.List.Elements.{All-from_recursion}
use Rattle.std.specs.List.{All, AllByRecursion}
use Rattle.core_model.specs.LogicalRules.{are_zeros}

are_all : (bytes : List ℕ) → All (λ byte. byte ≡ 0) bytes → are_zeros bytes ≡ true
are_all [] all = refl
are_all (b ∷ bytes) all = rw (eq-eqb b 0 (all 0 0 (omega arith)), are_all bytes (λ n d below. all (suc n) d (omega (arith, below)))) refl

each_is : (bytes : List ℕ) → are_zeros bytes ≡ true → AllByRecursion (λ byte. byte ≡ 0) bytes
each_is [] is = tt
each_is (b ∷ bytes) is = let both = and_parts (b == 0) (are_zeros bytes) is in (eqb-true b 0 both.0, each_is bytes both.1)

pub zeros_tell : (answer : Bool) (bytes : List ℕ) → (IsTrue answer ↔ All (λ byte. byte ≡ 0) bytes) → answer ≡ are_zeros bytes
zeros_tell true bytes tells = sym (are_all bytes (tells.0 refl))
zeros_tell false bytes tells = elim (cases_Bool (are_zeros bytes)) [
  | inl all ↦ absurd (let is = tells.1 (All-from_recursion (λ byte. byte ≡ 0) bytes (each_is bytes all)) in cc)
  | inr some ↦ sym some
]
