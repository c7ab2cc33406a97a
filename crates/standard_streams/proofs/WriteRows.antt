-- Small cases that each clause on a stream accepts, and ones that it refuses.
use Rattle.std.proofs.Common.{ℕ, zero, suc, ◌≡◌, Some, None, Option, List, [], ◌∷◌, take, refl, sym}
use Rattle.standard_streams.specs.Writes.{AppendsPart}

-- A first part of a text, and nothing that it doesn't begin with; of a stream whose bytes aren't known, anything.
part_of_text : AppendsPart (Some (1 ∷ [])) (Some (1 ∷ 7 ∷ [])) (7 ∷ 8 ∷ [])
part_of_text = (1, refl)

other_text : (n : ℕ) → take {A = ℕ} n (7 ∷ 8 ∷ []) ≡ 8 ∷ [] → ⊥
other_text zero same = absurd (cc)
other_text (suc n) same = absurd (cc)

not_part_of_text : AppendsPart (Some []) (Some (8 ∷ [])) (7 ∷ 8 ∷ []) → ⊥
not_part_of_text part = other_text part.0 (sym part.1)

unknown_part : (new : Option (List ℕ)) → AppendsPart None new (7 ∷ [])
unknown_part new = (0, tt)
