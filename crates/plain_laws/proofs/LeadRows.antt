-- Rows that pin how calls lead from one state to another: the states are numbers, and a call adds one.
use Rattle.std.proofs.Common.{ℕ, ◌≡◌, ◌+◌, [], ◌∷◌, refl, arith}
use Rattle.plain_laws.specs.Leads.{LeadsBy}

abbrev Adds : ℕ → ℕ → ℕ → Type 0
Adds call old new = new ≡ old + call

-- no call
stays : LeadsBy Adds 5 [] 5
stays = refl

stays-not_elsewhere : LeadsBy Adds 5 [] 6 → ⊥
stays-not_elsewhere lead = omega (arith, lead)

-- the newest call comes last
leads : LeadsBy Adds 5 (2 ∷ 1 ∷ []) 8
leads = (6, (5, refl, refl), refl)

leads-not_otherwise : LeadsBy Adds 5 (2 ∷ 1 ∷ []) 9 → ⊥
leads-not_otherwise (middle, (first, same, older), newer) = omega (arith, same, older, newer)
