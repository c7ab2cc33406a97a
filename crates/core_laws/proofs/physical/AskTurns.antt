-- The physical zones that a request asks in turn: as many turns as there are zones come to each.
use Rattle.std.proofs.Common.{◌≡◌, ℕ, zero, suc, ◌+◌, ◌-◌, ◌*◌, ◌/◌, ◌%◌, ◌<◌, ◌≤◌, List, [], ◌∷◌, ◌++◌, length, Contains, refl, ap, sym, ◌∙◌, subst, inl, inr, arith}
use Rattle.std.proofs.Math.Nat.{add-mul-mod_self_right, mod-eq_of_lt, mod-lt}
use Rattle.std.proofs.lemmas.Nat.{div-add-mod'}
use Rattle.core_laws.proofs.Common.{Sizes, cases_lt}
use Rattle.core_model.specs.PhysicalFacts.{AreInTurn}
use Rattle.slab_counts.specs.declared.tickets.Ticket.{Ticket}

-- some turn comes to each zone
pub covers : (count turn zone : ℕ) → zone < count → (i : ℕ) × (i < count) × ((i + turn) % count ≡ zone)
covers count turn zone inside = elim (cases_lt zone rest) [
  | inl above ↦
      let before : zone + count - rest + turn ≡ zone + (turn / count + 1) * count = omega (arith, parts, above, below, more) in
      (zone + count - rest, omega (arith, above, below, inside), ap (λ (n : ℕ). n % count) before ∙ add-mul-mod_self_right zone (turn / count + 1) count ∙ mod-eq_of_lt inside)
  | inr least ↦
      let before : zone - rest + turn ≡ zone + turn / count * count = omega (arith, parts, least) in
      (zone - rest, omega (arith, inside), ap (λ (n : ℕ). n % count) before ∙ add-mul-mod_self_right zone (turn / count) count ∙ mod-eq_of_lt inside)
]
  where
    rest : ℕ
    rest = turn % count

    below : rest < count
    below = mod-lt turn (omega (arith, inside))

    parts : turn / count * count + rest ≡ turn
    parts = div-add-mod' turn count

    more : (turn / count + 1) * count ≡ turn / count * count + count
    more = omega arith

module _ (sizes : Sizes) where
  -- the tickets of a row of turns, by their places in it
  pub in_turn_at : (turn : ℕ) (tickets : List Ticket) (i : ℕ) → AreInTurn sizes turn tickets → i < length tickets → (k : Ticket) × Contains tickets k × (k.zone ≡ (i + turn) % sizes.physical)
  in_turn_at turn [] i all below = absurd (omega (arith, below))
  in_turn_at turn (k ∷ others) zero all below = (k, (0, omega arith, refl), all.0 ∙ ap (λ (n : ℕ). n % sizes.physical) (let same : turn ≡ 0 + turn = omega arith in same))
  in_turn_at turn (k ∷ others) (suc i) all below =
      let (j, has, is) = in_turn_at (suc turn) others i all.1 (omega (arith, below)) in
      (j, (suc has.0, omega (arith, has.1), has.2), is ∙ ap (λ (n : ℕ). n % sizes.physical) (let same : i + suc turn ≡ suc i + turn = omega arith in same))

  -- as many as there are zones have one of each
  pub of_each_zone : (turn : ℕ) (tickets : List Ticket) → AreInTurn sizes turn tickets → sizes.physical ≤ length tickets → (zone : ℕ) → zone < sizes.physical → (k : Ticket) × Contains tickets k × (k.zone ≡ zone)
  of_each_zone turn tickets all enough zone inside =
      let (i, below, is) = covers sizes.physical turn zone inside in
      let (k, has, at) = in_turn_at turn tickets i all (omega (arith, below, enough)) in
      (k, has, at ∙ is)

  -- one more in its turn
  pub turn_more : (turn : ℕ) (tickets : List Ticket) (k : Ticket) → AreInTurn sizes turn tickets → k.zone ≡ (length tickets + turn) % sizes.physical → AreInTurn sizes turn (tickets ++ k ∷ [])
  turn_more turn [] k all next = (next ∙ ap (λ (n : ℕ). n % sizes.physical) (let same : 0 + turn ≡ turn = omega arith in same), tt)
  turn_more turn (j ∷ others) k all next = (all.0, turn_more (suc turn) others k all.1 (next ∙ ap (λ (n : ℕ). n % sizes.physical) (let same : suc (length others) + turn ≡ length others + suc turn = omega arith in same)))

  -- the zone of the oldest one is a zone
  pub first_inside : (turn : ℕ) (k : Ticket) (others : List Ticket) → 1 ≤ sizes.physical → AreInTurn sizes turn (k ∷ others) → k.zone < sizes.physical
  first_inside turn k others some all = let below = mod-lt turn (let more = some in omega (arith, more)) in subst (λ (n : ℕ). n < sizes.physical) (sym all.0) below
