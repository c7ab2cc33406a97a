-- The order of the zones: the places of each zone and their list, computed, and lists that have the same zones and don't.
use Rattle.std.proofs.Common.{ℕ, ◌≡◌, ◌==◌, false, zero, suc, List, [], ◌∷◌, length, refl, ap, inl, inr, arith}
use Rattle.std.proofs.lemmas.Bool.Decides.{eqb_tells}
use Rattle.vdo_model.specs.declared.report.Placed.{Placed}
use Rattle.vdo_model.specs.ZoneOrder.{places_in, by_zone, HaveSameZones}
use Rattle.vdo_model.proofs.Example.{of_a, of_b, places}
use Rattle.vdo_model.specs.Places.{placed}

-- places_in: those of the zone, in their order, and none of another
in_zone : places_in 0 places ≡ placed (of_a 2) 0 2 ∷ placed (of_b 1) 0 1 ∷ placed (of_a 0) 0 0 ∷ []
in_zone = refl

in_other_zone : places_in 1 places ≡ placed (of_b 0) 1 0 ∷ []
in_other_zone = refl

in_no_zone : places_in 2 places ≡ []
in_no_zone = refl

-- by_zone: one zone's list behind the other's, that of zone 0 the oldest; each zone below the number, and no other
abbrev listed : List Placed
listed = placed (of_b 0) 1 0 ∷ placed (of_a 2) 0 2 ∷ placed (of_b 1) 0 1 ∷ placed (of_a 0) 0 0 ∷ []

both_zones : by_zone 2 places ≡ listed
both_zones = refl

first_zone : by_zone 1 places ≡ places_in 0 places
first_zone = refl

no_zone : by_zone 0 places ≡ []
no_zone = refl

-- HaveSameZones: the places in the order in which they were drawn, and zone by zone
same_zones : HaveSameZones places listed
same_zones zero = refl
same_zones (suc zero) = refl
same_zones (suc (suc zone)) = rw (differ 0 (suc (suc zone)) (omega arith), differ 1 (suc (suc zone)) (omega arith)) refl
  where
    differ : (a b : ℕ) → (a ≡ b → ⊥) → (a == b) ≡ false
    differ a b not = elim (eqb_tells a b) [ inl same ↦ absurd (not same.1) | inr other ↦ other.0 ]

-- each zone: one without the place of zone 1, though zone 0 is the same
zone_missing : HaveSameZones places (places_in 0 places) → ⊥
zone_missing same = let lengths = ap length (same 1) in omega (arith, lengths)

zone_missing_alone : places_in 0 places ≡ places_in 0 (places_in 0 places)
zone_missing_alone = refl

-- in its order: zone 0 turned round, though it has as many places
abbrev turned_round : List Placed
turned_round = placed (of_b 0) 1 0 ∷ placed (of_a 0) 0 0 ∷ placed (of_b 1) 0 1 ∷ placed (of_a 2) 0 2 ∷ []

other_order : HaveSameZones places turned_round → ⊥
other_order same = let newest = ap newest_place (same 0) in omega (arith, newest)
  where
    newest_place : List Placed → ℕ
    newest_place [] = 0
    newest_place (p ∷ older) = p.place

other_order_alone : (places_in 1 places ≡ places_in 1 turned_round) × (length (places_in 0 places) ≡ length (places_in 0 turned_round))
other_order_alone = (refl, refl)
