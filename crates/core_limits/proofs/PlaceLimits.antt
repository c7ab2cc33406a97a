-- How many places are drawn: each request of the script has one at most.
use Rattle.std.proofs.Common.{◌≡◌, ℕ, ◌≤◌, IsNone, Some, List, [], ◌∷◌, length, refl, inl, inr, arith}
use Rattle.core_laws.proofs.Common.{AllByRecursion, AreDrawn, DeskLine, Placed, Script, Writer, eqb_tells, place_of, same_tells, some_is}
use Rattle.core_model.specs.SessionLimits.{requests_in}
use Rattle.vdo_model.specs.ZoneOrder.{places_in}
use Rattle.core_limits.proofs.DeskLimits.{asked_inside, requests_of}
use Rattle.core_limits.proofs.StreamSums.{Apart, Inside, named, names_few, over_script}

-- who drew a place
abbrev drawer : Placed → Writer
drawer p = p.request

-- a request without a place drew none of these
none_drawn : (ps : List Placed) (w : Writer) → IsNone (place_of ps w) → named drawer w ps ≡ 0
none_drawn [] w none = refl
none_drawn (p ∷ ps) w none = elim (same_tells p.request w) [
  | inl same ↦ let one : IsNone (Some p) = rw same.0 at none in absurd cc
  | inr other ↦ let rest = none_drawn ps w (rw other.0 at none) in rw other.0 (omega (arith, rest))
]

module _ (zones logical : ℕ) (script : Script) (desk : List DeskLine) where
  -- each request drew one place, and is one of the script
  drawn_apart : (ps : List Placed) → AreDrawn zones logical script desk ps → Apart drawer ps
  drawn_apart [] drawn = tt
  drawn_apart (p ∷ ps) drawn = (none_drawn ps p.request drawn.0.once, drawn_apart ps drawn.1)

  drawn_inside : (ps : List Placed) → AreDrawn zones logical script desk ps → AllByRecursion (λ p. Inside (length script) (requests_of script) (drawer p)) ps
  drawn_inside [] drawn = tt
  drawn_inside (p ∷ ps) drawn = (asked_inside script p.request (some_is _ _ drawn.0.zone.2), drawn_inside ps drawn.1)

  -- no more places are drawn than the script has requests
  pub places_few : (ps : List Placed) → AreDrawn zones logical script desk ps → length ps ≤ requests_in script
  places_few ps drawn =
      let a = names_few drawer (length script) (requests_of script) ps (drawn_apart ps drawn) (drawn_inside ps drawn) in
      omega (arith, a, over_script script)

-- those of one zone are no more
pub in_zone_few : (zone : ℕ) (ps : List Placed) → length (places_in zone ps) ≤ length ps
in_zone_few zone [] = omega arith
in_zone_few zone (p ∷ ps) = elim (eqb_tells p.zone zone) [
  | inl same ↦ rw same.0 (omega (arith, in_zone_few zone ps))
  | inr other ↦ rw other.0 (omega (arith, in_zone_few zone ps))
]
