-- The places of several zones, whichever zone is listed first.
use Rattle.std.specs.Prelude.{ℕ, zero, suc, ◌≡◌, ◌==◌, List, [], ◌∷◌, ◌++◌, if◌then◌else◌}
use Rattle.vdo_model.specs.declared.report.Placed.{Placed}

-- the places of one zone
abbrev pub places_in : ℕ → List Placed → List Placed
places_in zone [] = []
places_in zone (p ∷ older) = if p.zone == zone then p ∷ places_in zone older else places_in zone older

-- the places of the zones below this number, one zone's list behind the other's; that of zone 0 is the oldest
abbrev pub by_zone : ℕ → List Placed → List Placed
by_zone zero places = []
by_zone (suc zone) places = places_in zone places ++ by_zone zone places

-- two lists have the same places in each zone, each in its order
abbrev pub HaveSameZones : List Placed → List Placed → Type 0
HaveSameZones places others = (zone : ℕ) → places_in zone places ≡ places_in zone others
