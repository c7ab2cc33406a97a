-- Requests that are there have an oldest one.
use Rattle.std.proofs.Common.{◌≡◌, List, [], ◌∷◌, refl}
use Rattle.data_vio.specs.declared.items.Vio.{Vio}

pub oldest_of : (vs : List Vio) → (vs ≡ [] → ⊥) → (v : Vio) × (others : List Vio) × (vs ≡ v ∷ others)
oldest_of [] some = absurd (some refl)
oldest_of (v ∷ others) some = (v, others, refl)
