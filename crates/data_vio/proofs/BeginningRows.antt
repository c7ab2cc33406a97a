-- How a request begins to be under way: what the clause accepts, and what breaks it.
use Rattle.std.proofs.Common.{ℕ, ◌≡◌, ◌≢◌, ◌∷◌, List, [], ap, refl, arith, length}
use Rattle.blk_base.specs.declared.place.ZoneId.TheVariants as id
use Rattle.data_vio.specs.declared.begun.Begun.{Begun}
use Rattle.data_vio.specs.declared.items.Asks.TheVariants.{Write}
use Rattle.data_vio.specs.declared.items.Phase.TheVariants.{Arrive}
use Rattle.data_vio.specs.declared.items.Vio.{Vio}
use Rattle.data_vio.specs.declared.sizes.Sizes.{Sizes}
use Rattle.data_vio.specs.Beginnings.{under_way}
use Rattle.data_vio.specs.Vios.{begun_vio}

-- a write of stream 1 for address 5, that arrives in this zone
abbrev a_write : ℕ → Begun
a_write zone = record { request = record { stream = 1; number = 7 }; asks = Write; at = record { 0 = 5 }; home = id.Logical zone; phase = Arrive }

-- under_way: in the zone of its address it is what the model begins with, and has its bytes; but not other bytes
begins : (sizes : Sizes) (bytes : List ℕ) (zone : ℕ)
    → (begun_vio sizes (record { stream = 1; number = 7 }) Write (record { 0 = 5 }) bytes).home ≡ id.Logical zone
    → under_way (a_write zone) bytes ≡ begun_vio sizes (record { stream = 1; number = 7 }) Write (record { 0 = 5 }) bytes
begins sizes bytes zone home = rw home refl

other_bytes : under_way (a_write 0) (7 ∷ []) ≢ under_way (a_write 0) []
other_bytes = λ same. let lengths = ap (λ (v : Vio). length v.bytes) same in omega (arith, lengths)
