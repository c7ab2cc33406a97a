-- The addresses of a script.
use Rattle.std.specs.Prelude.{ℕ, ◌≡◌, ◌<◌, ◌↔◌, Option, Some, None, List, Contains, nat_lt, if◌then◌else◌}
use Rattle.std.specs.List.{AllPairs}
use Rattle.blk_base.specs.declared.place.Lba.{Lba}
use Rattle.blk_base.specs.declared.request.Request.{Request}
use Rattle.vdo_model.specs.Scripts.{Script, address_of}

-- an address, where it is below this number
abbrev pub where_below : ℕ → Option ℕ → Option ℕ
where_below logical (Some address) = if nat_lt address logical then Some address else None
where_below logical None = None

-- the address of a request, where it has one below the logical size
abbrev pub address_below : ℕ → Request → Option ℕ
address_below logical request = where_below logical (address_of request)

-- the address with this number
-- a request of the script has this address, which is below the logical size
abbrev pub IsNamed : Script → ℕ → ℕ → Type 0
IsNamed script logical address =
    (requests : List Request) × (request : Request) × Contains script requests × Contains requests request × (address_of request ≡ Some address) × (address < logical)

-- these are all of them, rising, and each stands once
pub record AreAddresses (script : Script) (logical : ℕ) (addresses : List Lba) : Type 0 where
  pub rising : AllPairs (λ (first second : Lba). first.0 < second.0) addresses
  pub each : (at : Lba) → Contains addresses at ↔ IsNamed script logical at.0
