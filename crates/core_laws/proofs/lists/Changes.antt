-- The requests that change their block: writes and discards.
use Rattle.std.proofs.Common.{◌≡◌, ℕ, Some, List, refl}
use Rattle.core_laws.proofs.Common.{Asks, IsChange, Lba, Mapping, MapsTo, Request, address_of, asked}
use Rattle.blk_base.specs.declared.request.Request.TheVariants as request
use Rattle.data_vio.specs.declared.items.Asks.TheVariants.{Read, Write, Discard, Flush}

-- a request of the script that changes its block
abbrev pub Changes : Request → Type 0
Changes (request.Write at bytes fua) = Unit {0}
Changes (request.Discard at) = Unit {0}
Changes other = ⊥

pub changes_asked : (q : Asks) (at : Lba) (bytes : List ℕ) → IsChange q → Changes (asked q at bytes)
changes_asked Write at bytes is = tt
changes_asked Discard at bytes is = tt
changes_asked Read at bytes is = absurd is
changes_asked Flush at bytes is = absurd is

-- its address
pub change_address : (q : Asks) (at : Lba) (bytes : List ℕ) → IsChange q → address_of (asked q at bytes) ≡ Some at.0
change_address Write at bytes is = refl
change_address Discard at bytes is = refl
change_address Read at bytes is = absurd is
change_address Flush at bytes is = absurd is

-- what maps its address to something changes it
pub maps_change : (q : Asks) (bytes : List ℕ) (m : Mapping) → MapsTo q bytes m → IsChange q
maps_change Write bytes m maps = tt
maps_change Discard bytes m maps = tt
maps_change Read bytes m maps = absurd maps
maps_change Flush bytes m maps = absurd maps
