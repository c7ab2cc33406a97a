-- Zones that are there have one number each, below the count.
use Rattle.std.proofs.Common.{◌≡◌, ℕ, zero, suc, ◌<◌, length, length-append, refl, ap, arith}
use Rattle.core_laws.proofs.Common.{IsZone, Sizes, ZoneId, logical_zones, notified, notified_zones, physical_zones, zone_count, zone_number}
use Rattle.blk_base.specs.declared.place.ZoneId.TheVariants as id

pub number_below : (sizes : Sizes) (name : ZoneId) → IsZone sizes name → zone_number sizes name < zone_count sizes
number_below sizes (id.Logical n) is = omega (arith, is)
number_below sizes (id.Physical n) is = omega (arith, is)
number_below sizes other is = is

pub number_once : (sizes : Sizes) (a b : ZoneId) → IsZone sizes a → IsZone sizes b → zone_number sizes a ≡ zone_number sizes b → a ≡ b
number_once sizes (id.Logical m) (id.Logical n) here there same = ap (λ k. id.Logical k) (omega (arith, same))
number_once sizes (id.Physical m) (id.Physical n) here there same = ap (λ k. id.Physical k) (omega (arith, same))
number_once sizes a b here there same = grind (arith, here, there, same)

-- as many are notified of a stop as are counted
logical_count : (n : ℕ) → length (logical_zones n) ≡ n
logical_count zero = refl
logical_count (suc n) = ap suc (logical_count n)

physical_count : (n : ℕ) → length (physical_zones n) ≡ n
physical_count zero = refl
physical_count (suc n) = ap suc (physical_count n)

pub notified_count : (sizes : Sizes) → length (notified sizes) ≡ notified_zones sizes
notified_count sizes =
    let logical = logical_count sizes.zones in
    let physical = physical_count sizes.physical in
    let both = length-append (physical_zones sizes.physical) (logical_zones sizes.zones) in
    omega (arith, logical, physical, both)
