-- What is true of the fields of a zone at every moment: of each clause fields that it accepts, and fields that break it alone.
use Rattle.std.specs.Prelude.{◌≡◌}
use Rattle.std.proofs.Common.{arith}
use Rattle.slab_counts.specs.Counts.{HasNoFree}
use Rattle.zone_counts.specs.Viewed.{IsKept, zone_of}
use Rattle.zone_counts.specs.Zone.{IsZone, slab_at}
use Rattle.zone_counts.specs.declared.zone.ZoneCounts.TheInside.{Inside}

-- no slab is before the first
at_first : (s : Inside) → IsZone (zone_of s) → s.cursor ≡ 0 → IsKept s
at_first s is cursor = record { is = is; below = λ k below. absurd (omega (arith, below, cursor)) }

-- is
of_another_zone : (s : Inside) → s.zone ≡ 1 → s.zones ≡ 1 → IsKept s → ⊥
of_another_zone s zone zones kept = let number = kept.is.slabs.number in omega (arith, number, zone, zones)

-- below
marked_behind_a_free_slab : (s : Inside) → (HasNoFree (slab_at s.slabs.items 0) → ⊥) → s.cursor ≡ 1 → IsKept s → ⊥
marked_behind_a_free_slab s free cursor kept = free (kept.below 0 (omega (arith, cursor)))
