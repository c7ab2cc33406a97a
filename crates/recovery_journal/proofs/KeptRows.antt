-- What is true of a recovery journal at every moment: for each clause a case that it accepts, and one that breaks it alone.
use Rattle.std.proofs.Common.{zero, suc, ◌≡◌, ◌+◌, ◌^◌, ◌≤◌, [], ◌∷◌, refl, ap, arith}
use Rattle.blk_base.specs.declared.point.Point.{Point}
use Rattle.blk_base.specs.Forms.{point as watermark}
use Rattle.blk_base.proofs.Example.{maps, entry_at as at}
use Rattle.recovery_journal.specs.Kept.{AreBelow, AreRising, IsKept, rank}
use Rattle.recovery_journal.specs.Log.{IsNamed, IsNeeded}
use Rattle.recovery_journal.proofs.LogRows.{both, empty, one, the_log, two_watermarks}

-- Places: 192 in each block, of which two points each are one.
rank_is : rank 1026 ≡ 385
rank_is = refl

rising : AreRising 0 (at 1024 ∷ at 1026 ∷ []) 576
rising = (omega arith, omega arith, (omega arith, omega arith, omega arith))

-- not one place twice, none behind the last of a block, none below the first or past the end
twice : AreRising 0 (at 1024 ∷ at 1024 ∷ []) 576 → ⊥
twice (few, low, (few_too, above, end)) = omega (arith, above)

no_place : AreRising 0 (at 1408 ∷ []) 577 → ⊥
no_place (few, low, end) = omega (arith, few)

too_low : AreRising 385 (at 1024 ∷ []) 576 → ⊥
too_low (few, low, end) = omega (arith, low)

too_high : AreRising 0 (at 1536 ∷ []) 576 → ⊥
too_high (few, low, end) = omega (arith, end)

below : AreBelow the_log 1026
below = two_watermarks (λ m. m.0 ≤ 1026) (watermark 1026) (watermark 1024) (omega arith) (omega arith)

not_below : AreBelow the_log 1025 → ⊥
not_below all = let first = all 0 (watermark 0) (omega arith) in omega (arith, first)

-- All of it.

kept : IsKept the_log
kept = record {
  zones = omega arith;
  size = omega arith;
  first = omega arith;
  number = omega arith;
  number_filling = λ some. omega arith;
  rising = rising;
  named = both IsNamed (at 1024) (at 1026) (omega arith) (omega arith);
  handed = omega arith;
  committed = (omega arith, omega arith);
  ring = omega arith;
  ring_filling = λ some. omega arith;
  watermarks = two_watermarks (λ m. m.0 ≤ 1536) (watermark 1026) (watermark 1024) (omega arith) (omega arith);
  unhanded = one (λ entry. AreBelow the_log entry.point.0) (at 1026) below;
  needed = both (λ entry. IsNeeded the_log.watermarks entry.point) (at 1024) (at 1026) (1, watermark 1024, omega arith, refl, omega arith) (0, watermark 1026, omega arith, refl, omega arith);
}

of_no_zone : IsKept (record empty { watermarks = [] }) → ⊥
of_no_zone is = let some = is.zones in omega (arith, some)

too_large : IsKept (record empty { size = 1025 }) → ⊥
too_large is = let size = is.size in omega (arith, size)

from_nothing : IsKept (record empty { sequence = 1; committed = 0; watermarks = watermark 512 ∷ [] }) → ⊥
from_nothing is = let first = is.first in omega (arith, first)

past_the_end : IsKept (record empty { sequence = 2 ^ 55 + 1; committed = 2 ^ 55 + 1 }) → ⊥
past_the_end is = let number = is.number in omega (arith, number)

filled_at_the_end : IsKept (record empty { sequence = 2 ^ 55; committed = 2 ^ 55; filling = maps 87 ∷ [] }) → ⊥
filled_at_the_end is = let number = is.number_filling (omega arith) in omega (arith, number)

one_place_twice : IsKept (record empty { entries = at 1024 ∷ at 1024 ∷ []; watermarks = watermark 1024 ∷ [] }) → ⊥
one_place_twice is = twice is.rising

of_no_block : IsKept (record empty { entries = at 0 ∷ []; watermarks = watermark 0 ∷ [] }) → ⊥
of_no_block is = let named = is.named 0 (at 0) (omega arith) in omega (arith, named)

more_handed : IsKept (record empty { handed = 1 }) → ⊥
more_handed is = let handed = is.handed in omega (arith, handed)

committed_early : IsKept (record empty { committed = 4 }) → ⊥
committed_early is = let committed = is.committed in omega (arith, committed)

two_written : IsKept (record empty { committed = 1 }) → ⊥
two_written is = let committed = is.committed in omega (arith, committed)

no_ring : IsKept (record empty { size = 0 }) → ⊥
no_ring is = let ring = is.ring in omega (arith, ring)

filled_over : IsKept (record empty { size = 1; filling = maps 87 ∷ [] }) → ⊥
filled_over is = let ring = is.ring_filling (omega arith) in omega (arith, ring)

watermark_ahead : IsKept (record empty { watermarks = watermark 1537 ∷ [] }) → ⊥
watermark_ahead is = let low = is.watermarks 0 (watermark 0) (omega arith) in omega (arith, low)

watermark_past_unhanded : IsKept (record the_log { handed = 0 }) → ⊥
watermark_past_unhanded is = let low = is.unhanded 0 (at 0) (omega arith) 0 (watermark 0) (omega arith) in omega (arith, low)

not_needed_any_more : IsKept (record the_log { watermarks = watermark 1026 ∷ [] }) → ⊥
not_needed_any_more is = of_needed (is.needed 0 (at 0) (omega arith))
  where
    of_needed : IsNeeded (watermark 1026 ∷ []) (watermark 1024) → ⊥
    of_needed (zero, x, inside, same, low) = let point = ap (λ (p : Point). p.0) same in omega (arith, point, low)
    of_needed (suc k, x, inside, same, low) = omega (arith, inside)
