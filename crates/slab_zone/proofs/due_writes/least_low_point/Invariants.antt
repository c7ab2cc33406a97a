use Rattle.slab_zone.proofs.LowLaws.{IsLeastBefore}
use Rattle.slab_zone.proofs.due_writes.least_low_point.Given as goal

abbrev pub invariant-loop-place : goal.invariant-loop-place
invariant-loop-place l = IsLeastBefore l.writes l.place l.least
