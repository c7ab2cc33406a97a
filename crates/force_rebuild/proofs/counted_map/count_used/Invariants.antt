use Rattle.std.proofs.Common.{◌≡◌, ◌≤◌, take}
use Rattle.audit.specs.Tallies.{used_in}
use Rattle.force_rebuild.proofs.counted_map.count_used.Given as goal

abbrev pub invariant-loop-count : goal.invariant-loop-count
invariant-loop-count l = (l.used ≡ used_in (take l.count-index l.counters)) × (l.used ≤ l.count-index)
