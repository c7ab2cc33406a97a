use Rattle.std.proofs.Common.{◌≡◌, take}
use Rattle.force_rebuild.proofs.counted_map.narrowed.Given as goal

abbrev pub invariant-loop-count : goal.invariant-loop-count
invariant-loop-count l = l.counters.items ≡ take l.count-index l.mapped
