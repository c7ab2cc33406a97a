use Rattle.std.proofs.Common.{◌≡◌, take}
use Rattle.session_opening.proofs.counts.counters_of.Given as goal

abbrev pub invariant-loop-count : goal.invariant-loop-count
invariant-loop-count l = l.counters.items ≡ take l.count-index l.counts
