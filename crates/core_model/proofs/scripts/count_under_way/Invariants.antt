use Rattle.std.proofs.Common.{◌≡◌, ◌≤◌, ◌+◌, ◌*◌, drop}
use Rattle.core_model.specs.SessionLimits.{most_depth, most_of_stream, most_under_way_in}
use Rattle.plain_laws.specs.Sums.{total}
use Rattle.core_model.proofs.scripts.count_under_way.Given as goal

abbrev pub invariant-loop-stream : goal.invariant-loop-stream
invariant-loop-stream l = (l.count + total most_of_stream (drop l.stream l.requests) ≡ most_under_way_in l.requests) × (l.count ≤ most_depth * l.stream)
