use Rattle.std.proofs.Common.{◌≡◌, ◌+◌, ◌≤◌, ◌++◌, length, reverse, take}
use Rattle.core_model.specs.SessionLimits.{most_requests}
use Rattle.core_reports.proofs.lists.add_places.Given as goal

abbrev pub invariant-loop-placed : goal.invariant-loop-placed
invariant-loop-placed l = length l.initial.places + length l.drawn ≤ most_requests → l.places ≡ reverse (take l.placed-index l.drawn) ++ l.initial.places
