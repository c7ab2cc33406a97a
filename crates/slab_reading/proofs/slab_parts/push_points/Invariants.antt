use Rattle.slab_reading.specs.Found.{AddsPoints}
use Rattle.slab_reading.proofs.slab_parts.push_points.Given as goal

abbrev pub invariant-loop-n : goal.invariant-loop-n
invariant-loop-n l = AddsPoints l.read l.n l.initial.commits.items l.commits.items
