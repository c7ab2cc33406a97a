use Rattle.std.proofs.Common.{◌≡◌}
use Rattle.part_tests.specs.declared.caches.TheConstants.{GEOMETRY}
use Rattle.part_tests.proofs.caches.count_right.Given as goal

abbrev pub invariant-loop-act : goal.invariant-loop-act
invariant-loop-act l = l.cache.geometry ≡ GEOMETRY
