use Rattle.std.proofs.Common.{◌≡◌, ◌+◌, ◌<◌, ◌≤◌}
use Rattle.part_tests.specs.declared.updates.TheConstants.{SMALL}
use Rattle.part_tests.proofs.updates.fill.Given as goal

abbrev pub invariant-loop-k : goal.invariant-loop-k
invariant-loop-k l = record {
  geometry : l.journal.geometry ≡ SMALL;
  slab : l.journal.slab ≡ 0;
  last : l.journal.last.0 < 512 + l.k;
  taken : l.taken ≤ l.k;
}
