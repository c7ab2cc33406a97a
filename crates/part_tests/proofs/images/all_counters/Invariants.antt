use Rattle.std.proofs.Common.{◌≡◌, ◌≤◌, length, All}
use Rattle.part_tests.proofs.images.all_counters.Given as goal

abbrev pub invariant-loop-k : goal.invariant-loop-k
invariant-loop-k l = record {
  count : length l.counters.items ≡ l.k;
  limit : All (λ counter. counter ≤ 254) l.counters.items;
}
