use Rattle.std.proofs.Common.{◌≡◌, ◌≤◌, length}
use Rattle.part_tests.proofs.recovery.write_blocks.Given as goal

abbrev pub invariant-loop-number : goal.invariant-loop-number
invariant-loop-number l = record {
  sequence : l.journal.sequence ≤ l.number;
  zones : length l.journal.watermarks ≡ 1;
}
