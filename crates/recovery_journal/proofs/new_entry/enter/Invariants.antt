use Rattle.std.proofs.Common.{◌≡◌, ◌++◌, take}
use Rattle.std.specs.VecDeque.{deque_capacity}
use Rattle.recovery_journal.specs.Log.{placed}
use Rattle.recovery_journal.proofs.new_entry.enter.Given as goal

abbrev pub invariant-loop-number : goal.invariant-loop-number
invariant-loop-number l = record {
  items : l.entries.items ≡ l.initial.entries.items ++ placed l.sequence 0 (take l.number l.filling);
  capacity : deque_capacity l.entries ≡ deque_capacity l.initial.entries;
}
