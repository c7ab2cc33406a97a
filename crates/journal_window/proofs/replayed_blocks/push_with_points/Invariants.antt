use Rattle.std.proofs.Common.{◌≡◌, ◌++◌, take}
use Rattle.image_model.specs.Windows.{with_points}
use Rattle.journal_window.proofs.replayed_blocks.push_with_points.Given as goal

abbrev pub invariant-loop-number : goal.invariant-loop-number
invariant-loop-number l = l.entries.items ≡ l.initial.entries.items ++ with_points l.sequence 0 (take l.number l.block)
