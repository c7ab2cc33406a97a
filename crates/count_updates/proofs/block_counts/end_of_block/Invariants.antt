use Rattle.std.proofs.Common.{◌≤◌, ◌<◌, get_or, ℕ}
use Rattle.blk_base.specs.declared.journal_entry.Update.{Update}
use Rattle.count_updates.proofs.block_counts.end_of_block.Given as goal

abbrev pub invariant-loop-i : goal.invariant-loop-i
invariant-loop-i l = (k : ℕ) (d : Update) → l.from ≤ k → k < l.i → (get_or l.updates k d).at.0 ≤ l.at.0
