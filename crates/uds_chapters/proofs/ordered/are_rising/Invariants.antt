use Rattle.std.proofs.Common.{ℕ, suc, ◌<◌, length, get_or}
use Rattle.uds_chapters.specs.declared.entry.Record.{Record}
use Rattle.uds_chapters.specs.Names.{IsBelow}
use Rattle.uds_chapters.proofs.ordered.are_rising.Given as goal

-- each record in front is below the next one
abbrev pub invariant-loop-next : goal.invariant-loop-next
invariant-loop-next l = (k : ℕ) (d : Record) → suc k < l.next → suc k < length l.records → IsBelow (get_or l.records k d) (get_or l.records (suc k) d)
