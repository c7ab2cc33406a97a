use Rattle.journal_window.specs.Newest.{IsNewest}
use Rattle.journal_window.proofs.newest.find_newest.Given as goal

abbrev pub invariant-loop-slot : goal.invariant-loop-slot
invariant-loop-slot l = IsNewest l.head.geometry l.head.start l.journal l.slot l.newest
