use Rattle.std.proofs.Common.{ℕ, List, [], reverse, take}
use Rattle.core_reports.specs.Found.{AreEntered}
use Rattle.core_reports.proofs.entered.note_entries.Given as goal

abbrev pub invariant-loop-logged : goal.invariant-loop-logged
invariant-loop-logged l = (room : List ℕ) → AreEntered [] room l.initial.entered → AreEntered (reverse (take l.logged-index l.entries)) room l.entered
