use Rattle.std.proofs.Common.{◌≡◌, List, [], length, map, reverse, take}
use Rattle.data_vio.specs.declared.logged.Logged.{Logged}
use Rattle.vdo_model.specs.Histories.{Progress, histories_of}
use Rattle.core_reports.specs.Found.{AreEntered, AreFound, AreNoted}
use Rattle.core_reports.proofs.histories.add_entries.Given as goal

abbrev pub invariant-loop-placed : goal.invariant-loop-placed
invariant-loop-placed l = (progress : Progress) (entries : List Logged) → l.initial.histories ≡ [] → AreNoted l.desk l.notes
    → AreEntered entries (map length l.notes) l.entered
    → AreFound (reverse l.desk) (map length l.notes) entries progress (reverse l.places)
    → l.histories ≡ histories_of l.requests (reverse l.desk) progress (reverse (take l.placed-index l.places))
