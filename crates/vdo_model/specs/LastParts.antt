-- The last entry of a history that a stop may show.
use Rattle.std.specs.Prelude.{Bool, true, false, List, [], ◌∷◌, if◌then◌else◌}
use Rattle.vdo_model.specs.declared.report.HistoryEntry.{HistoryEntry}
use Rattle.vdo_model.specs.declared.report.Mark.{Mark}
use Rattle.vdo_model.specs.declared.report.Mark.TheVariants.{Settled, Unsettled, Refused}

-- whether an entry lasts: a settled one does, and an unsettled one where these count
abbrev pub is_lasting : Bool → Mark → Bool
is_lasting unsettled Settled = true
is_lasting unsettled Unsettled = unsettled
is_lasting unsettled Refused = false

-- the history from its last such entry back
abbrev pub last_part : Bool → List HistoryEntry → List HistoryEntry
last_part unsettled [] = []
last_part unsettled (entry ∷ older) = if is_lasting unsettled entry.mark then entry ∷ older else last_part unsettled older
