-- A right run: its desk log, places and histories agree with the script and with each other.
use Rattle.std.specs.Prelude.{ℕ, ◌≡◌, List}
use Rattle.vdo_model.specs.declared.report.DeskLine.{DeskLine}
use Rattle.vdo_model.specs.declared.report.HistoryEntry.{HistoryEntry}
use Rattle.vdo_model.specs.declared.report.Placed.{Placed}
use Rattle.vdo_model.specs.Scripts.{Script}
use Rattle.vdo_model.specs.DeskLog.{IsDeskLog, AllAnswered}
use Rattle.vdo_model.specs.Places.{ArePlaces}
use Rattle.vdo_model.specs.Histories.{Progress, histories_of}

-- a run that ended, with this many logical zones and this many requests of a stream under way at most
pub record RunRight (zones depth logical : ℕ) (progress : Progress) (script : Script) (desk : List DeskLine) (places : List Placed) (histories : List HistoryEntry) : Type 0 where
  pub desk_log : IsDeskLog depth script desk
  pub all_answered : AllAnswered script desk
  pub are_places : ArePlaces zones logical script desk places
  pub are_histories : histories ≡ histories_of script desk progress places
