-- The end of a run, which is more than a stop: of what was answered Ok nothing is lost, whether or not a flush covers it.
use Rattle.std.specs.Prelude.{ℕ, ◌≡◌, ◌<◌, ◌≤◌, ◌++◌, true, false, List, ◌∷◌, length}
use Rattle.disk_model.specs.declared.call.Call.{Call}
use Rattle.disk_model.specs.declared.call.Call.TheVariants.{Flush}
use Rattle.disk_model.specs.Images.{IsImage}
use Rattle.disk_model.specs.Log.{Blocks}
use Rattle.vdo_model.specs.declared.report.HistoryEntry.{HistoryEntry}
use Rattle.vdo_model.specs.declared.report.RunReport.{RunReport}
use Rattle.vdo_model.specs.Histories.{history_of}
use Rattle.vdo_model.specs.LastParts.{last_part}
use Rattle.vdo_model.specs.Scripts.{Script}
use Rattle.vdo_model.specs.Stops.{MayLast, last_value}

-- An address with this history may have this value after the end: that of an entry of the history, given by the history up to
-- it, which is settled or unsettled and no older than the last settled one.
pub record MayRemain (script : Script) (history : List HistoryEntry) (opening value : List ℕ) : Type 0 where
  pub newer : List HistoryEntry
  pub shown : List HistoryEntry
  pub part : history ≡ newer ++ shown
  pub lasts : MayLast shown
  pub settled : length (last_part false history) ≤ length shown
  pub value_is : value ≡ last_value script opening shown

-- Behind the end of a run one flush is enough: each image that a stop may leave then has values that each address below the
-- logical size may have after the end. `now` is the whole log of the device at the end.
abbrev pub EndsRight : (Blocks → (ℕ → List ℕ) → Type 0) → Blocks → List Call → ℕ → (ℕ → List ℕ) → RunReport → Type 0
EndsRight HasValues blocks now logical opening report =
    (image : Blocks) → IsImage blocks (Flush true ∷ now) image
    → (values : ℕ → List ℕ) × HasValues image values
    × ((a : ℕ) → a < logical → MayRemain report.requests (history_of report.histories a) (opening a) (values a))
