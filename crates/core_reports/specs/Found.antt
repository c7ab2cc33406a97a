-- The answers of a core's requests, found by notes.
use Rattle.std.specs.Prelude.{ℕ, ◌≡◌, ◌<◌, ◌≤◌, Bool, IsSome, List, [], Option, Some, false, length, get_or, map, reverse}
use Rattle.std.specs.List.{AllByRecursion}
use Rattle.blk_base.specs.declared.request.Answer.TheVariants.{Stopped}
use Rattle.blk_base.specs.declared.request.Writer.{Writer}
use Rattle.vdo_model.specs.Notes.{NotesAnswers}
use Rattle.vdo_model.specs.declared.report.DeskLine.{DeskLine}
use Rattle.vdo_model.specs.declared.report.Placed.{Placed}
use Rattle.vdo_model.specs.DeskLog.{answer_of}
use Rattle.vdo_model.specs.Histories.{Progress}
use Rattle.core_model.specs.Reports.{is_there}
use Rattle.core_model.specs.SessionLimits.{most_requests, most_streams}
use Rattle.core_model.specs.Trace.{logged_of, remappings}
use Rattle.data_vio.specs.declared.logged.Logged.{Logged}

-- each stream's answers among these lines are noted
abbrev pub AreNoted : List DeskLine → List (List (Option ℕ)) → Type 0
AreNoted lines notes = (stream : ℕ) → stream < most_streams → NotesAnswers lines (reverse lines) stream (get_or notes stream [])

-- whether the entry of a request is noted
abbrev pub entered_in : List (List Bool) → Writer → Bool
entered_in entered w = get_or (get_or entered w.stream []) w.number false

-- with room for so many requests of each stream, it is noted of each of them whether its entry is among these
pub record AreEntered (entries : List Logged) (room : List ℕ) (entered : List (List Bool)) : Type 0 where
  pub room_is : map length entered ≡ room
  pub told : (w : Writer) → w.number < get_or room w.stream 0 → entered_in entered w ≡ is_there (logged_of (remappings entries) w)

-- a request that is answered, where there is room to note so many answers of each stream
pub record IsFound (log : List DeskLine) (room : List ℕ) (w : Writer) : Type 0 where
  pub stream : w.stream < most_streams
  pub number : w.number < get_or room w.stream 0
  pub answered : IsSome (answer_of log w)

-- places that are no more than a session has requests, each of a request whose answer is found; and whether the entry of a
-- write that is answered as stopped was handed in is said by the entries that were
pub record AreFound (log : List DeskLine) (room : List ℕ) (entries : List Logged) (progress : Progress) (places : List Placed) : Type 0 where
  pub few : length places ≤ most_requests
  pub handed : (w : Writer) → answer_of log w ≡ Some Stopped → progress.is_handed w ≡ is_there (logged_of (remappings entries) w)
  pub found : AllByRecursion (λ p. IsFound log room p.request) places
