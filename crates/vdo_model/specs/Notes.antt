-- Where the answers of one stream's requests stand, so that each is found and not searched.
use Rattle.std.specs.Prelude.{ℕ, ◌≡◌, ◌<◌, List, length, get_or, slice_get, Option, Some, None}
use Rattle.blk_base.specs.declared.request.Answer.{Answer as Reply}
use Rattle.blk_base.specs.declared.request.Writer.{Writer}
use Rattle.blk_base.specs.Forms.{writer}
use Rattle.vdo_model.specs.declared.report.DeskLine.{DeskLine}
use Rattle.vdo_model.specs.declared.report.DeskLine.TheVariants.{Answer}
use Rattle.vdo_model.specs.declared.report.Placed.{Placed}
use Rattle.vdo_model.specs.DeskLog.{answer_of}
use Rattle.vdo_model.specs.Places.{place_of}

-- the line of this number, from 0, answers a request, and nothing answers it later
pub record IsNewestAnswer (lines older : List DeskLine) (w : Writer) (at : ℕ) : Type 0 where
  pub by : Writer
  pub answer : Reply
  pub there : slice_get lines at ≡ Some (Answer by answer)
  pub newest : answer_of older w ≡ Some answer

-- what is noted of a request among these lines, of which only the older ones were looked at
abbrev pub NotesAnswer : List DeskLine → List DeskLine → Writer → Option ℕ → Type 0
NotesAnswer lines older w None = answer_of older w ≡ None
NotesAnswer lines older w (Some at) = IsNewestAnswer lines older w at

-- each note of a stream is right
abbrev pub NotesAnswers : List DeskLine → List DeskLine → ℕ → List (Option ℕ) → Type 0
NotesAnswers lines older stream notes = (n : ℕ) → n < length notes → NotesAnswer lines older (writer stream n) (get_or notes n None)

-- each request of a stream has its place noted
abbrev pub NotesPlaces : List Placed → ℕ → List (Option Placed) → Type 0
NotesPlaces older stream notes = (n : ℕ) → n < length notes → get_or notes n None ≡ place_of older (writer stream n)
