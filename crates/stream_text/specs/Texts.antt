-- The text of a run's answers.
use Rattle.std.specs.Prelude.{ℕ, zero, suc, List, [], ◌∷◌, ◌++◌, codes, decimal, Option, Some, None}
use Rattle.blk_base.specs.declared.request.Request.{Request}
use Rattle.blk_base.specs.declared.request.Request.TheVariants.{Read, Write, Discard, Flush}
use Rattle.blk_base.specs.declared.request.Answer.{Answer as Reply}
use Rattle.blk_base.specs.declared.request.Answer.TheVariants.{Ok, Bytes, Range, NoSpace, Full, ReadFault, Stopped, Damaged}
use Rattle.blk_base.specs.declared.request.Writer.{Writer}
pub use Rattle.blk_base.specs.Forms.{writer}
use Rattle.vdo_model.specs.declared.report.DeskLine.{DeskLine}
use Rattle.vdo_model.specs.declared.report.Placed.{Placed}
use Rattle.vdo_model.specs.Scripts.{Script, stream_of}
use Rattle.vdo_model.specs.DeskLog.{answer_of}
use Rattle.vdo_model.specs.Places.{place_of}
use Rattle.stream_text.specs.Runs.{runs_of, runs_text}

-- what was asked for
abbrev pub request_text : Request → List ℕ
request_text (Read at) = codes "read " ++ decimal at.0
request_text (Write at block fua) = codes "write " ++ decimal at.0
request_text (Discard at) = codes "discard " ++ decimal at.0
request_text Flush = codes "flush"

-- the answer
abbrev pub answer_text : Reply → List ℕ
answer_text Ok = codes "ok"
answer_text (Bytes bytes) = runs_text (runs_of bytes)
answer_text Range = codes "range"
answer_text NoSpace = codes "no space"
answer_text Full = codes "full"
answer_text ReadFault = codes "read fault"
answer_text Stopped = codes "stopped"
answer_text Damaged = codes "damaged"

-- the place, with the space before it
abbrev pub place_text : Option Placed → List ℕ
place_text (Some p) = codes " z" ++ decimal p.zone ++ codes ":" ++ decimal p.place
place_text None = []

-- the line of a request; none where it has no answer
abbrev pub line_text : Writer → Request → Option Reply → Option Placed → List ℕ
line_text w request (Some answer) place =
    decimal w.stream ++ codes " " ++ decimal w.number ++ codes " " ++ request_text request ++ codes " " ++ answer_text answer ++ place_text place ++ codes "\n"
line_text w request None place = []

-- the lines of a stream's requests, the first of which has this number
abbrev pub stream_text : List DeskLine → List Placed → ℕ → ℕ → List Request → List ℕ
stream_text desk places stream number [] = []
stream_text desk places stream number (request ∷ requests) =
    line_text (writer stream number) request (answer_of desk (writer stream number)) (place_of places (writer stream number))
    ++ stream_text desk places stream (suc number) requests

-- the lines of the first streams
unfoldable pub streams_text : Script → List DeskLine → List Placed → ℕ → List ℕ
streams_text script desk places zero = []
streams_text script desk places (suc stream) = streams_text script desk places stream ++ stream_text desk places stream 0 (stream_of script stream)

-- the lines of the streams 0 to 15, which are all that a script may have
abbrev pub answers_text : Script → List DeskLine → List Placed → List ℕ
answers_text script desk places = streams_text script desk places 16
