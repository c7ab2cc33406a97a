-- The text of a stream whose answers and places are noted.
use Rattle.std.specs.Prelude.{ℕ, ◌≡◌, ◌<◌, ◌≤◌, ◌+◌, List, ◌++◌, length, get_or, drop, Option, None}
use Rattle.std.proofs.Common.{sym, ◌∙◌, ap, arith}
use Rattle.blk_base.specs.declared.request.Request.{Request}
use Rattle.vdo_model.specs.declared.report.DeskLine.{DeskLine}
use Rattle.vdo_model.specs.declared.report.Placed.{Placed}
use Rattle.vdo_model.specs.DeskLog.{answer_of}
use Rattle.vdo_model.specs.Notes.{NotesPlaces}
use Rattle.stream_text.specs.Texts.{line_text, stream_text, writer}
use Rattle.stream_text.proofs.TextLaws.{stream_text-next}

-- the next request of a stream whose places are noted
pub stream_text-noted : (desk : List DeskLine) (places : List Placed) (placed : List (Option Placed)) (stream number : ℕ) (requests : List Request) (request : Request)
    → number < length requests → length requests ≤ length placed → request ≡ get_or requests number request → NotesPlaces places stream placed
    → stream_text desk places stream number (drop number requests)
    ≡ line_text (writer stream number) request (answer_of desk (writer stream number)) (get_or placed number None)
    ++ stream_text desk places stream (number + 1) (drop (number + 1) requests)
stream_text-noted desk places placed stream number requests request within room here noted =
    stream_text-next desk places stream number requests request within here
    ∙ ap (λ (place : Option Placed). line_text (writer stream number) request (answer_of desk (writer stream number)) place
    ++ stream_text desk places stream (number + 1) (drop (number + 1) requests)) (sym (noted number (omega arith)))
