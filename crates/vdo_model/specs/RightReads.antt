-- Reads are right: each gives the value of the last settled write of its address before it.
use Rattle.std.specs.Prelude.{ℕ, ◌≡◌, ◌&&◌, Bool, false, nat_lt, List, [], ◌∷◌, Option, Some, None, if◌then◌else◌}
use Rattle.blk_base.specs.declared.place.Lba.{Lba}
use Rattle.blk_base.specs.declared.request.Request.TheVariants.{Read}
use Rattle.blk_base.specs.declared.request.Answer.TheVariants.{Bytes}
use Rattle.blk_base.specs.declared.request.Writer.{Writer}
use Rattle.vdo_model.specs.declared.report.DeskLine.{DeskLine}
use Rattle.vdo_model.specs.declared.report.HistoryEntry.{HistoryEntry}
use Rattle.vdo_model.specs.declared.report.Placed.{Placed}
use Rattle.vdo_model.specs.Scripts.{Script, request_at, value_written}
use Rattle.vdo_model.specs.DeskLog.{answer_of}
use Rattle.vdo_model.specs.Places.{place_of}
use Rattle.vdo_model.specs.Histories.{history_of, is_settled}

-- the request has a place below this one
abbrev pub is_below : Option Placed → ℕ → Bool
is_below None n = false
is_below (Some p) n = nat_lt p.place n

-- the value that a history has below a place: that of its last settled entry there, or the opening value
abbrev pub value_below : Script → List Placed → List ℕ → List HistoryEntry → ℕ → List ℕ
value_below script places opening [] n = opening
value_below script places opening (entry ∷ older) n =
    if is_settled entry.mark && is_below (place_of places entry.request) n
    then value_written (request_at script entry.request)
    else value_below script places opening older n

-- each read that was answered with bytes gives that value; `opening` has the value of each address before the run
abbrev pub ReadsRight : (ℕ → List ℕ) → Script → List DeskLine → List Placed → List HistoryEntry → Type 0
ReadsRight opening script desk places histories =
    (w : Writer) (at : Lba) (bytes : List ℕ) (p : Placed)
    → request_at script w ≡ Some (Read at) → answer_of desk w ≡ Some (Bytes bytes) → place_of places w ≡ Some p
    → bytes ≡ value_below script places (opening at.0) (history_of histories at.0) p.place
