-- Histories: the writes and discards of each address, in the order of their places. The newest stands first.
use Rattle.std.specs.Prelude.{ℕ, ◌==◌, Bool, true, false, List, [], ◌∷◌, ◌++◌, Option, Some, None, if◌then◌else◌}
use Rattle.blk_base.specs.declared.request.Request.{Request}
use Rattle.blk_base.specs.declared.request.Request.TheVariants.{Read, Write, Discard, Flush}
use Rattle.blk_base.specs.declared.request.Answer.{Answer as Reply}
use Rattle.blk_base.specs.declared.request.Answer.TheVariants as reply
use Rattle.blk_base.specs.declared.request.Writer.{Writer}
use Rattle.vdo_model.specs.declared.report.DeskLine.{DeskLine}
use Rattle.vdo_model.specs.declared.report.HistoryEntry.{HistoryEntry}
use Rattle.vdo_model.specs.declared.report.Mark.{Mark}
use Rattle.vdo_model.specs.declared.report.Mark.TheVariants.{Settled, Unsettled, Refused}
use Rattle.vdo_model.specs.declared.report.Placed.{Placed}
use Rattle.vdo_model.specs.Scripts.{Script, request_at}
use Rattle.vdo_model.specs.DeskLog.{answer_of}

-- how far each write and discard has come: whether its slot is set, and whether its journal entry was handed in
pub record Progress : Type 0 where
  pub is_set : Writer → Bool
  pub is_handed : Writer → Bool

-- the mark of a write or discard: by its answer once it has one; until then settled where its slot is set, else unsettled
-- where its journal entry was handed in
abbrev pub mark_of : Option Reply → (is_set is_handed : Bool) → Mark
mark_of (Some reply.Ok) is_set is_handed = Settled
mark_of (Some reply.Stopped) is_set true = Unsettled
mark_of None true is_handed = Settled
mark_of None false true = Unsettled
mark_of other is_set is_handed = Refused

-- what a request adds to the history of its address
abbrev pub entry_of : Option Request → Writer → Mark → List HistoryEntry
entry_of (Some (Write at block fua)) w mark = record { at = at; request = w; mark = mark } ∷ []
entry_of (Some (Discard at)) w mark = record { at = at; request = w; mark = mark } ∷ []
entry_of (Some (Read at)) w mark = []
entry_of (Some Flush) w mark = []
entry_of None w mark = []

-- the histories of all addresses: each write and discard that has a place, with its mark
abbrev pub histories_of : Script → List DeskLine → Progress → List Placed → List HistoryEntry
histories_of script desk progress [] = []
histories_of script desk progress (p ∷ older) =
    entry_of (request_at script p.request) p.request (mark_of (answer_of desk p.request) (progress.is_set p.request) (progress.is_handed p.request))
    ++ histories_of script desk progress older

-- the history of one address, behind its opening value
abbrev pub history_of : List HistoryEntry → ℕ → List HistoryEntry
history_of [] a = []
history_of (entry ∷ older) a = if entry.at.0 == a then entry ∷ history_of older a else history_of older a

abbrev pub is_settled : Mark → Bool
is_settled Settled = true
is_settled Unsettled = false
is_settled Refused = false
