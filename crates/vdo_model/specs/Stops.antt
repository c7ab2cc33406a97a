-- Right after a stop: which values an address may have in an image that a stop leaves.
use Rattle.std.specs.Prelude.{ℕ, suc, ◌≡◌, ◌<◌, ◌≤◌, ◌++◌, ◌&&◌, Bool, true, false, nat_lt, List, [], ◌∷◌, length, Option, Some, None, if◌then◌else◌}
use Rattle.std.specs.List.{AllByRecursion}
use Rattle.blk_base.specs.declared.request.Answer.{Answer as Reply}
use Rattle.blk_base.specs.declared.request.Writer.{Writer}
use Rattle.disk_model.specs.declared.call.Call.{Call}
use Rattle.disk_model.specs.Images.{IsImage}
use Rattle.disk_model.specs.Log.{Blocks}
use Rattle.vdo_model.specs.declared.report.DeskLine.{DeskLine}
use Rattle.vdo_model.specs.declared.report.DeskLine.TheVariants.{Begin, Answer}
use Rattle.vdo_model.specs.declared.report.FlushMark.{FlushMark}
use Rattle.vdo_model.specs.declared.report.HistoryEntry.{HistoryEntry}
use Rattle.vdo_model.specs.declared.report.Mark.{Mark}
use Rattle.vdo_model.specs.declared.report.Mark.TheVariants.{Settled, Unsettled, Refused}
use Rattle.vdo_model.specs.declared.report.RunReport.{RunReport}
use Rattle.vdo_model.specs.FlushMarks.{successes}
use Rattle.vdo_model.specs.Scripts.{Script, request_at, value_written, same_writer}
use Rattle.vdo_model.specs.DeskLog.{begun, answer_of, before_begin}
use Rattle.vdo_model.specs.Histories.{history_of, is_settled}

-- the length of a log when so many of its calls had succeeded
abbrev pub length_at : List Call → ℕ → ℕ
length_at [] n = 0
length_at (call ∷ older) n = if nat_lt (successes older) n then suc (length older) else length_at older n

-- whether there is an answer
abbrev pub is_answered : Option Reply → Bool
is_answered None = false
is_answered (Some reply) = true

-- A flush covers a settled entry that was answered before the flush was begun.
abbrev pub is_covered : List DeskLine → FlushMark → HistoryEntry → Bool
is_covered desk mark entry = is_settled entry.mark && is_answered (answer_of (before_begin desk mark.request) entry.request)

-- the history from its last covered entry back; where there is none, the opening value is covered, and nothing stands before it
abbrev pub covered : List DeskLine → FlushMark → List HistoryEntry → List HistoryEntry
covered desk mark [] = []
covered desk mark (entry ∷ older) = if is_covered desk mark entry then entry ∷ older else covered desk mark older

-- what stands in the desk log before a request's answer
abbrev pub before_answer : List DeskLine → Writer → List DeskLine
before_answer [] w = []
before_answer (Begin v ∷ older) w = before_answer older w
before_answer (Answer v a ∷ older) w = if same_writer v w then older else before_answer older w

-- The last entry of this history is settled or unsettled; the opening value is settled.
abbrev pub MayLast : List HistoryEntry → Type 0
MayLast [] = Unit {0}
MayLast (entry ∷ older) = HasLasted entry.mark
  where
    HasLasted : Mark → Type 0
    HasLasted Settled = Unit {0}
    HasLasted Unsettled = Unit {0}
    HasLasted Refused = ⊥

-- the value of the last entry of this history
abbrev pub last_value : Script → List ℕ → List HistoryEntry → List ℕ
last_value script opening [] = opening
last_value script opening (entry ∷ older) = value_written (request_at script entry.request)

-- the request of the last entry of this history was begun before the flush was answered
abbrev pub IsBegunBefore : List DeskLine → FlushMark → List HistoryEntry → Type 0
IsBegunBefore desk mark [] = Unit {0}
IsBegunBefore desk mark (entry ∷ older) = entry.request.number < begun entry.request.stream (before_answer desk mark.request)

-- An address with this history may have this value after a stop when the log has this length: that of an entry of the
-- history, given by the history up to it. The entry is settled or unsettled; each flush marked by then covers none that
-- is later; and it was begun before the answer of each flush marked then or later.
pub record MayShow (script : Script) (desk : List DeskLine) (marks : List FlushMark) (calls : List Call) (size : ℕ) (history : List HistoryEntry) (opening value : List ℕ) : Type 0 where
  pub newer : List HistoryEntry
  pub shown : List HistoryEntry
  pub part : history ≡ newer ++ shown
  pub lasts : MayLast shown
  pub value_is : value ≡ last_value script opening shown
  pub flushed : AllByRecursion (λ mark. length_at calls mark.calls ≤ size → length (covered desk mark history) ≤ length shown) marks
  pub begun : AllByRecursion (λ mark. size ≤ length_at calls mark.calls → IsBegunBefore desk mark shown) marks

-- each address below the logical size has a value that it may have
abbrev pub ShowsRight : ℕ → (ℕ → List ℕ) → RunReport → List Call → ℕ → (ℕ → List ℕ) → Type 0
ShowsRight logical opening report calls size values =
    (a : ℕ) → a < logical → MayShow report.requests report.desk report.marks calls size (history_of report.histories a) (opening a) (values a)

-- Right after a stop: for each prefix of a run's calls and each image that a stop after it may leave, the image's values
-- are right. `blocks` and `before` are the device's opening blocks and its log before the run, `opening` the value of each
-- address then; `HasValues` says of an image which values its addresses have.
abbrev pub RightAfterStops : (Blocks → (ℕ → List ℕ) → Type 0) → Blocks → List Call → ℕ → (ℕ → List ℕ) → RunReport → List Call → Type 0
RightAfterStops HasValues blocks before logical opening report calls =
    (later prefix : List Call) → calls ≡ later ++ prefix → (image : Blocks) → IsImage blocks (prefix ++ before) image
    → (values : ℕ → List ℕ) × HasValues image values × ShowsRight logical opening report calls (length prefix) values
