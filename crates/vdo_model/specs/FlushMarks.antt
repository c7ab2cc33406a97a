-- Flush marks: which call of the device made a flush last.
use Rattle.std.specs.Prelude.{ℕ, ◌≡◌, ◌+◌, ◌<◌, ◌++◌, true, List, [], ◌∷◌, Option, Some, None, IsSome, IsNone, if◌then◌else◌}
use Rattle.std.specs.List.{AllByRecursion}
use Rattle.blk_base.specs.declared.request.Request.TheVariants as request
use Rattle.blk_base.specs.declared.request.Answer.TheVariants as reply
use Rattle.blk_base.specs.declared.request.Writer.{Writer}
use Rattle.disk_model.specs.declared.call.Call.{Call}
use Rattle.disk_model.specs.declared.call.Call.TheVariants.{Read, Write, Flush}
use Rattle.vdo_model.specs.declared.report.DeskLine.{DeskLine}
use Rattle.vdo_model.specs.declared.report.FlushMark.{FlushMark}
use Rattle.vdo_model.specs.Scripts.{Script, request_at, same_writer}
use Rattle.vdo_model.specs.DeskLog.{begun, answer_of}

-- how many of these calls succeeded
abbrev pub successes : List Call → ℕ
successes [] = 0
successes (Read at bytes ok ∷ older) = if ok then successes older + 1 else successes older
successes (Write at bytes ok ∷ older) = if ok then successes older + 1 else successes older
successes (Flush ok ∷ older) = if ok then successes older + 1 else successes older

-- what happens in a run: a line is added to the desk log, or a call of the device returns
pub data Moment : Type 0 where
  Desk : DeskLine → Moment
  Device : Call → Moment

-- the lines of the desk log among these moments; the newest moment stands first
abbrev pub lines_of : List Moment → List DeskLine
lines_of [] = []
lines_of (Desk line ∷ older) = line ∷ lines_of older
lines_of (Device call ∷ older) = lines_of older

-- the calls of the device among them
abbrev pub calls_of : List Moment → List Call
calls_of [] = []
calls_of (Desk line ∷ older) = calls_of older
calls_of (Device call ∷ older) = call ∷ calls_of older

-- A flush has this mark: after it was begun, and before it was answered, a flush of the device succeeded, and the mark
-- counts the calls that had succeeded by then, that flush among them.
pub record IsMark (moments : List Moment) (mark : FlushMark) : Type 0 where
  pub later : List Moment
  pub older : List Moment
  pub at : moments ≡ later ++ (Device (Flush true) ∷ older)
  pub calls : mark.calls ≡ successes (calls_of older) + 1
  pub begun_by_then : mark.request.number < begun mark.request.stream (lines_of older)
  pub not_answered : IsNone (answer_of (lines_of older) mark.request)

-- the mark of a request, where it has one
abbrev pub mark_of_flush : List FlushMark → Writer → Option FlushMark
mark_of_flush [] w = None
mark_of_flush (mark ∷ older) w = if same_writer mark.request w then Some mark else mark_of_flush older w

-- no request has two marks
abbrev pub AreApart : List FlushMark → Type 0
AreApart [] = Unit {0}
AreApart (mark ∷ older) = IsNone (mark_of_flush older mark.request) × AreApart older

-- each flush that was answered Ok has one mark, and nothing else has any
pub record AreFlushMarks (script : Script) (moments : List Moment) (marks : List FlushMark) : Type 0 where
  pub each : AllByRecursion (IsMark moments) marks
  pub apart : AreApart marks
  pub all : (w : Writer) → request_at script w ≡ Some request.Flush → answer_of (lines_of moments) w ≡ Some reply.Ok → IsSome (mark_of_flush marks w)
  pub only : AllByRecursion (λ mark. (request_at script mark.request ≡ Some request.Flush) × (answer_of (lines_of moments) mark.request ≡ Some reply.Ok)) marks
