-- The desk log: which request was begun and answered when. The newest line stands first.
use Rattle.std.specs.Prelude.{ℕ, ◌≡◌, ◌+◌, ◌<◌, ◌==◌, List, [], ◌∷◌, Option, Some, None, IsSome, IsNone, if◌then◌else◌}
use Rattle.blk_base.specs.declared.request.Answer.{Answer as Reply}
use Rattle.blk_base.specs.declared.request.Writer.{Writer}
use Rattle.vdo_model.specs.declared.report.DeskLine.{DeskLine}
use Rattle.vdo_model.specs.declared.report.DeskLine.TheVariants.{Begin, Answer}
use Rattle.vdo_model.specs.Scripts.{Script, request_at, same_writer}

-- how many requests of a stream are begun
abbrev pub begun : ℕ → List DeskLine → ℕ
begun stream [] = 0
begun stream (Begin w ∷ older) = if w.stream == stream then begun stream older + 1 else begun stream older
begun stream (Answer w a ∷ older) = begun stream older

-- how many of them are answered
abbrev pub answered : ℕ → List DeskLine → ℕ
answered stream [] = 0
answered stream (Begin w ∷ older) = answered stream older
answered stream (Answer w a ∷ older) = if w.stream == stream then answered stream older + 1 else answered stream older

-- the answer of a request, once it has one
abbrev pub answer_of : List DeskLine → Writer → Option Reply
answer_of [] w = None
answer_of (Begin v ∷ older) w = answer_of older w
answer_of (Answer v a ∷ older) w = if same_writer v w then Some a else answer_of older w

-- what stands before a request's Begin
abbrev pub before_begin : List DeskLine → Writer → List DeskLine
before_begin [] w = []
before_begin (Begin v ∷ older) w = if same_writer v w then older else before_begin older w
before_begin (Answer v a ∷ older) w = before_begin older w

-- A line may follow these: the next request of its stream is begun, while fewer than `depth` of the stream are under way;
-- a request is answered that is begun and has no answer yet.
abbrev pub IsNextLine : ℕ → Script → DeskLine → List DeskLine → Type 0
IsNextLine depth script (Begin w) older =
    (w.number ≡ begun w.stream older) × IsSome (request_at script w) × (begun w.stream older < answered w.stream older + depth)
IsNextLine depth script (Answer w a) older = (w.number < begun w.stream older) × IsNone (answer_of older w)

-- the desk log is well formed
abbrev pub IsDeskLog : ℕ → Script → List DeskLine → Type 0
IsDeskLog depth script [] = Unit {0}
IsDeskLog depth script (line ∷ older) = IsNextLine depth script line older × IsDeskLog depth script older

-- each request of the script has its answer
abbrev pub AllAnswered : Script → List DeskLine → Type 0
AllAnswered script desk = (w : Writer) → IsSome (request_at script w) → IsSome (answer_of desk w)
