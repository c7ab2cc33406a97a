use Rattle.std.proofs.Common.{ℕ, ◌<◌, ◌≤◌, length}
use Rattle.vdo_model.specs.Scripts.{stream_of}
use Rattle.stream_text.proofs.answers.longest_stream.Given as goal

abbrev pub invariant-loop-stream : goal.invariant-loop-stream
invariant-loop-stream l = (stream : ℕ) → stream < l.stream → length (stream_of l.requests stream) ≤ l.longest
