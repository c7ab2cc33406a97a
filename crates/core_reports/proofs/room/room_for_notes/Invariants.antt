use Rattle.std.proofs.Common.{◌≡◌, ◌≤◌, ◌<◌, ℕ, get_or, length, map, vec_capacity}
use Rattle.vdo_model.specs.Scripts.{stream_of}
use Rattle.core_model.specs.SessionLimits.{most_streams}
use Rattle.core_reports.proofs.room.room_for_notes.Given as goal

abbrev pub invariant-loop-stream : goal.invariant-loop-stream
invariant-loop-stream l = record {
  count : length l.notes.items ≡ l.stream;
  capacity : most_streams ≤ vec_capacity l.notes;
  each : (k : ℕ) → k < l.stream → length (stream_of l.requests k) ≤ get_or (map length l.notes.items) k 0;
}
