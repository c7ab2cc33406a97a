use Rattle.std.proofs.Common.{◌≡◌, ◌<◌, ℕ, [], get_or, length, map, reverse}
use Rattle.vdo_model.specs.Notes.{NotesAnswers}
use Rattle.core_reports.proofs.notes.note_streams.Given as goal

abbrev pub invariant-loop-stream : goal.invariant-loop-stream
invariant-loop-stream l = record {
  room : map length l.notes ≡ map length l.initial.notes;
  noted : (stream : ℕ) → stream < l.stream → NotesAnswers l.desk (reverse l.desk) stream (get_or l.notes stream []);
}
