use Rattle.std.proofs.Common.{◌≡◌, length, take, reverse}
use Rattle.vdo_model.specs.Notes.{NotesAnswers}
use Rattle.vdo_model.proofs.notes.note_answers.Given as goal

abbrev pub invariant-loop-at : goal.invariant-loop-at
invariant-loop-at l = record {
  length : length l.notes ≡ length l.fn.notes;
  notes : NotesAnswers l.desk (reverse (take l.at l.desk)) l.stream l.notes;
}
