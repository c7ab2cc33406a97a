use Rattle.std.proofs.Common.{◌≡◌, length, take, reverse}
use Rattle.vdo_model.specs.Notes.{NotesPlaces}
use Rattle.vdo_model.proofs.notes.note_places.Given as goal

abbrev pub invariant-loop-placed : goal.invariant-loop-placed
invariant-loop-placed l = record {
  length : length l.notes ≡ length l.fn.notes;
  notes : NotesPlaces (reverse (take l.placed-index l.places)) l.stream l.notes;
}
