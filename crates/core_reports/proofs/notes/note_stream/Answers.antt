use Rattle.std.proofs.Common.{length}
use Rattle.std.proofs.Math.Seq.{map-set_same}
use Rattle.core_reports.proofs.notes.note_stream.Goals as goal

pub returns-then-at-notes-clause-room : goal.returns-then-at-notes-clause-room
returns-then-at-notes-clause-room c = map-set_same length c.args.notes.now c.from-at.result c.note.new.self c.index-notes-at.result c.note.ensures.length
