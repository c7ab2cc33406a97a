use Rattle.std.proofs.Common.{◌∙◌}
use Rattle.vdo_model.specs.declared.report.Placed.{Placed}
use Rattle.vdo_model.proofs.NoteLaws.{step-placed, step-passed}
use Rattle.vdo_model.proofs.notes.note_places.Goals.{then-placed-stream, else-placed-stream}
use Rattle.vdo_model.proofs.notes.note_places.Goals as goal

-- what a read past the end would give
abbrev none : Placed
none = record { request = record { stream = 0; number = 0 }; zone = 0; place = 0 }

pub loop-placed-preserved : goal.loop-placed-preserved
loop-placed-preserved c = record {
  length = c.if-placed-stream.auto.notes ∙ c.loop-placed.invariant.length;
  notes = elim c.if-placed-stream.branch [
    | then-placed-stream w ↦ step-placed c.args.places.now c.loop-placed.placed-index c.args.stream c.loop-placed.notes c.if-placed-stream.notes none
        c.loop-placed-test.true w.if-placed-stream.true (w.notes-is ∙ w.note.ensures) c.loop-placed.invariant.notes
    | else-placed-stream w ↦ step-passed c.args.places.now c.loop-placed.placed-index c.args.stream c.loop-placed.notes c.if-placed-stream.notes none
        c.loop-placed-test.true w.if-placed-stream.false w.notes-is c.loop-placed.invariant.notes
  ];
}
