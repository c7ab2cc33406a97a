use Rattle.std.proofs.Common.{◌∙◌, sym, subst, reverse, take, List}
use Rattle.vdo_model.specs.declared.report.DeskLine.{DeskLine}
use Rattle.vdo_model.specs.Notes.{NotesAnswers}
use Rattle.vdo_model.proofs.NoteLaws.{one_more, line_there, step-begin, step-other, step-answer}
use Rattle.vdo_model.proofs.notes.note_answers.Goals.{in-Begin, in-Answer+then-request-stream, in-Answer+else-request-stream}
use Rattle.vdo_model.proofs.notes.note_answers.Goals as goal

pub loop-at-preserved : goal.loop-at-preserved
loop-at-preserved c =
    let desk = c.args.desk.now in
    let at = c.loop-at.at in
    let line = c.index-desk-at.result in
    let older = reverse (take at desk) in
    let next = one_more desk at line c.loop-at-test.true c.index-desk-at.is in
    let there = line_there desk at line c.loop-at-test.true c.index-desk-at.is in
    let before = c.loop-at.invariant.notes in
    record {
      length = c.match-line.auto.notes ∙ c.loop-at.invariant.length;
      notes = subst (λ (older : List DeskLine). NotesAnswers desk older c.args.stream c.match-line.notes) (sym next)
          (elim c.match-line.branch [
            | in-Begin w ↦ step-begin desk older c.args.stream c.loop-at.notes c.match-line.notes line w.in-Begin.request w.in-Begin.is w.notes-is before
            | in-Answer+then-request-stream w ↦
                step-answer desk older c.args.stream c.loop-at.notes c.match-line.notes line w.in-Answer.request w.in-Answer.answer at
                w.in-Answer.is w.if-request-stream.true there (w.notes-is ∙ w.note.ensures) before
            | in-Answer+else-request-stream w ↦
                step-other desk older c.args.stream c.loop-at.notes c.match-line.notes line w.in-Answer.request w.in-Answer.answer
                w.in-Answer.is w.if-request-stream.false w.notes-is before
          ]);
    }
