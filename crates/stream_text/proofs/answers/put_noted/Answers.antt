use Rattle.stream_text.specs.Texts.{writer}
use Rattle.std.specs.Prelude.{reverse}
use Rattle.vdo_model.proofs.NoteLaws.{noted_answer}
use Rattle.stream_text.proofs.answers.put_noted.Goals as goal

pub returns : goal.returns
returns g c =
    let answered = noted_answer c.args.desk.now (reverse c.args.desk.now) (writer c.args.stream c.args.number) c.args.noted c.in-Some.at
    c.index-desk-at.result _ _ c.in-Some.is c.requires c.index-desk-at.is c.in-Answer.is in
    rw answered c.put_line.ensures
