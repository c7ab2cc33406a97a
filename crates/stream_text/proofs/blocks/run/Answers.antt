use Rattle.std.proofs.Common.{sym, ◌∙◌, ◌∷◌, ap}
use Rattle.stream_text.specs.LineWords.{run_of_pieces}
use Rattle.stream_text.proofs.RunWordLaws.{run_many}
use Rattle.stream_text.proofs.blocks.run.Goals as goal

pub returns-in-None : goal.returns-in-None
returns-in-None c =
    let one = rw c.in-Some.is at c.cut_near.ensures.parts in
    let two = rw c.in-None.is at c.cut_near-2.ensures.parts in
    c.run_around.ensures ∙ sym (ap run_of_pieces (one ∙ ap (λ parts. c.cut_near.result.0.now ∷ parts) two))

pub returns-in-Some-more : goal.returns-in-Some-more
returns-in-Some-more c =
    let one = rw c.in-Some.is at c.cut_near.ensures.parts in
    let two = rw c.in-Some-more.is at c.cut_near-2.ensures.parts in
    sym (ap run_of_pieces (one ∙ ap (λ parts. c.cut_near.result.0.now ∷ parts) two) ∙ run_many c.cut_near.result.0.now c.cut_near-2.result.0.now c.in-Some-more.field-0.now)
