use Rattle.stream_text.proofs.AskedLaws.{asked-many}
use Rattle.stream_text.proofs.asked.asked_of.Goals as goal

pub returns-in-Some-rest-3-clause-asked : goal.returns-in-Some-rest-3-clause-asked
returns-in-Some-rest-3-clause-asked c =
    let one = rw c.in-Some.is at c.cut.ensures.parts in
    let two = rw c.in-Some-rest.is at c.cut-2.ensures.parts in
    let three = rw c.in-Some-rest-2.is at c.cut-3.ensures.parts in
    let four = rw c.in-Some-rest-3.is at c.cut-4.ensures.parts in
    asked-many c.args.line.now _ _ _ _ c.in-Some.rest.now c.in-Some-rest.rest.now c.in-Some-rest-2.rest.now c.in-Some-rest-3.field-0.now one two three four
