use Rattle.std.proofs.Common.{ap, subst, ◌∙◌, ℕ, List, Result}
use Rattle.stream_text.specs.LineFaults.{both}
use Rattle.stream_text.specs.LineGrammar.{SaysAsked, write_asked}
use Rattle.stream_text.specs.LineWords.{address_number, stream_number}
use Rattle.stream_text.specs.declared.asked.Asked.{Asked}
use Rattle.stream_text.specs.declared.refusal.LineFault.{LineFault}
use Rattle.stream_text.proofs.asked.write_of.Goals as goal

pub returns-clause-asked : goal.returns-clause-asked
returns-clause-asked c =
    subst (λ (asked : Result Asked LineFault). SaysAsked c.said.result asked)
    (c.written.ensures.asked
    ∙ ap (λ (block : Result (List ℕ) LineFault). write_asked (both (stream_number c.args.stream.now) (both (address_number c.args.address.now) block))) c.in-Ok.ensures)
    c.said.ensures.asked
