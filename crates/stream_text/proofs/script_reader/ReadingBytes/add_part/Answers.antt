use Rattle.std.proofs.Common.{List, ℕ, ◌∙◌, ap, sym}
use Rattle.stream_text.specs.ReadingBytes.{goes_on_from}
use Rattle.stream_text.proofs.PartLaws.{next-part}
use Rattle.stream_text.proofs.script_reader.ReadingBytes.add_part.Goals as goal

pub returns-clause-ok : goal.returns-clause-ok
returns-clause-ok c = λ rest.
    let self = c.args.self.now in
    next-part self.number self.before self.streams self.line.items c.args.part.now rest
    ∙ ap (λ (line : List ℕ). goes_on_from self.number self.before self.streams line rest) (sym c.in-Ok.ensures.ok)
