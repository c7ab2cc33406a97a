use Rattle.std.proofs.Common.{◌∙◌}
use Rattle.std.specs.Prelude.{codes}
use Rattle.stream_text.proofs.PutLaws.{name_pieces, puts-same}
use Rattle.stream_text.proofs.lines.put_name.Goals as goal

pub returns : goal.returns
returns g c =
    puts-same (name_pieces _ (codes " ") _ (codes " ") _ _ (c.as_bytes.ensures.value ∙ c.format.ensures.text)
    (c.as_bytes-2.ensures.value ∙ c.format-2.ensures.text)) c.put_all.ensures
