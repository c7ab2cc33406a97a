use Rattle.std.proofs.Common.{◌∙◌}
use Rattle.std.specs.Prelude.{codes}
use Rattle.stream_text.proofs.PutLaws.{command_pieces, puts-same}
use Rattle.stream_text.proofs.lines.put_command.Goals as goal

pub returns : goal.returns
returns g c =
    puts-same (command_pieces c.args.command.now _ (codes " ") _ (c.as_bytes.ensures.value ∙ c.format.ensures.text)) c.put_all.ensures
