use Rattle.std.proofs.Common.{List, ℕ, ◌++◌, ap, codes}
use Rattle.std.specs.Prelude.{decimal}
use Rattle.std.proofs.lemmas.List.{append-nil}
use Rattle.stream_text.proofs.PutLaws.{puts-same}
use Rattle.vdo_cli.proofs.endings.put_script_line.Goals as goal

pub returns : goal.returns
returns g c =
    puts-same (ap (λ (t : List ℕ). codes "script line " ++ (decimal c.args.line ++ t)) (append-nil c.args.end.now)) c.put_lines.ensures
