use Rattle.std.proofs.Common.{◌∙◌}
use Rattle.std.specs.Prelude.{codes}
use Rattle.stream_text.proofs.PutLaws.{puts-same, run_pieces}
use Rattle.stream_text.proofs.runs.put_run.Goals as goal

pub returns : goal.returns
returns g c =
    puts-same (run_pieces c.args.before.now _ (codes "*") _ _ _ (c.as_bytes.ensures.value ∙ c.format.ensures.text) c.in-Ok.ensures.written) c.put_all.ensures
