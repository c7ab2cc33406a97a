use Rattle.std.proofs.lemmas.Result.{err_from_is_err_and}
use Rattle.stream_text.proofs.PutLaws.{put-failed, put-first, put-last}
use Rattle.command_text.proofs.workloads.put_summary.Goals as goal

pub returns-in_err-put_recovered : goal.returns-in_err-put_recovered
returns-in_err-put_recovered g c = put-failed _ (err_from_is_err_and c.from_residual.result c.from_residual.ensures.1).1 c.in_err-put_recovered.ensures

pub returns : goal.returns
returns g c = put-last (put-first c.in_ok-put_recovered.ensures) c.put_tally_and_space.ensures
