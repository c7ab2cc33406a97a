use Rattle.std.proofs.lemmas.Result.{err_from_is_err_and}
use Rattle.stream_text.proofs.PutLaws.{put-failed, put-first, put-last}
use Rattle.command_text.proofs.workloads.put_tally_and_space.Goals as goal

pub returns-in_err-put_tally : goal.returns-in_err-put_tally
returns-in_err-put_tally g c = put-failed _ (err_from_is_err_and c.from_residual.result c.from_residual.ensures.1).1 c.in_err-put_tally.ensures

pub returns : goal.returns
returns g c = put-last (put-first c.in_ok-put_tally.ensures) c.put_known.ensures
