use Rattle.std.proofs.lemmas.Result.{err_from_is_err_and}
use Rattle.stream_text.proofs.PutLaws.{put-failed, put-first, put-last}
use Rattle.command_text.proofs.runs.put_ending.Goals as goal

pub returns-in_err-put_damage : goal.returns-in_err-put_damage
returns-in_err-put_damage g c = put-failed _ (err_from_is_err_and c.from_residual.result c.from_residual.ensures.1).1 c.in_err-put_damage.ensures

pub returns : goal.returns
returns g c = put-last (put-first c.in_ok-put_damage.ensures) c.put_known.ensures
