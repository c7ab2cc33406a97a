use Rattle.std.proofs.lemmas.Result.{err_from_is_err_and}
use Rattle.stream_text.proofs.PutLaws.{put-failed, put-first, put-last}
use Rattle.vdo_cli.proofs.crash_end.put_not_shown.Goals as goal

pub returns-in_err-put_crash_stop : goal.returns-in_err-put_crash_stop
returns-in_err-put_crash_stop g c = put-failed _ (err_from_is_err_and c.from_residual.result c.from_residual.ensures.1).1 c.in_err-put_crash_stop.ensures

pub returns : goal.returns
returns g c = put-last (put-first c.in_ok-put_crash_stop.ensures) c.put_fault.ensures
