use Rattle.std.proofs.lemmas.Result.{err_from_is_err_and}
use Rattle.stream_text.proofs.PutLaws.{put-failed, put-first, put-last}
use Rattle.stream_text.proofs.RunLaws.{rest_of}
use Rattle.stream_text.proofs.runs.put_runs.Goals as goal

pub returns-in_err-put_run : goal.returns-in_err-put_run
returns-in_err-put_run g c =
    rw c.first_run-count.ensures.run (put-failed _ (err_from_is_err_and c.from_residual.result c.from_residual.ensures.1).1 c.in_err-put_run.ensures)

pub returns : goal.returns
returns g c =
    rw (c.first_run-count.ensures.run, ← rest_of c.args.bytes.now c.first_run-count.result)
    (put-last (put-first c.in_ok-put_run.ensures) c.put_later_runs.ensures)
