use Rattle.std.proofs.lemmas.Result.{err_from_is_err_and}
use Rattle.stream_text.proofs.PutLaws.{put-failed, put-first, put-last}
use Rattle.command_text.proofs.audits.put_audit.Goals as goal

pub returns-in_err-put_lines : goal.returns-in_err-put_lines
returns-in_err-put_lines g c =
    put-failed _ (err_from_is_err_and c.from_residual.result c.from_residual.ensures.1).1
    (rw c.as_slice-differences.ensures.value at c.in_err-put_lines.ensures)

pub returns : goal.returns
returns g c =
    rw c.as_slice-differences.ensures.value at (put-last (put-first c.in_ok-put_lines.ensures) c.put_verdict.ensures)
