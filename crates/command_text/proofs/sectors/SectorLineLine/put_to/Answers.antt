use Rattle.std.proofs.lemmas.Result.{err_from_is_err_and}
use Rattle.stream_text.proofs.PutLaws.{put-failed, put-first, put-last}
use Rattle.command_text.proofs.sectors.SectorLineLine.put_to.Goals as goal

pub returns-in_err-put_asked : goal.returns-in_err-put_asked
returns-in_err-put_asked g c = put-failed _ (err_from_is_err_and c.from_residual.result c.from_residual.ensures.1).1 c.in_err-put_asked.ensures

pub returns : goal.returns
returns g c = put-last (put-first c.in_ok-put_asked.ensures) c.put_answered.ensures
