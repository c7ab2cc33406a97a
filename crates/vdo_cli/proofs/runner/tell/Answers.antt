use Rattle.vdo_cli.proofs.runner.tell.Goals as goal

pub returns-in-Ok-clause-tells : goal.returns-in-Ok-clause-tells
returns-in-Ok-clause-tells g c = rw c.end_with.ensures.fault (c.end_with.ensures.status, c.in-Ok.ensures.ok)

pub returns-in-Err-clause-tells : goal.returns-in-Err-clause-tells
returns-in-Err-clause-tells g c =
    rw c.end_with-in-Err.ensures.fault (c.end_with-in-Err.ensures.status, c.in-Err.ensures.cause.failed, c.in-Err.ensures.err)
