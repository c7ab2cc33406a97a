use Rattle.std.proofs.Common.{IsTrue}
use Rattle.device_zone.proofs.Calls.{done_call, failed_call, no_read_done}
use Rattle.device_zone.proofs.device_calls.flush.Goals as goal

pub returns-clause-ok : goal.returns-clause-ok
returns-clause-ok g c = done_call _ _ _ _ _ c.flush.ensures.stays (λ (told : IsTrue g.D.Disk.trust.tells) (honest : IsTrue g.D.Disk.trust.honest). no_read_done c.flush.result) c.flush.ensures.ok c.flush.ensures.cause.later c.flush.ensures.unkept

pub returns-clause-err : goal.returns-clause-err
returns-clause-err g c = failed_call _ _ _ _ _ c.flush.ensures.stays c.flush.ensures.err c.flush.ensures.cause c.flush.ensures.unkept
