use Rattle.std.proofs.Common.{IsTrue}
use Rattle.device_zone.proofs.Calls.{done_call, failed_call, no_read_done}
use Rattle.device_zone.proofs.device_calls.write_block.Goals as goal

pub returns-clause-ok : goal.returns-clause-ok
returns-clause-ok g c = done_call _ _ _ _ _ c.write.ensures.stays (λ (told : IsTrue g.D.Disk.trust.tells) (honest : IsTrue g.D.Disk.trust.honest). no_read_done c.write.result) c.write.ensures.ok c.write.ensures.cause.later c.write.ensures.unkept

pub returns-clause-err : goal.returns-clause-err
returns-clause-err g c = failed_call _ _ _ _ _ c.write.ensures.stays c.write.ensures.err c.write.ensures.cause c.write.ensures.unkept
