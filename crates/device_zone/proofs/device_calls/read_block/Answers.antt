use Rattle.std.proofs.Common.{IsTrue}
use Rattle.device_zone.proofs.Calls.{done_call, failed_call, read_done}
use Rattle.device_zone.proofs.device_calls.read_block.Goals as goal

pub returns-clause-ok : goal.returns-clause-ok
returns-clause-ok g c =
    let seen = g.D.Disk.seen c.args.disk.now in
    done_call _ _ _ _ _ c.read.ensures.stays
    (λ (told : IsTrue g.D.Disk.trust.tells) (honest : IsTrue g.D.Disk.trust.honest). read_done seen.opening seen.log c.args.at c.read.new.into c.read.result c.read.ensures.whole (c.read.ensures.given told honest))
    c.read.ensures.ok c.read.ensures.cause.later c.read.ensures.unkept

pub returns-clause-err : goal.returns-clause-err
returns-clause-err g c = failed_call _ _ _ _ _ c.read.ensures.stays c.read.ensures.err c.read.ensures.cause c.read.ensures.unkept
