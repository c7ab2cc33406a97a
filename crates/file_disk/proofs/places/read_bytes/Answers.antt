use Rattle.std.proofs.Common.{arith, refl}
use Rattle.file_disk.proofs.ReadLaws.{read-none, read-given_up}
use Rattle.file_disk.proofs.places.read_bytes.Goals as goal

pub loop-init : goal.loop-init
loop-init g c = (refl, omega arith, read-none g.F.ByteFile.trust (g.F.ByteFile.seen c.args.file.now) c.args.offset c.args.into.now)

pub returns-in-Err-2-clause-err : goal.returns-in-Err-2-clause-err
returns-in-Err-2-clause-err g c =
    read-given_up g.F.ByteFile.trust _ _ c.args.offset c.loop.filled c.read_on.new.into (c.in-Err-2.ensures.err (g.F.ByteFile.seen c.args.file.now) c.loop.invariant.2)

pub returns-clause-err : goal.returns-clause-err
returns-clause-err g c = read-given_up g.F.ByteFile.trust _ _ c.args.offset c.loop.filled c.loop.into c.loop.invariant.2
