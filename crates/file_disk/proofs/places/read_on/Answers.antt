use Rattle.std.proofs.Common.{◌≡◌, ◌<◌, ◌+◌, length, arith}
use Rattle.file_disk.proofs.ReadLaws.{read-more, given_at_end}
use Rattle.file_disk.proofs.places.read_on.Goals as goal

pub returns-then-count-gt0-clause-ok : goal.returns-then-count-gt0-clause-ok
returns-then-count-gt0-clause-ok g c before read =
    read-more g.F.ByteFile.trust before _ _ c.args.offset c.args.filled c.in_ok-count.count c.args.into.now c.read_at.new.into _
    (omega (arith, c.requires.more)) c.in_ok-count.ensures.count c.read_at.ensures.opening c.read_at.ensures.stays c.read_at.ensures.honest
    (λ tells trusted. (c.in_ok-count.ensures.given tells trusted).bytes) read

pub returns-clause-ok : goal.returns-clause-ok
returns-clause-ok g c before read =
    let zeros = c.fill.ensures.after (λ y same. same) in
    let none : c.in_ok-count.count ≡ 0 = omega (arith, c.if-count-gt0.false) in
    let room : 0 < length c.read_at.new.into = omega (arith, c.requires.more, c.read_at.auto.into) in
    read-more g.F.ByteFile.trust before _ _ c.args.offset c.args.filled (length c.fill.new.self) c.args.into.now c.fill.new.self _
    (omega (arith, c.requires.more)) (omega arith) c.read_at.ensures.opening c.read_at.ensures.stays c.read_at.ensures.honest
    (λ tells trusted.
    let end = (c.in_ok-count.ensures.given tells trusted).end none room in
    given_at_end (length c.read_at.new.into) (c.args.offset + c.args.filled) c.fill.new.self _ zeros end)
    read
