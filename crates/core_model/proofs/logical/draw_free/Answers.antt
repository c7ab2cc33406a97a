use Rattle.core_model.proofs.LockLaws.{drawn_only, not_awaited, not_held}
use Rattle.core_model.proofs.logical.draw_free.Goals as goal

pub unreachable-requires : goal.unreachable-requires
unreachable-requires c =
    let taken = (rw c.in-Some.is at c.ask.ensures.taken).1 in
    let next = c.in-Some-release.ensures.next in
    not_awaited c.args.locks.now c.ask.new.self c.release.new.self c.args.at c.ask.result.0 next.0 c.in-Some-release.field-0 c.requires.own c.requires.free.unawaited taken next.1

pub unreachable-requires-in-None : goal.unreachable-requires-in-None
unreachable-requires-in-None c = not_held c.args.locks.now c.ask.new.self _ c.requires.free.unheld (rw c.in-None.is at c.ask.ensures.waits)

pub returns-clause-locks : goal.returns-clause-locks
returns-clause-locks c =
    let taken = (rw c.in-Some.is at c.ask.ensures.taken).1 in
    drawn_only c.args.locks.now c.ask.new.self c.release.new.self c.args.at c.ask.result.0 c.requires.free.unheld taken c.in-None-release.ensures.none
