use Rattle.schedule.proofs.TurnLaws.{rows_all, rows_at, rows_first, rows_more}
use Rattle.schedule.proofs.turns.list_ready.Goals as goal

pub loop-from-init : goal.loop-from-init
loop-from-init c =
    rows_first c.args.core.now.sizes c.args.core.now.zones c.senders-senders.result c.list_steps.new.ready c.list_steps.ensures.room c.list_steps.ensures.ready c.senders-senders.ensures

pub add_moves-requires-clause-ready : goal.add_moves-requires-clause-ready
add_moves-requires-clause-ready c =
    (rows_at c.args.core.now.sizes c.args.core.now.zones c.loop-from.senders c.take_first.new.self c.in-Some.from c.loop-from.ready c.in-Some.ensures.some c.loop-from.invariant).2

pub loop-from-preserved : goal.loop-from-preserved
loop-from-preserved c =
    rows_more c.args.core.now.sizes c.args.core.now.zones c.loop-from.senders c.take_first.new.self c.in-Some.from c.loop-from.ready c.add_moves.new.ready c.in-Some.ensures.some
    c.loop-from.invariant c.add_moves.ensures.room c.add_moves.ensures.ready

pub returns : goal.returns
returns c = rows_all c.args.core.now.sizes c.args.core.now.zones c.loop-from.senders c.loop-from.ready c.in_default.ensures.none c.loop-from.invariant
