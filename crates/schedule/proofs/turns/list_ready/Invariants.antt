use Rattle.schedule.proofs.TurnLaws.{RowsListed}
use Rattle.schedule.proofs.turns.list_ready.Given as goal

abbrev pub invariant-loop-from : goal.invariant-loop-from
invariant-loop-from l = RowsListed l.core.sizes l.core.zones l.senders l.ready

abbrev pub decreases-loop-from : goal.decreases-loop-from
decreases-loop-from l = l.senders
