use Rattle.std.proofs.Common.{◌≤◌, length}
use Rattle.vdo_core.specs.declared.events.Event.TheVariants as event
use Rattle.vdo_core.specs.declared.numbers.TheConstants.{MOST_ZONES}
use Rattle.schedule.proofs.TurnLaws.{Listed}
use Rattle.schedule.proofs.turns.list_steps.Given as goal

abbrev pub invariant-loop-zone : goal.invariant-loop-zone
invariant-loop-zone l = record {
  few : length l.core.zones ≤ MOST_ZONES;
  listed : Listed l.core.sizes l.core.zones 0 (λ n. event.Step n) l.workers l.ready;
}

abbrev pub decreases-loop-zone : goal.decreases-loop-zone
decreases-loop-zone l = l.workers
