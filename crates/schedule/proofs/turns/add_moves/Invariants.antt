use Rattle.std.proofs.Common.{◌≡◌, ◌≤◌, ◌+◌, ◌*◌, length}
use Rattle.vdo_core.specs.declared.events.Event.TheVariants as event
use Rattle.vdo_core.specs.declared.numbers.TheConstants.{MOST_ZONES}
use Rattle.schedule.proofs.TurnLaws.{Listed}
use Rattle.schedule.proofs.turns.add_moves.Given as goal

abbrev pub invariant-loop-to : goal.invariant-loop-to
invariant-loop-to l = record {
  first : l.first ≡ length l.core.zones + l.from * length l.core.zones;
  few : length l.core.zones ≤ MOST_ZONES;
  listed : Listed l.core.sizes l.core.zones (length l.core.zones + l.from * length l.core.zones) (λ to. event.Move l.from to) l.receivers l.ready;
}

abbrev pub decreases-loop-to : goal.decreases-loop-to
decreases-loop-to l = l.receivers
