use Rattle.std.proofs.Common.{◌≡◌, drop}
use Rattle.disk_model.specs.Seen.{Stays}
use Rattle.core_model.specs.Trace.{Trace}
use Rattle.vdo_core.specs.Plays.{Vdo, vdo}
use Rattle.schedule.specs.Turns.{PlaysUntilDone}
use Rattle.schedule.proofs.player.play.Given as goal

abbrev pub invariant-loop-event : goal.invariant-loop-event
invariant-loop-event g l = record {
  stays : Stays (g.D.Disk.seen l.fn.device) (g.D.Disk.seen l.device);
  sizes : l.core.sizes ≡ l.fn.core.sizes;
  plays : (later : Vdo)
      → ((made : Trace) × PlaysUntilDone g.D.Disk.trust l.fn.core.sizes (drop l.event-index l.events) (vdo l.core.zones (g.D.Disk.seen l.device)) later made)
      → (made : Trace) × PlaysUntilDone g.D.Disk.trust l.fn.core.sizes l.events (vdo l.fn.core.zones (g.D.Disk.seen l.fn.device)) later made;
}
