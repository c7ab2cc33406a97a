use Rattle.std.proofs.Common.{◌≡◌, List}
use Rattle.disk_model.specs.Seen.{Stays}
use Rattle.core_model.specs.Trace.{Trace}
use Rattle.vdo_core.specs.declared.events.Event.{Event}
use Rattle.schedule.specs.Turns.{Drives, driving}
use Rattle.schedule.proofs.driver.drive.Given as goal

abbrev pub invariant-loop : goal.invariant-loop
invariant-loop g l = record {
  stays : Stays (g.D.Disk.seen l.fn.device) (g.D.Disk.seen l.device);
  sizes : l.core.sizes ≡ l.fn.core.sizes;
  drives : (events : List Event) × (made : Trace)
      × Drives g.D.Disk.trust l.fn.core.sizes events (driving l.fn.schedule l.fn.core.zones (g.D.Disk.seen l.fn.device))
      (driving l.schedule l.core.zones (g.D.Disk.seen l.device)) made;
}
