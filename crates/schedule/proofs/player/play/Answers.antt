use Rattle.std.proofs.Common.{◌∙◌, drop}
use Rattle.disk_model.proofs.SeenLaws.{stays_on}
use Rattle.vdo_core.specs.Plays.{vdo}
use Rattle.schedule.proofs.TurnLaws.{done_until, next_until, none_until}
use Rattle.schedule.proofs.player.play.Goals as goal

pub loop-event-preserved : goal.loop-event-preserved
loop-event-preserved g c =
    let before = c.loop-event.invariant in
    let after = c.step.ensures in
    let old = vdo c.loop-event.core.zones (g.D.Disk.seen c.loop-event.device) in
    let new = vdo c.step.new.self.zones (g.D.Disk.seen c.step.new.device) in
    record {
      stays = stays_on _ _ _ before.stays after.stays;
      sizes = after.sizes ∙ before.sizes;
      plays = λ later rest.
          before.plays later (next_until g.D.Disk.trust c.args.core.now.sizes c.args.events.now c.loop-event.event-index _ old new later
          c.loop-event-test.true (c.done.ensures.no c.if-done.false) (rw before.sizes at after.plays) rest);
    }

pub returns-then-done-clause-plays : goal.returns-then-done-clause-plays
returns-then-done-clause-plays g c =
    let last = vdo c.loop-event.core.zones (g.D.Disk.seen c.loop-event.device) in
    c.loop-event.invariant.plays last
    (done_until g.D.Disk.trust c.args.core.now.sizes (drop c.loop-event.event-index c.args.events.now) last (c.done.ensures.yes c.if-done.true))

pub returns-clause-plays : goal.returns-clause-plays
returns-clause-plays g c =
    let last = vdo c.loop-event.core.zones (g.D.Disk.seen c.loop-event.device) in
    c.loop-event.invariant.plays last
    (none_until g.D.Disk.trust c.args.core.now.sizes c.args.events.now c.loop-event.event-index last c.loop-event-test.false)
