use Rattle.std.proofs.Common.{◌++◌, ◌∙◌, subst}
use Rattle.disk_model.proofs.SeenLaws.{stays_on}
use Rattle.data_vio.specs.declared.sizes.Sizes.{Sizes}
use Rattle.schedule.specs.Turns.{Drives, driving}
use Rattle.schedule.proofs.TurnLaws.{drives_further}
use Rattle.schedule.proofs.driver.drive.Goals as goal

pub loop-preserved : goal.loop-preserved
loop-preserved g c =
    let old = c.loop.invariant in
    let new = c.turn.ensures in
    let before = old.drives in
    let now = new.drives (c.done.ensures.no c.if-done.false) in
    let first = driving c.args.schedule.now c.args.core.now.zones (g.D.Disk.seen c.args.device.now) in
    let middle = driving c.loop.schedule c.loop.core.zones (g.D.Disk.seen c.loop.device) in
    let last = driving c.turn.new.self c.turn.new.core.zones (g.D.Disk.seen c.turn.new.device) in
    let driven = subst (λ (sizes : Sizes). Drives g.D.Disk.trust sizes now.0 middle last now.1) old.sizes now.2 in
    record {
      stays = stays_on _ _ _ old.stays new.stays;
      sizes = new.sizes ∙ old.sizes;
      drives = (
        before.0 ++ now.0,
        now.1 ++ before.1,
        drives_further g.D.Disk.trust c.args.core.now.sizes before.0 now.0 first middle last before.1 now.1 before.2 driven,
      );
    }
