use Rattle.std.proofs.Common.{Err, sym, subst}
use Rattle.image_model.specs.declared.fault.ImageFault.{ImageFault}
use Rattle.rebuild.proofs.OpenLaws.{no_window, not_closed, not_read, not_right, refused_as, was_opened}
use Rattle.rebuild.specs.Openings.{IsOpening}
use Rattle.rebuild.proofs.clean_image.open_clean.Goals as goal

pub returns-in_err-head : goal.returns-in_err-head
returns-in_err-head g c =
    refused_as _ _ _ _ c.from_residual.result c.from_residual.ensures.1
    (not_read _ _ _ c.in_err-head.field-0.0 (g.met.D.Disk.told c.args.device.now) c.in_err-head.ensures.fault c.read_head.ensures.untouched)

pub returns-in_err-check_closed : goal.returns-in_err-check_closed
returns-in_err-check_closed g c =
    let unclean = c.in_err-check_closed.ensures.unclean in
    refused_as _ _ _ _ c.from_residual-in_err-check_closed.result c.from_residual-in_err-check_closed.ensures.1
    (subst (λ (why : ImageFault). IsOpening g.D.Disk.trust (g.D.Disk.seen c.args.device.now) (g.D.Disk.seen c.read_head.new.device) (Err why)) (sym unclean.0)
    (not_closed _ _ _ c.in_ok-head.head c.in_ok-head.ensures.head unclean.1 c.read_head.ensures.untouched))

pub returns-in_err-window : goal.returns-in_err-window
returns-in_err-window g c =
    refused_as _ _ _ _ c.from_residual-in_err-window.result c.from_residual-in_err-window.ensures.1
    (no_window _ _ _ (g.D.Disk.seen c.read_head.new.device) c.in_ok-head.head c.in_err-window.field-0.0 c.in_ok-head.ensures.head c.in_ok-check_closed.ensures.closed
    c.in_err-window.ensures.fault c.read_head.ensures.untouched c.read_window.ensures.untouched)

pub returns-in-Ok : goal.returns-in-Ok
returns-in-Ok g c =
    was_opened _ _ _ (g.D.Disk.seen c.read_head.new.device) (g.D.Disk.seen c.read_window.new.device) c.in_ok-head.head c.in_ok-window.window c.in_ok-head.ensures.head
    c.in_ok-check_closed.ensures.closed c.in_ok-window.ensures.window c.read_head.ensures.untouched c.read_window.ensures.untouched c.open_with.ensures.untouched
    c.in-Ok.opened c.in-Ok.ensures.opened c.in-Ok.ensures.head c.in-Ok.ensures.fits

pub returns : goal.returns
returns g c =
    not_right _ _ _ (g.D.Disk.seen c.read_head.new.device) (g.D.Disk.seen c.read_window.new.device) c.in_ok-head.head c.in_ok-window.window c.in_ok-head.ensures.head
    c.in_ok-check_closed.ensures.closed c.in_ok-window.ensures.window c.read_head.ensures.untouched c.read_window.ensures.untouched c.open_with.ensures.untouched
    c.in-Err.fault c.in-Err.ensures.fault
