use Rattle.vdo_cli.proofs.RecoveredImages.{room_of}
use Rattle.vdo_cli.proofs.ScriptLaws.{can_begin}
use Rattle.vdo_cli.proofs.SessionLaws.{played}
use Rattle.vdo_cli.proofs.session.serve.Goals as goal

-- a core begins with it, and the device has room
pub begin-requires : goal.begin-requires
begin-requires g c =
    let start = c.args.ready.now.start in
    let opening = c.requires.ready.is.opening in
    can_begin _ c.args.course.setup start c.args.requests c.requires.setup opening.head opening.fits c.requires.whole

pub drive-requires : goal.drive-requires
drive-requires g c =
    let opening = c.requires.ready.is.opening in
    rw c.in_ok-core.ensures.sizes (record { geometry = opening.fits.sizes; room = room_of _ _ _ _ _ c.requires.ready.is })

-- whatever the device was before
pub returns-clause-serves : goal.returns-clause-serves
returns-clause-serves g c = λ before is.
    let disk = g.D.Disk in
    let can = can_begin _ c.args.course.setup c.args.ready.now.start c.args.requests c.requires.setup is.opening.head is.opening.fits c.requires.whole in
    (played disk.trust c.args.course c.drive.new.schedule c.args.ready.now.start c.args.requests c.in_ok-core.core.sizes
    c.in_ok-core.core.zones c.drive.new.core.zones before (disk.seen c.args.device.now) (disk.seen c.drive.new.device) c.args.ready.now.found c.report.result
    can is c.requires.named c.in_ok-core.ensures.sizes c.in_ok-core.ensures.first (rw c.from_number.ensures at c.drive.ensures.drives)
    c.drive.ensures.done c.drive.ensures.stays c.report.ensures).0

pub returns-clause-requests : goal.returns-clause-requests
returns-clause-requests g c =
    let disk = g.D.Disk in
    let before = c.requires.ready.before in
    let is = c.requires.ready.is in
    let can = can_begin _ c.args.course.setup c.args.ready.now.start c.args.requests c.requires.setup is.opening.head is.opening.fits c.requires.whole in
    (played disk.trust c.args.course c.drive.new.schedule c.args.ready.now.start c.args.requests c.in_ok-core.core.sizes
    c.in_ok-core.core.zones c.drive.new.core.zones before (disk.seen c.args.device.now) (disk.seen c.drive.new.device) c.args.ready.now.found c.report.result
    can is c.requires.named c.in_ok-core.ensures.sizes c.in_ok-core.ensures.first (rw c.from_number.ensures at c.drive.ensures.drives)
    c.drive.ensures.done c.drive.ensures.stays c.report.ensures).1
