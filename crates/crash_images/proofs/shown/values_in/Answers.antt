use Rattle.crash_images.proofs.ShownLaws.{no_page_of, value_fails}
use Rattle.crash_images.proofs.shown.values_in.Goals as goal

pub returns-clause-fault : goal.returns-clause-fault
returns-clause-fault g c =
    let seen = g.D.Disk.seen in
    rw c.image_fault_of.ensures (value_fails c.args.found.now c.deref.result.now (seen c.args.device.now) (seen c.values_of.new.device) c.in-Err.why c.in-Err.ensures.refused)

pub returns-clause-undamaged : goal.returns-clause-undamaged
returns-clause-undamaged g c blocks window is here = rw c.image_fault_of.ensures (no_page_of c.in-Err.why (c.in-Err.ensures.undamaged blocks window is here))
