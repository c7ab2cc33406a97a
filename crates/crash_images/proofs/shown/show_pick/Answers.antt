use Rattle.std.proofs.Common.{true, subst}
use Rattle.disk_model.specs.Ram.{Ram, ram_seen}
use Rattle.disk_model.specs.Trust.{trust_of}
use Rattle.crash_images.specs.Shows.{ShowsNothing}
use Rattle.crash_images.proofs.ShownLaws.{pick_refused}
use Rattle.crash_images.proofs.shown.show_pick.Goals as goal

pub returns-clause-fault : goal.returns-clause-fault
returns-clause-fault c =
    let now = ram_seen c.show.new.device in
    rw c.pick_fault_of.ensures
    (pick_refused c.args.disk.now c.args.number c.in-Ok.ensures.0 now c.in-Err.why c.in-Ok.ensures.2
    (subst (λ (disk : Ram). ShowsNothing (trust_of true true) (ram_seen disk) now c.in-Err.why) c.in-Ok.ensures.1 c.in-Err.ensures.nothing))
