use Rattle.std.proofs.Common.{true, false, refl}
use Rattle.disk_model.specs.declared.call.Call.TheVariants.{Flush}
use Rattle.crash_images.proofs.CutLaws.{after_call}
use Rattle.crash_images.proofs.cut.CutDiskDisk.flush.Goals as goal

pub invariant_of-self : goal.invariant_of-self
invariant_of-self c =
    let disk = c.self.inside.disk in
    after_call c.self.inside.passes disk c.flush.new.self c.self.invariant c.flush.result (Flush true) (Flush false) disk.blocks disk.blocks refl refl c.flush.ensures.exact_ok c.flush.ensures.exact_err
