use Rattle.std.proofs.Common.{true, false, slice_set, refl}
use Rattle.disk_model.specs.Memory.{after_failed_write}
use Rattle.disk_model.specs.declared.call.Call.TheVariants.{Write}
use Rattle.crash_images.proofs.CutLaws.{after_call}
use Rattle.crash_images.proofs.cut.CutDiskDisk.write.Goals as goal

pub invariant_of-self : goal.invariant_of-self
invariant_of-self c =
    let disk = c.self.inside.disk in
    let at = c.args.at in
    let bytes = c.args.from.now in
    after_call c.self.inside.passes disk c.write.new.self c.self.invariant c.write.result (Write at bytes true) (Write at bytes false) (slice_set disk.blocks at.0 bytes) (after_failed_write disk at.0 bytes) refl refl
    c.write.ensures.exact_ok c.write.ensures.exact_err
