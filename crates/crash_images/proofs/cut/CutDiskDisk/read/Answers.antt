use Rattle.std.proofs.Common.{true, false, OnOk, refl, subst}
use Rattle.disk_model.specs.Images.{IsMixOf}
use Rattle.disk_model.specs.Log.{settled}
use Rattle.disk_model.specs.declared.call.Call.TheVariants.{Read}
use Rattle.crash_images.specs.Cuts.{Cut}
use Rattle.crash_images.proofs.CutLaws.{after_call}
use Rattle.crash_images.proofs.cut.CutDiskDisk.read.Goals as goal

pub invariant_of-self : goal.invariant_of-self
invariant_of-self c =
    let disk = c.self.inside.disk in
    let bytes = c.read.new.into in
    after_call c.self.inside.passes disk c.read.new.self c.self.invariant c.read.result (Read c.args.at bytes true) (Read c.args.at bytes false) disk.blocks disk.blocks refl refl c.read.ensures.exact_ok c.read.ensures.exact_err

pub returns-clause-given : goal.returns-clause-given
returns-clause-given c = λ told fair. subst (λ (cut : Cut). OnOk c.read.result (IsMixOf (settled cut.disk.opening cut.disk.log c.args.at.0) c.read.new.into)) c.self.view_is c.read.ensures.given
