use Rattle.std.proofs.Common.{[], ◌∷◌, refl}
use Rattle.disk_model.proofs.SinceLaws.{one_read, one_failed, were_only_read, next_only_read}
use Rattle.disk_model.proofs.reads.read_block.Goals as goal

pub returns-in_default-clause-failed : goal.returns-in_default-clause-failed
returns-in_default-clause-failed g c =
    one_failed g.D.Disk.trust c.args.at.0 _ _ c.args.at c.read.new.into refl c.read.ensures.stays
    (record { faults = c.read.ensures.cause.later; unkept = c.read.ensures.unkept }) c.in_default.ensures.cause.failed c.in_default.ensures.err

pub returns-in_default-clause-untouched : goal.returns-in_default-clause-untouched
returns-in_default-clause-untouched g c = next_only_read _ c.args.at.0 _ _ [] (returns-in_default-clause-failed g c)

pub returns-clause-read : goal.returns-clause-read
returns-clause-read g c =
    one_read _ c.args.at.0 _ _ c.args.at c.read.new.into refl (g.met.D.Disk.told c.args.device.now) c.read.ensures.stays
    (record { faults = c.read.ensures.cause.later; unkept = c.read.ensures.unkept }) c.in-Ok.ensures.whole c.in-Ok.ensures.given c.in-Ok.ensures.ok

pub returns-clause-untouched : goal.returns-clause-untouched
returns-clause-untouched g c = were_only_read _ c.args.at.0 _ _ (c.read.new.into ∷ []) (returns-clause-read g c)
