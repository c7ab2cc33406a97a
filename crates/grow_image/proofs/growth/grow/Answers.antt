use Rattle.std.proofs.Common.{arith}
use Rattle.grow_image.proofs.GrowthLaws.{not_opened, opened_ended}
use Rattle.grow_image.proofs.growth.grow.Goals as goal

pub returns-in-Ok : goal.returns-in-Ok
returns-in-Ok g c = opened_ended _ c.args.logical c.args.slabs _ (g.D.Disk.seen c.open_clean.new.device) _ c.in-Ok.opened c.in-Ok.ensures (omega arith) c.grow_opened.result c.grow_opened.ensures

pub returns-in-Err : goal.returns-in-Err
returns-in-Err g c = not_opened _ c.args.logical c.args.slabs _ _ c.in-Err.why c.in-Err.ensures
