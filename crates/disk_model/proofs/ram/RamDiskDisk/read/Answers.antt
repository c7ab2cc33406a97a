use Rattle.std.proofs.Common.{◌<◌, length, arith, ap, ◌∙◌}
use Rattle.std.proofs.lemmas.List.{get_or_read}
use Rattle.blk_base.specs.Sectors.{zero_block}
use Rattle.disk_model.specs.Ram.{Ram}
use Rattle.disk_model.proofs.Honest.{given}
use Rattle.disk_model.proofs.ram.RamDiskDisk.read.Goals as goal

pub returns-clause-given : goal.returns-clause-given
returns-clause-given c =
    let here : c.args.at.0 < length c.self.inside.blocks.items = omega (arith, ap (λ (ram : Ram). length ram.opening) c.self.view_is, c.self.invariant.size) in
    rw (← c.self.view_is) (given _ _ _ c.args.at.0 _ c.self.invariant here
    (c.copy_from.ensures.same ∙ get_or_read c.self.inside.blocks.items c.args.at.0 c.index.result.now here c.index.ensures zero_block))
