use Rattle.std.proofs.Common.{length, ◌∙◌, ap}
use Rattle.blk_base.specs.Sectors.{sector}
use Rattle.disk_model.proofs.PickLaws.{copied_here, copied_other, copied_size}
use Rattle.disk_model.proofs.picks.copy_sector.Goals as goal

pub returns-clause-size : goal.returns-clause-size
returns-clause-size c = ap length c.copy_bytes.ensures ∙ copied_size c.args.i c.into.inside.bytes c.from.inside.bytes c.requires c.into.told c.from.told

pub returns-clause-here : goal.returns-clause-here
returns-clause-here c =
    ap (sector c.args.i) c.copy_bytes.ensures
    ∙ copied_here c.args.i c.into.inside.bytes c.from.inside.bytes c.requires c.into.told c.from.told
    ∙ ap (sector c.args.i) c.from.view_is

pub returns-clause-others : goal.returns-clause-others
returns-clause-others c j below other =
    ap (sector j) c.copy_bytes.ensures
    ∙ copied_other c.args.i c.into.inside.bytes c.from.inside.bytes c.requires c.into.told c.from.told j other
    ∙ ap (sector j) c.into.view_is
