use Rattle.map_zone.proofs.StepLaws.{applies_remap}
use Rattle.map_zone.proofs.zone.MapZone.apply.Goals as goal

pub returns-in-Remap : goal.returns-in-Remap
returns-in-Remap c =
    applies_remap c.args.self.now c.remap.new.self c.args.entry.now.entry c.in-Remap.at c.in-Remap.old c.in-Remap.new c.args.entry.now.point c.remap.result c.in-Remap.is
    c.remap.ensures.done c.remap.ensures.needs
