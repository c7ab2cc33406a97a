use Rattle.vdo_core.proofs.StartLaws.{empty_first, one_more}
use Rattle.vdo_core.proofs.start.add.Goals as goal

pub returns-clause-first : goal.returns-clause-first
returns-clause-first c s sizes first each =
    let zone = empty_first s c.args.sizes.now c.args.number c.zone_count.result c.args.keeps _ sizes c.in_ok-ports.ensures c.zone_count.ensures first in
    one_more s _ _ _ c.args.number c.in_ok-push.ensures c.requires.there zone each
