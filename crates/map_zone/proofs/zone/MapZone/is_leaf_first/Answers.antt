use Rattle.map_zone.specs.contracts.zone.MapZone.{the_view}
use Rattle.map_zone.proofs.StepLaws.{leaf_first, node_first}
use Rattle.map_zone.proofs.zone.MapZone.is_leaf_first.Goals as goal

pub returns-clause-yes : goal.returns-clause-yes
returns-clause-yes c =
    leaf_first c.args.self.now (the_view c.self.inside) c.first_due.result c.first_due-2.result c.comes_first.result c.self.view_is c.first_due.ensures.some c.first_due-2.ensures.some
    c.first_due-2.ensures.none c.comes_first.ensures

pub returns-clause-no : goal.returns-clause-no
returns-clause-no c =
    node_first c.args.self.now (the_view c.self.inside) c.first_due.result c.first_due-2.result c.comes_first.result c.self.view_is c.first_due.ensures.some c.first_due-2.ensures.some
    c.first_due.ensures.none c.comes_first.ensures
