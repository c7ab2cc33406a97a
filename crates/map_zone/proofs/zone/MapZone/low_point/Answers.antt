use Rattle.map_zone.specs.contracts.zone.MapZone.{the_view}
use Rattle.map_zone.proofs.StepLaws.{low_none, low_some}
use Rattle.map_zone.proofs.zone.MapZone.low_point.Goals as goal

pub returns-clause-some : goal.returns-clause-some
returns-clause-some c =
    low_some c.args.self.now (the_view c.self.inside) c.low_point.result c.low_point-2.result c.lesser_point.result c.self.view_is c.low_point.ensures.some c.low_point.ensures.none
    c.low_point-2.ensures.some c.low_point-2.ensures.none c.lesser_point.ensures

pub returns-clause-none : goal.returns-clause-none
returns-clause-none c =
    low_none c.args.self.now (the_view c.self.inside) c.low_point.result c.low_point-2.result c.lesser_point.result c.self.view_is c.low_point.ensures.none c.low_point-2.ensures.none
    c.lesser_point.ensures
