use Rattle.std.proofs.Common.{subst, sym}
use Rattle.block_map_tree.specs.Tree.{IsThere as IsLinked}
use Rattle.map_zone.specs.ZoneMap.{ZoneMap}
use Rattle.map_zone.proofs.zone.MapZone.block_of.Goals as goal

pub unreachable-requires : goal.unreachable-requires
unreachable-requires c =
    let linked = subst (λ (m : ZoneMap). IsLinked m.tree c.args.page) (sym c.self.view_is) c.requires in
    c.in-None.ensures.none linked.at linked.stands
