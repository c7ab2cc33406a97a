use Rattle.std.proofs.Common.{◌≡◌, true, false, subst, sym}
use Rattle.block_map_tree.specs.Tree.{IsThere as IsLinked}
use Rattle.map_zone.specs.ZoneMap.{ZoneMap}
use Rattle.map_zone.proofs.zone.MapZone.is_linked.Goals as goal

pub returns-in-None : goal.returns-in-None
returns-in-None c = (
  (λ never. let no' : false ≡ true = never in absurd (cc)),
  (λ linked.
      let here = subst (λ (m : ZoneMap). IsLinked m.tree c.args.page) (sym c.self.view_is) linked in
      absurd (c.in-None.ensures.none here.at here.stands)),
)
