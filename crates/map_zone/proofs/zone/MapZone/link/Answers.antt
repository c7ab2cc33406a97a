use Rattle.std.proofs.Common.{sym, subst, ◌∙◌}
use Rattle.block_map_tree.specs.History as history
use Rattle.map_zone.specs.Lookups.{MayAddPage}
use Rattle.map_zone.specs.ZoneMap.{ZoneMap}
use Rattle.map_zone.specs.contracts.zone.MapZone.{the_view}
use Rattle.map_zone.proofs.KeepLaws.{forest_stays, tree_keeps}
use Rattle.map_zone.proofs.zone.MapZone.link.Goals as goal

pub invariant_of-self : goal.invariant_of-self
invariant_of-self c =
    let m = the_view c.self.inside in
    let may = subst (λ (z : ZoneMap). MayAddPage z c.args.page c.args.at) (sym c.self.view_is) c.requires in
    record {
      forest = c.self.invariant.forest ∙ sym (forest_stays m.tree c.link.new.self (history.Link c.args.page c.args.at c.args.point) c.self.invariant.form.tree (may.linkable, c.link.ensures));
      form = tree_keeps m c.link.new.self (history.Link c.args.page c.args.at c.args.point) c.self.invariant.form may.missing (may.linkable, c.link.ensures);
    }
