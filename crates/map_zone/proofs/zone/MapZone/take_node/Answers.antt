use Rattle.std.proofs.Common.{refl, subst, sym, ◌∙◌}
use Rattle.dirty_pages.specs.DirtyPoints.{NoneIsDue}
use Rattle.block_map_tree.specs.History as history
use Rattle.map_zone.specs.ZoneMap.{ZoneMap}
use Rattle.map_zone.specs.contracts.zone.MapZone.{the_view}
use Rattle.map_zone.proofs.KeepLaws.{forest_stays, tree_keeps}
use Rattle.map_zone.proofs.StepLaws.{no_node_due, takes_node}
use Rattle.map_zone.proofs.zone.MapZone.take_node.Goals as goal

pub returns-in_err-page-clause-none : goal.returns-in_err-page-clause-none
returns-in_err-page-clause-none c =
    rw c.from_residual.ensures
    (no_node_due c.args.self.now c.args.point c.requires (subst (λ (m : ZoneMap). NoneIsDue m.tree.dirty_points c.args.point) c.self.view_is c.in_err-page.ensures.none))

pub invariant_of-self-2 : goal.invariant_of-self-2
invariant_of-self-2 c =
    let m = the_view c.self.inside in
    record {
      forest = c.self.invariant.forest
          ∙ sym (forest_stays m.tree c.take_expired.new.self (history.HandOut c.in_ok-page.page) c.self.invariant.form.tree (c.args.point, c.take_expired.new.into, c.in_ok-page.ensures.some));
      form = tree_keeps m c.take_expired.new.self (history.HandOut c.in_ok-page.page) c.self.invariant.form tt (c.args.point, c.take_expired.new.into, c.in_ok-page.ensures.some);
    }

pub returns-clause-some : goal.returns-clause-some
returns-clause-some c =
    takes_node c.args.self.now (the_view c.self.inside) c.take_expired.new.self c.args.point c.in_ok-page.page c.take_expired.new.into.head.at c.take_expired.new.into c.encode.new.into
    c.self.view_is c.requires c.in_ok-page.ensures.some refl c.encode.ensures
