use Rattle.std.proofs.Common.{inr, refl, subst, sym, ◌∙◌}
use Rattle.block_map_tree.specs.History as history
use Rattle.map_page_cache.specs.Runs as runs
use Rattle.map_zone.specs.PageWrites.{SettlesNode}
use Rattle.map_zone.specs.ZoneMap.{ZoneMap}
use Rattle.map_zone.specs.contracts.zone.MapZone.{the_view}
use Rattle.map_zone.proofs.KeepLaws.{cache_keeps, forest_stays, tree_keeps}
use Rattle.map_zone.proofs.StepLaws.{leaf_out, node_out}
use Rattle.map_zone.proofs.zone.MapZone.written.Goals as goal

pub invariant_of-self : goal.invariant_of-self
invariant_of-self c =
    let m = the_view c.self.inside in
    record {
      forest = c.self.invariant.forest;
      form = cache_keeps m c.written.new.self (runs.Write c.args.page) c.self.invariant.form tt (leaf_out c.args.self.now m c.args.page c.self.view_is c.requires c.if-page-eq0.true, c.written.ensures);
    }

pub written-requires-else-page-eq0 : goal.written-requires-else-page-eq0
written-requires-else-page-eq0 c = node_out c.args.self.now (the_view c.self.inside) c.args.page c.self.view_is c.self.invariant.form c.requires c.if-page-eq0.false

pub invariant_of-self-else-page-eq0 : goal.invariant_of-self-else-page-eq0
invariant_of-self-else-page-eq0 c =
    let m = the_view c.self.inside in
    let out = node_out c.args.self.now m c.args.page c.self.view_is c.self.invariant.form c.requires c.if-page-eq0.false in
    record {
      forest = c.self.invariant.forest ∙ sym (forest_stays m.tree c.written-else-page-eq0.new.self (history.Write c.args.page) c.self.invariant.form.tree (out, c.written-else-page-eq0.ensures));
      form = tree_keeps m c.written-else-page-eq0.new.self (history.Write c.args.page) c.self.invariant.form tt (out, c.written-else-page-eq0.ensures);
    }

pub returns-else-page-eq0 : goal.returns-else-page-eq0
returns-else-page-eq0 c =
    let m = the_view c.self.inside in
    let new : ZoneMap = record m { tree = c.written-else-page-eq0.new.self } in
    inr (subst (λ (z : ZoneMap). SettlesNode z new c.args.page) c.self.view_is (record {
      out = node_out c.args.self.now m c.args.page c.self.view_is c.self.invariant.form c.requires c.if-page-eq0.false;
      writes = c.written-else-page-eq0.ensures;
      after = refl;
    }))
