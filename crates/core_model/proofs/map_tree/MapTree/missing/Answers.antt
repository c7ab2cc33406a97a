use Rattle.std.proofs.Common.{Some, ap, ◌∙◌}
use Rattle.core_model.proofs.TreeLinks.{leaf_here, missed_here}
use Rattle.core_model.proofs.map_tree.MapTree.missing.Goals as goal

pub page_above-requires : goal.page_above-requires
page_above-requires c =
    (missed_here _ _ _ c.args.at.0 _ _ c.self.view_is c.self.invariant.form c.self.invariant.height c.requires c.path.ensures.leads c.in-Missing.ensures).0

pub returns-in-Leaf : goal.returns-in-Leaf
returns-in-Leaf c = leaf_here _ _ _ c.args.at.0 _ _ c.self.view_is c.self.invariant.form c.self.invariant.height c.path.ensures.leads c.in-Leaf.ensures

pub returns-in-Missing : goal.returns-in-Missing
returns-in-Missing c =
    ap Some c.page_above.ensures
    ∙ (missed_here _ _ _ c.args.at.0 _ _ c.self.view_is c.self.invariant.form c.self.invariant.height c.requires c.path.ensures.leads c.in-Missing.ensures).1
