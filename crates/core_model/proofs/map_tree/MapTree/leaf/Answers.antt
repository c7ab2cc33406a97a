use Rattle.core_model.proofs.TreeLinks.{leaf_known, leaf_unknown}
use Rattle.core_model.proofs.map_tree.MapTree.leaf.Goals as goal

pub returns-in-Leaf : goal.returns-in-Leaf
returns-in-Leaf c = leaf_known _ _ _ c.args.at.0 _ _ c.self.view_is c.self.invariant.form c.self.invariant.height c.requires c.path.ensures.leads c.in-Leaf.ensures

pub returns-in-Missing : goal.returns-in-Missing
returns-in-Missing c = leaf_unknown _ _ _ c.args.at.0 _ _ c.self.view_is c.self.invariant.form c.self.invariant.height c.requires c.path.ensures.leads c.in-Missing.ensures
