use Rattle.std.proofs.Common.{ap, sym, subst, ◌∙◌}
use Rattle.block_map_tree.specs.Tree.{Tree, Links}
use Rattle.core_model.specs.PageTrees.{least_point}
use Rattle.core_model.proofs.map_tree.MapTree.link.Goals as goal

pub link-requires : goal.link-requires
link-requires c = record {
  page = rw c.self.view_is c.requires.linkable;
  above = rw c.self.view_is c.requires.up;
  at = rw c.self.view_is c.requires.is_data;
}

pub returns : goal.returns
returns c = subst (λ (t : Tree). Links t c.link.new.self c.args.page c.args.at least_point) c.self.view_is c.link.ensures

pub invariant_of-self : goal.invariant_of-self
invariant_of-self c = record {
  height = c.self.invariant.height ∙ sym (ap (λ (t : Tree). t.forest.geometry.height) c.link.ensures.set);
  form = c.link.ensures.form;
}
