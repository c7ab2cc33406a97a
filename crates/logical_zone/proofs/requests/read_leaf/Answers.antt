use Rattle.std.proofs.Common.{◌≡◌, ◌∙◌, Some, sym, refl, subst}
use Rattle.data_vio.specs.declared.items.Vio.{Vio}
use Rattle.core_model.specs.PageTrees.{leaf_at}
use Rattle.core_model.specs.LogicalRules.LogicalServes.{needs_leaf}
use Rattle.logical_zone.proofs.requests.read_leaf.Goals as goal

pub returns : goal.returns
returns c =
    let at = subst (λ (v : Vio). leaf_at c.args.zone.now.tree v.at.0 ≡ Some c.in-Some.leaf) c.get.ensures (sym c.leaf.ensures ∙ c.in-Some.is) in
    needs_leaf c.in-Some.leaf c.requires.phase c.requires.path c.requires.stays c.requires.leaf c.requires.unknown at refl refl (rw c.read_leaf.ensures at c.first.ensures)
