use Rattle.std.proofs.Common.{◌∙◌, ap, arith}
use Rattle.blk_base.specs.declared.place.PageId.{PageId}
use Rattle.block_map_tree.specs.Tree.{number_of}
use Rattle.block_map_tree.proofs.StepLaws.{linking, parent_place}
use Rattle.block_map_tree.proofs.nodes.TreeNodes.link.Goals as goal

pub parent-requires : goal.parent-requires
parent-requires c = let place = parent_place _ _ c.args.page c.self.view_is c.self.invariant c.requires.page in place.level

pub index_mut-requires : goal.index_mut-requires
index_mut-requires c =
    let place = parent_place _ _ c.args.page c.self.view_is c.self.invariant c.requires.page in
    let number = c.number-number.ensures ∙ ap (λ (p : PageId). number_of c.self.inside.forest p) c.parent.ensures in
    omega (arith, place.page_inside, number, c.self.inside.pages.ok)

pub change-requires : goal.change-requires
change-requires c =
    let place = parent_place _ _ c.args.page c.self.view_is c.self.invariant c.requires.page in
    let number = c.number-number.ensures ∙ ap (λ (p : PageId). number_of c.self.inside.forest p) c.parent.ensures in
    omega (arith, place.dirty_points_inside, number)

pub returns : goal.returns
returns c =
    linking _ _ _ _ _ _ _ _ _ _ _ c.self.view_is c.self.invariant c.requires.page c.requires.above c.requires.at c.parent.ensures c.number-number.ensures
    c.parent_slot.ensures.value c.index_mut.ensures.value c.set.ensures.after c.change.ensures

pub invariant_of-self : goal.invariant_of-self
invariant_of-self c = (returns c).form
