use Rattle.std.proofs.Common.{ℕ, ◌+◌, ◌∙◌, List, slice_index_or, refl, ap, subst, arith}
use Rattle.blk_base.specs.declared.geometry.Geometry.{Geometry}
use Rattle.block_map_tree.specs.Tree.{Tree, IsTree}
use Rattle.block_map_tree.proofs.FindLaws.{walk_begins, walk_goes, walk_ends, walk_misses, index_small}
use Rattle.block_map_tree.proofs.nodes.TreeNodes.find.Goals as goal

pub loop-depth-init : goal.loop-depth-init
loop-depth-init c =
    walk_begins c.args.self.now c.args.path.now c.root-found.result (subst (λ (t : Tree). IsTree t) c.self.view_is c.self.invariant) c.requires.tree
    (c.root-found.ensures.block ∙ ap (λ (j : ℕ). 1 + j + c.args.path.now.tree) (ap (λ (g : Geometry). g.journal) c.of.ensures ∙ ap (λ (t : Tree). t.forest.geometry.journal) c.self.view_is))

pub overflow_mul-index : goal.overflow_mul-index
overflow_mul-index c =
    let small = index_small c.args.self.now c.args.path.now _ _ (slice_index_or c.args.path.now.slots c.loop-depth.depth 0) _ (subst (λ (t : Tree). IsTree t) c.self.view_is c.self.invariant) c.requires.path c.loop-depth.invariant
    (let same = ap (λ (t : Tree). t.forest.geometry.height) c.self.view_is in let below = c.loop-depth-test.true in omega arith) refl in
    omega (arith, small.2)

pub overflow_add-index : goal.overflow_add-index
overflow_add-index c =
    let small = index_small c.args.self.now c.args.path.now _ _ c.from.result _ (subst (λ (t : Tree). IsTree t) c.self.view_is c.self.invariant) c.requires.path c.loop-depth.invariant
    (let same = ap (λ (t : Tree). t.forest.geometry.height) c.self.view_is in let below = c.loop-depth-test.true in omega arith) (c.from.ensures ∙ ap (λ (s : List ℕ). slice_index_or s c.loop-depth.depth 0) c.as_slice-slots.ensures) in
    omega (arith, small.2)

pub returns-in-None : goal.returns-in-None
returns-in-None c =
    walk_misses c.args.self.now c.args.path.now _ _ _ _ _ (subst (λ (t : Tree). IsTree t) c.self.view_is c.self.invariant) c.requires.path
    (ap (λ (t : Tree). t.forest.geometry.height) c.self.view_is) c.loop-depth.invariant c.loop-depth-test.true
    (c.from.ensures ∙ ap (λ (s : List ℕ). slice_index_or s c.loop-depth.depth 0) c.as_slice-slots.ensures) c.in-None.ensures.none

pub loop-depth-preserved : goal.loop-depth-preserved
loop-depth-preserved c =
    walk_goes c.args.self.now c.args.path.now _ _ _ _ _ _ (subst (λ (t : Tree). IsTree t) c.self.view_is c.self.invariant) c.requires.path
    (ap (λ (t : Tree). t.forest.geometry.height) c.self.view_is) c.loop-depth.invariant c.loop-depth-test.true
    (c.from.ensures ∙ ap (λ (s : List ℕ). slice_index_or s c.loop-depth.depth 0) c.as_slice-slots.ensures) c.in-Some.ensures.some

pub returns : goal.returns
returns c = walk_ends c.args.self.now c.args.path.now _ _ _ c.loop-depth.invariant
    (let same = ap (λ (t : Tree). t.forest.geometry.height) c.self.view_is in let end = c.loop-depth-test.false in omega arith)
