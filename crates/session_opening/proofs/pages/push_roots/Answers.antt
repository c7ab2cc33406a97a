use Rattle.std.proofs.Common.{ℕ, ◌≡◌, subst, arith}
use Rattle.blk_base.specs.declared.sizes.TheConstants.{TREES}
use Rattle.session_opening.proofs.PageLaws.{none_added, root_next}
use Rattle.session_opening.specs.Pages.{AreAdded, roots_below}
use Rattle.session_opening.proofs.pages.push_roots.Goals as goal

pub loop-tree-init : goal.loop-tree-init
loop-tree-init c links are = none_added links _

pub loop-tree-preserved : goal.loop-tree-preserved
loop-tree-preserved c links are =
    root_next links c.args.layout.now.geometry c.loop-tree.tree _ _ _ _ c.root.ensures.link (c.loop-tree.invariant links are) (c.in_ok-push_page.ensures links are)

pub returns : goal.returns
returns c links are =
    let inside = c.loop-tree.auto.tree-end in
    let ended = c.loop-tree-test.false in
    let all : c.loop-tree.tree ≡ TREES = omega (arith, inside, ended) in
    subst (λ (n : ℕ). AreAdded links (roots_below c.args.layout.now.geometry n) c.args.pages.now.items c.loop-tree.pages.items) all (c.loop-tree.invariant links are)
