use Rattle.std.proofs.Common.{IfNone, IfSome, subst}
use Rattle.blk_base.specs.declared.place.PageId.{PageId}
use Rattle.blk_base.specs.declared.place.Pbn.{Pbn}
use Rattle.block_map_tree.specs.Pages.{IsOnPath, IsRoot}
use Rattle.block_map_tree.specs.Tree.{IsAt, Tree}
use Rattle.block_map_tree.proofs.StepLaws.{linkable_so}
use Rattle.block_map_tree.proofs.nodes.TreeNodes.may_link.Goals as goal

pub returns-then-is_below_a_root : goal.returns-then-is_below_a_root
returns-then-is_below_a_root c =
    linkable_so c.args.self.now c.args.page c.at.result c.is_some.result
    (subst (λ (t : Tree). IsOnPath t.forest c.args.page × (IsRoot t.forest c.args.page → ⊥)) c.self.view_is (c.is_below_a_root.ensures.0 c.if-is_below_a_root.true))
    (subst (λ (p : PageId). IfSome c.at.result (IsAt c.args.self.now p)) c.parent.ensures c.at.ensures.some)
    (subst (λ (p : PageId). IfNone c.at.result ((at : Pbn) → IsAt c.args.self.now p at → ⊥)) c.parent.ensures c.at.ensures.none)
    c.is_some.ensures
