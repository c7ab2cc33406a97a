use Rattle.std.proofs.Common.{ℕ, List, arith, ◌∷◌, [], ap₂}
use Rattle.blk_base.specs.Regions.{Root, block_of}
use Rattle.image_format.specs.Calls.{put}
use Rattle.image_model.specs.Empty.{empty_root}
use Rattle.image_format.proofs.RunLaws.{failed_as, is_failed, turn_failed}
use Rattle.image_format.proofs.calls.put_roots.Goals as goal

pub put-requires : goal.put-requires
put-requires g c = omega (arith, c.root.ensures.inside, c.requires, c.loop-tree.invariant.stays.size)

pub returns-in_err-put : goal.returns-in_err-put
returns-in_err-put g c =
    let sizes = c.args.layout.now.geometry in
    is_failed _ _ _ _ c.from_residual.result c.from_residual.ensures.0
    (turn_failed _ _ _ _ (λ (tree : ℕ). put (block_of sizes (Root tree)) (empty_root sizes tree) ∷ []) c.loop-tree.tree 60 c.loop-tree-test.true c.loop-tree.invariant
    (failed_as _ _ _ _ _ (ap₂ (λ (at : ℕ) (b : List ℕ). put at b ∷ []) c.root.ensures.block c.root_page.ensures) c.in_err-put.ensures))
