use Rattle.std.proofs.Common.{ℕ, List, [], ◌∷◌, ap₂, arith}
use Rattle.blk_base.specs.Regions.{ReferenceBlock, block_of, references_of}
use Rattle.image_format.specs.Calls.{put}
use Rattle.image_format.proofs.RunLaws.{failed_as, is_failed, made_as, turn_failed, turn_made}
use Rattle.force_rebuild.specs.Written.{counted_block}
use Rattle.force_rebuild.proofs.slabs.put_counters.Goals as goal

pub put-requires : goal.put-requires
put-requires g c =
    let size = c.loop-i.invariant.stays.size in
    let room = c.requires.room in
    let inside = c.reference_block.ensures.inside in
    omega (arith, size, room, inside)

pub returns-in_err-put : goal.returns-in_err-put
returns-in_err-put g c =
    let sizes = c.args.layout.now.geometry in
    let count = c.references-i-end.ensures in
    let below = c.loop-i-test.true in
    is_failed _ _ _ _ c.from_residual.result c.from_residual.ensures.0
    (turn_failed _ _ _ _ (λ (i : ℕ). put (block_of sizes (ReferenceBlock c.args.slab i)) (counted_block sizes c.args.commit.0 c.args.own.now i) ∷ []) c.loop-i.i (references_of sizes)
    (omega (arith, below, count)) c.loop-i.invariant
    (failed_as _ _ _ _ _ (ap₂ (λ (b : ℕ) (bytes : List ℕ). put b bytes ∷ []) c.reference_block.ensures.block c.counters_block.ensures) c.in_err-put.ensures))

pub loop-i-preserved : goal.loop-i-preserved
loop-i-preserved g c =
    let sizes = c.args.layout.now.geometry in
    turn_made _ _ _ _ (λ (i : ℕ). put (block_of sizes (ReferenceBlock c.args.slab i)) (counted_block sizes c.args.commit.0 c.args.own.now i) ∷ []) c.loop-i.i _ (omega arith) c.loop-i.invariant
    (made_as _ _ _ _ _ (ap₂ (λ (b : ℕ) (bytes : List ℕ). put b bytes ∷ []) c.reference_block.ensures.block c.counters_block.ensures) c.in_ok-put.ensures)
