use Rattle.std.proofs.Common.{ℕ, ◌≡◌, ◌+◌, ◌<◌, List, [], ◌∷◌, ap₂, arith}
use Rattle.std.proofs.Math.Nat.{mod-eq_of_lt}
use Rattle.blk_base.specs.Regions.{SlabJournalSlot, block_of}
use Rattle.blk_base.specs.Sectors.{zero_block}
use Rattle.image_format.specs.Calls.{put}
use Rattle.image_format.proofs.RunLaws.{failed_as, is_failed, made_as, turn_failed, turn_made}
use Rattle.force_rebuild.proofs.slabs.empty_journal.Goals as goal

pub put-requires : goal.put-requires
put-requires g c =
    let size = c.loop-slot.invariant.stays.size in
    let room = c.requires.room in
    let inside = c.slab_journal_slot.ensures.inside in
    omega (arith, size, room, inside)

pub returns-in_err-put : goal.returns-in_err-put
returns-in_err-put g c =
    let sizes = c.args.layout.now.geometry in
    let end = c.from-slot-end.ensures in
    let before = c.loop-slot-test.true in
    let below : c.loop-slot.slot < sizes.slab_journal = omega (arith, end, before) in
    let small = mod-eq_of_lt {n = c.loop-slot.slot} {m = sizes.slab_journal} below in
    let stands = c.slab_journal_slot.ensures.block in
    let at : c.slab_journal_slot.result.0 ≡ block_of sizes (SlabJournalSlot c.args.slab 0) + c.loop-slot.slot = omega (arith, small, stands) in
    is_failed _ _ _ _ c.from_residual.result c.from_residual.ensures.0
    (turn_failed _ _ _ _ (λ (i : ℕ). put (block_of sizes (SlabJournalSlot c.args.slab 0) + i) zero_block ∷ []) c.loop-slot.slot sizes.slab_journal below c.loop-slot.invariant
    (failed_as _ _ _ _ _ (ap₂ (λ (b : ℕ) (bytes : List ℕ). put b bytes ∷ []) at c.zero-zeros.ensures) c.in_err-put.ensures))

pub loop-slot-preserved : goal.loop-slot-preserved
loop-slot-preserved g c =
    let sizes = c.args.layout.now.geometry in
    let end = c.from-slot-end.ensures in
    let before = c.loop-slot-test.true in
    let below : c.loop-slot.slot < sizes.slab_journal = omega (arith, end, before) in
    let small = mod-eq_of_lt {n = c.loop-slot.slot} {m = sizes.slab_journal} below in
    let stands = c.slab_journal_slot.ensures.block in
    let at : c.slab_journal_slot.result.0 ≡ block_of sizes (SlabJournalSlot c.args.slab 0) + c.loop-slot.slot = omega (arith, small, stands) in
    turn_made _ _ _ _ (λ (i : ℕ). put (block_of sizes (SlabJournalSlot c.args.slab 0) + i) zero_block ∷ []) c.loop-slot.slot _ (omega arith) c.loop-slot.invariant
    (made_as _ _ _ _ _ (ap₂ (λ (b : ℕ) (bytes : List ℕ). put b bytes ∷ []) at c.zero-zeros.ensures) c.in_ok-put.ensures)
