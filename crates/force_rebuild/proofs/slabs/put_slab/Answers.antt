use Rattle.std.proofs.Common.{List, ℕ, ap}
use Rattle.blk_base.specs.Regions.{SlabJournalSlot, block_of, references_of}
use Rattle.image_format.specs.Calls.{zeros_from}
use Rattle.image_format.proofs.RunLaws.{failed_before, is_failed, makes_as, then_made}
use Rattle.force_rebuild.specs.Calls.{counters_below}
use Rattle.force_rebuild.specs.Written.{counters_of_slab}
use Rattle.force_rebuild.proofs.slabs.put_slab.Goals as goal

pub returns-in_err-empty_journal : goal.returns-in_err-empty_journal
returns-in_err-empty_journal g c =
    let sizes = c.args.layout.now.geometry in
    is_failed _ _ _ _ c.from_residual.result c.from_residual.ensures.0
    (failed_before _ _ _ (zeros_from (block_of sizes (SlabJournalSlot c.args.slab 0)) sizes.slab_journal)
    (counters_below sizes c.args.commit.0 c.args.slab (counters_of_slab sizes c.args.counters.now c.args.slab) (references_of sizes)) c.in_err-empty_journal.ensures)

pub returns : goal.returns
returns g c =
    let sizes = c.args.layout.now.geometry in
    then_made _ _ _ _ (zeros_from (block_of sizes (SlabJournalSlot c.args.slab 0)) sizes.slab_journal)
    (counters_below sizes c.args.commit.0 c.args.slab (counters_of_slab sizes c.args.counters.now c.args.slab) (references_of sizes)) c.put_counters.result
    c.in_ok-empty_journal.ensures
    (makes_as _ _ _ _ _ c.put_counters.result (ap (λ (own : List ℕ). counters_below sizes c.args.commit.0 c.args.slab own (references_of sizes)) c.of_slab.ensures) c.put_counters.ensures)
