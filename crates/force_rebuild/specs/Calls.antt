-- The calls that rebuild an image, the newest first.
use Rattle.std.specs.Prelude.{ℕ, true, List, [], ◌∷◌, ◌++◌}
use Rattle.std.specs.List.{AllByRecursion}
use Rattle.blk_base.specs.Regions.{ReferenceBlock, SlabJournalSlot, block_of, references_of}
use Rattle.blk_base.specs.declared.geometry.Geometry.{Geometry}
use Rattle.disk_model.specs.declared.call.Call.{Call}
use Rattle.disk_model.specs.declared.call.Call.TheVariants.{Flush}
use Rattle.image_format.specs.Calls.{calls_below, put, zeros_from}
use Rattle.image_layout.specs.Superblock.{super_block}
use Rattle.image_model.specs.Maps.{Image}
use Rattle.rebuild.specs.Acts.{IsPageCall}
use Rattle.rebuild.specs.Done.{ArePagesDone}
use Rattle.recovery_laws.specs.Kept.{recovered_super}
use Rattle.force_rebuild.specs.Written.{commit_behind, counted_block, counters_of_slab}

-- The pages: reads and writes of whole pages in any order, and among them a write of each page with a slot into which the
-- window puts something.
pub record ArePagePuts (image : Image) (calls : List Call) : Type 0 where
  pub each : AllByRecursion (IsPageCall image) calls
  pub all : ArePagesDone image calls

-- The slabs: the first blocks of the counters of one,
abbrev pub counters_below : Geometry → ℕ → ℕ → List ℕ → ℕ → List Call
counters_below g commit slab own n = calls_below (λ i. put (block_of g (ReferenceBlock slab i)) (counted_block g commit own i) ∷ []) n

-- its journal as zeros and then its counters,
abbrev pub slab_calls : Geometry → ℕ → List ℕ → ℕ → List Call
slab_calls g commit counters slab =
    counters_below g commit slab (counters_of_slab g counters slab) (references_of g) ++ zeros_from (block_of g (SlabJournalSlot slab 0)) g.slab_journal

-- and those of the first slabs, of the counters of all data blocks in a row
unfoldable pub slabs_below : Geometry → ℕ → List ℕ → ℕ → List Call
slabs_below g commit counters n = calls_below (slab_calls g commit counters) n

-- Behind the last sequence: the slabs, and a flush, so that all is on the device; then the superblock, and a flush.
abbrev pub closing_calls : Geometry → ℕ → List ℕ → List Call
closing_calls g last counters =
    Flush true ∷ put 0 (super_block (recovered_super g last)) ∷ Flush true ∷ slabs_below g (commit_behind last) counters g.slabs

-- All calls.
abbrev pub forced_calls : Geometry → ℕ → List ℕ → List Call → List Call
forced_calls g last counters puts = closing_calls g last counters ++ puts
