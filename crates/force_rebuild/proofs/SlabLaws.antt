-- The calls that write the slabs: each writes what is to stand at its place, and each place is written.
use Rattle.std.proofs.Common.{ℕ, ◌≡◌, ◌+◌, ◌<◌, ◌≤◌, true, false, List, [], ◌∷◌, length, refl, inl, arith}
use Rattle.std.specs.List.{AllByRecursion}
use Rattle.blk_base.specs.Regions.{Place, Superblock, JournalSlot, Root, IndexBlock, DataBlock, ReferenceBlock, SlabJournalSlot, IsPlace, block_of, references_of}
use Rattle.blk_base.specs.Sectors.{zero_block}
use Rattle.blk_base.specs.declared.geometry.Geometry.{Geometry}
use Rattle.disk_model.specs.declared.call.Call.{Call}
use Rattle.disk_model.specs.declared.call.Call.TheVariants.{Read, Write, Flush}
use Rattle.image_format.specs.Calls.{put, zeros_from}
use Rattle.image_format.proofs.StopLaws.{all_append, zero_size, written_front, written_back, written_below, all_below}
use Rattle.disk_model.specs.Log.{IsWritten}
use Rattle.force_rebuild.proofs.CounterLaws.{length-counted}
use Rattle.force_rebuild.specs.Calls.{counters_below, slab_calls, slabs_below}
use Rattle.force_rebuild.specs.Kept.{IsSlabPlace}
use Rattle.force_rebuild.specs.Written.{counted_block, counters_of_slab, slab_block}

-- Calls for each number below n.

module _ (g : Geometry) (commit : ℕ) (counters : List ℕ) where
  -- a write of what is to stand at a place of a slab
  pub record IsSlabPut (at : ℕ) (bytes : List ℕ) : Type 0 where
    pub place : Place
    pub there : IsPlace g place
    pub slab : IsSlabPlace place
    pub stands : block_of g place ≡ at
    pub made : bytes ≡ slab_block g commit counters place

  abbrev pub IsSlabCall : Call → Type 0
  IsSlabCall (Write at bytes true) = IsSlabPut at.0 bytes
  IsSlabCall (Write at bytes false) = ⊥
  IsSlabCall (Read _ _ _) = ⊥
  IsSlabCall (Flush _) = ⊥

  pub length-slab_block : (place : Place) → length (slab_block g commit counters place) ≡ 4096
  length-slab_block Superblock = zero_size
  length-slab_block (JournalSlot _) = zero_size
  length-slab_block (Root _) = zero_size
  length-slab_block (IndexBlock _) = zero_size
  length-slab_block (DataBlock _ _) = zero_size
  length-slab_block (ReferenceBlock slab i) = length-counted g commit (counters_of_slab g counters slab) i
  length-slab_block (SlabJournalSlot _ _) = zero_size

  counters_right : (slab n : ℕ) → slab < g.slabs → n ≤ references_of g → AllByRecursion IsSlabCall (counters_below g commit slab (counters_of_slab g counters slab) n)
  counters_right slab n inside few =
      all_below IsSlabCall (λ i. put (block_of g (ReferenceBlock slab i)) (counted_block g commit (counters_of_slab g counters slab) i) ∷ []) n
      (λ i below. (record { place = ReferenceBlock slab i; there = (inside, omega (arith, below, few)); slab = tt; stands = refl; made = refl }, tt))

  zeros_right : (slab n : ℕ) → slab < g.slabs → n ≤ g.slab_journal → AllByRecursion IsSlabCall (zeros_from (block_of g (SlabJournalSlot slab 0)) n)
  zeros_right slab n inside few =
      all_below IsSlabCall (λ i. put (block_of g (SlabJournalSlot slab 0) + i) zero_block ∷ []) n
      (λ i below. (record { place = SlabJournalSlot slab i; there = (inside, omega (arith, below, few)); slab = tt; stands = omega arith; made = refl }, tt))

  pub slabs_right : AllByRecursion IsSlabCall (slabs_below g commit counters g.slabs)
  unfolding slabs_below
  slabs_right =
      all_below IsSlabCall (slab_calls g commit counters) g.slabs
      (λ slab inside. all_append IsSlabCall (counters_below g commit slab (counters_of_slab g counters slab) (references_of g)) (zeros_from (block_of g (SlabJournalSlot slab 0)) g.slab_journal)
      (counters_right slab (references_of g) inside (omega arith)) (zeros_right slab g.slab_journal inside (omega arith)))

  slab_written : (place : Place) (slab : ℕ) → slab < g.slabs → IsWritten (slab_calls g commit counters slab) (block_of g place) → IsWritten (slabs_below g commit counters g.slabs) (block_of g place)
  unfolding slabs_below
  slab_written place slab inside is = written_below (slab_calls g commit counters) g.slabs slab (block_of g place) inside is

  pub slabs_written : (place : Place) → IsPlace g place → IsSlabPlace place → IsWritten (slabs_below g commit counters g.slabs) (block_of g place)
  slabs_written (ReferenceBlock slab i) is slab_place =
      slab_written (ReferenceBlock slab i) slab is.0
      (written_front (counters_below g commit slab (counters_of_slab g counters slab) (references_of g)) (zeros_from (block_of g (SlabJournalSlot slab 0)) g.slab_journal) (block_of g (ReferenceBlock slab i))
      (written_below (λ k. put (block_of g (ReferenceBlock slab k)) (counted_block g commit (counters_of_slab g counters slab) k) ∷ []) (references_of g) i (block_of g (ReferenceBlock slab i)) is.1
      (inl refl)))
  slabs_written (SlabJournalSlot slab i) is slab_place =
      slab_written (SlabJournalSlot slab i) slab is.0
      (written_back (counters_below g commit slab (counters_of_slab g counters slab) (references_of g)) (zeros_from (block_of g (SlabJournalSlot slab 0)) g.slab_journal) (block_of g (SlabJournalSlot slab i))
      (written_below (λ k. put (block_of g (SlabJournalSlot slab 0) + k) zero_block ∷ []) g.slab_journal i (block_of g (SlabJournalSlot slab i)) is.1 (inl (omega arith))))
  slabs_written Superblock is none = absurd none
  slabs_written (JournalSlot _) is none = absurd none
  slabs_written (Root _) is none = absurd none
  slabs_written (IndexBlock _) is none = absurd none
  slabs_written (DataBlock _ _) is none = absurd none
