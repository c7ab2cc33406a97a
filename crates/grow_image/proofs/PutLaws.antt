-- The calls that write the new slabs: each writes zeros where a new slab's counters or journal stand, behind all that there was,
-- and each of these places is written.
use Rattle.std.proofs.Common.{ℕ, ◌≡◌, ◌+◌, ◌-◌, ◌<◌, ◌≤◌, true, false, List, [], ◌∷◌, refl, sym, ◌∙◌, subst, inl, inr, arith}
use Rattle.std.specs.List.{AllByRecursion}
use Rattle.std.proofs.Math.Nat.{mul-le-mul_right}
use Rattle.std.proofs.lemmas.Bool.{cases_lt}
use Rattle.blk_base.specs.Regions.{Place, Superblock, JournalSlot, Root, IndexBlock, DataBlock, ReferenceBlock, SlabJournalSlot, IsPlace, block_of, needed_blocks, references_of, slab_stride_of}
use Rattle.blk_base.specs.Sectors.{zero_block}
use Rattle.blk_base.specs.declared.geometry.Geometry.{Geometry}
use Rattle.disk_model.specs.declared.call.Call.{Call}
use Rattle.disk_model.specs.declared.call.Call.TheVariants.{Read, Write, Flush}
use Rattle.disk_model.specs.Log.{Blocks, IsWritten, Misses, block_at, settled}
use Rattle.disk_model.proofs.ImageLaws.{settled-misses}
use Rattle.image_format.specs.Calls.{calls_below, put, slab_calls, zeros_from}
use Rattle.image_format.proofs.StopLaws.{written_below, all_below}
use Rattle.recovery_laws.proofs.ContentLaws.{AllTaken, Puts, missed, settled_are, written_or_not}
use Rattle.grow_image.specs.Calls.{new_slabs}
use Rattle.grow_image.specs.Sizes.{IsNewPlace, grown_sizes}

module _ (g : Geometry) (logical slabs : ℕ) where
  abbrev g' : Geometry
  g' = grown_sizes g logical slabs

  -- zeros at a place of a new slab
  pub record IsNewPut (at : ℕ) (bytes : List ℕ) : Type 0 where
    pub place : Place
    pub there : IsPlace g' place
    pub new : IsNewPlace g place
    pub stands : block_of g' place ≡ at
    pub zeros : bytes ≡ zero_block

  abbrev pub IsNewCall : Call → Type 0
  IsNewCall (Write at bytes true) = IsNewPut at.0 bytes
  IsNewCall (Write at bytes false) = ⊥
  IsNewCall (Read _ _ _) = ⊥
  IsNewCall (Flush _) = ⊥

  -- it stands behind all that there was
  pub new_behind : (place : Place) → IsNewPlace g place → needed_blocks g ≤ block_of g' place
  new_behind (ReferenceBlock slab i) new = let row = mul-le-mul_right (slab_stride_of g) new in omega (arith, row)
  new_behind (SlabJournalSlot slab s) new = let row = mul-le-mul_right (slab_stride_of g) new in omega (arith, row)
  new_behind Superblock none = absurd none
  new_behind (JournalSlot _) none = absurd none
  new_behind (Root _) none = absurd none
  new_behind (IndexBlock _) none = absurd none
  new_behind (DataBlock _ _) none = absurd none

  slab_right : (slab n : ℕ) → g.slabs ≤ slab → slab < slabs → n ≤ references_of g + g.slab_journal
      → AllByRecursion IsNewCall (zeros_from (block_of g' (ReferenceBlock slab 0)) n)
  slab_right slab n behind is few =
      all_below IsNewCall (λ i. put (block_of g' (ReferenceBlock slab 0) + i) zero_block ∷ []) n
      (λ i below. elim (cases_lt i (references_of g)) [
        | inl counters ↦ (record { place = ReferenceBlock slab i; there = (is, counters); new = behind; stands = omega arith; zeros = refl }, tt)
        | inr journal ↦ (
          record {
            place = SlabJournalSlot slab (i - references_of g);
            there = (is, omega (arith, below, few, journal));
            new = behind;
            stands = omega (arith, journal);
            zeros = refl;
          },
          tt,
        )
      ])

  pub new_right : (n : ℕ) → g.slabs + n ≤ slabs → AllByRecursion IsNewCall (new_slabs g' g.slabs n)
  unfolding new_slabs
  new_right n few =
      all_below IsNewCall (λ i. slab_calls g' (g.slabs + i)) n
      (λ i below. slab_right (g.slabs + i) (references_of g + g.slab_journal) (omega arith) (omega (arith, below, few)) (omega arith))

  slab_written : (slab k n : ℕ) → k < n → IsWritten (zeros_from (block_of g' (ReferenceBlock slab 0)) n) (block_of g' (ReferenceBlock slab 0) + k)
  slab_written slab k n below =
      written_below (λ i. put (block_of g' (ReferenceBlock slab 0) + i) zero_block ∷ []) n k (block_of g' (ReferenceBlock slab 0) + k) below (inl refl)

  of_slab : (slab k b : ℕ) → g.slabs ≤ slab → slab < slabs → k < references_of g + g.slab_journal → block_of g' (ReferenceBlock slab 0) + k ≡ b
      → IsWritten (new_slabs g' g.slabs (slabs - g.slabs)) b
  unfolding new_slabs
  of_slab slab k b behind is below same =
      let number : g.slabs + (slab - g.slabs) ≡ slab = omega (arith, behind) in
      subst (IsWritten (calls_below (λ i. slab_calls g' (g.slabs + i)) (slabs - g.slabs))) same
      (written_below (λ i. slab_calls g' (g.slabs + i)) (slabs - g.slabs) (slab - g.slabs) (block_of g' (ReferenceBlock slab 0) + k) (omega (arith, behind, is))
      (subst (λ (s : ℕ). IsWritten (slab_calls g' s) (block_of g' (ReferenceBlock slab 0) + k)) (sym number)
      (slab_written slab k (references_of g + g.slab_journal) below)))

  pub new_written : (place : Place) → IsPlace g' place → IsNewPlace g place → IsWritten (new_slabs g' g.slabs (slabs - g.slabs)) (block_of g' place)
  new_written (ReferenceBlock slab i) is new = of_slab slab i (block_of g' (ReferenceBlock slab i)) new is.0 (let few = is.1 in omega (arith, few)) (omega arith)
  new_written (SlabJournalSlot slab s) is new =
      of_slab slab (references_of g + s) (block_of g' (SlabJournalSlot slab s)) new is.0 (let few = is.1 in omega (arith, few)) (omega arith)
  new_written Superblock is none = absurd none
  new_written (JournalSlot _) is none = absurd none
  new_written (Root _) is none = absurd none
  new_written (IndexBlock _) is none = absurd none
  new_written (DataBlock _ _) is none = absurd none

  -- What a block may have.

  module _ (blocks : Blocks) where
    -- while the slabs are written: what was there is as it was
    abbrev pub IsPartBlock : ℕ → List ℕ → Type 0
    IsPartBlock b content = b < needed_blocks g → content ≡ block_at blocks b

    -- once all are
    pub record IsFullBlock (b : ℕ) (content : List ℕ) : Type 0 where
      pub old : b < needed_blocks g → content ≡ block_at blocks b
      pub new : (place : Place) → IsPlace g' place → IsNewPlace g place → block_of g' place ≡ b → content ≡ zero_block

    new_full : (b : ℕ) (bytes : List ℕ) → IsNewPut b bytes → IsFullBlock b bytes
    new_full b bytes put = record {
      old = λ below. let behind = new_behind put.place put.new in let stands = put.stands in absurd (omega (arith, below, behind, stands));
      new = λ place there new same. put.zeros;
    }

    pub calls_full : (calls : List Call) → AllByRecursion IsNewCall calls → AllByRecursion (Puts IsFullBlock) calls
    calls_full [] each = tt
    calls_full (Write at bytes true ∷ calls) each = (new_full at.0 bytes each.0, calls_full calls each.1)
    calls_full (Write at bytes false ∷ calls) each = absurd each.0
    calls_full (Read _ _ _ ∷ calls) each = absurd each.0
    calls_full (Flush _ ∷ calls) each = absurd each.0

    calls_taken : (calls : List Call) → AllByRecursion IsNewCall calls → AllByRecursion AllTaken calls
    calls_taken [] each = tt
    calls_taken (Write at bytes true ∷ calls) each = (refl, calls_taken calls each.1)
    calls_taken (Write at bytes false ∷ calls) each = absurd each.0
    calls_taken (Read _ _ _ ∷ calls) each = absurd each.0
    calls_taken (Flush _ ∷ calls) each = absurd each.0

    module _ (slabs_more : g.slabs ≤ slabs) where
      abbrev pub writes : List Call
      writes = new_slabs g' g.slabs (slabs - g.slabs)

      pub writes_right : AllByRecursion IsNewCall writes
      writes_right = new_right (slabs - g.slabs) (omega (arith, slabs_more))

      pub writes_full : AllByRecursion (Puts IsFullBlock) writes
      writes_full = calls_full writes writes_right

      -- a block that isn't written is none of a new slab's
      block_already : (b : ℕ) → (IsWritten writes b → ⊥) → IsFullBlock b (block_at blocks b)
      block_already b none = record {
        old = λ below. refl;
        new = λ place there new same. absurd (none (subst (IsWritten writes) same (new_written place there new)));
      }

      settled_missed : (calls : List Call) (b : ℕ) → AllByRecursion (λ call. Misses call b) calls → settled blocks calls b ≡ block_at blocks b ∷ []
      settled_missed [] b misses = refl
      settled_missed (call ∷ calls) b misses = settled-misses blocks calls call b misses.0 ∙ settled_missed calls b misses.1

      -- once all is written and flushed, each block has all
      pub settled_full : (b : ℕ) → AllByRecursion (IsFullBlock b) (settled blocks writes b)
      settled_full b = elim (written_or_not writes b) [
        | inl written ↦ settled_are IsFullBlock blocks writes b (calls_taken writes writes_right) writes_full written
        | inr misses ↦ subst (AllByRecursion (IsFullBlock b)) (sym (settled_missed writes b misses)) (block_already b (missed writes b misses), tt)
      ]
