-- What is true of the fields of a slab's counters at every moment: of each clause fields that it accepts, and fields that break
-- it alone.
use Rattle.std.specs.Prelude.{ℕ, ◌≡◌, List, [], ◌∷◌, length}
use Rattle.std.proofs.Common.{ap, ◌∙◌, subst, arith, refl}
use Rattle.blk_base.specs.Regions.{slab_start_of}
use Rattle.blk_base.specs.declared.geometry.Geometry.{Geometry}
use Rattle.blk_base.proofs.Example.{small}
use Rattle.slab_counts.specs.Kept.{IsWithin, NoneFreeBelow}
use Rattle.slab_counts.specs.Viewed.{IsKept, counts_of}
use Rattle.slab_counts.specs.declared.counts.SlabCounts.TheInside.{Inside}

module _ (s : Inside) (sizes : s.layout.geometry ≡ small) where
  -- nothing is below a cursor of 0
  at_first : IsWithin (counts_of s) → s.start ≡ slab_start_of s.layout.geometry s.slab → s.cursor ≡ 0 → IsKept s
  at_first within start cursor = record { within = within; start = start; cursor = omega (arith, cursor); below = λ k below. absurd (omega (arith, below, cursor)) }

  -- within
  without_a_counter : s.counters.items ≡ [] → IsKept s → ⊥
  without_a_counter none is =
      let size = is.within.counters in let short : length s.counters.items ≡ 0 = ap (λ (counts : List ℕ). length counts) none in
      let blocks = ap (λ (g : Geometry). g.slab_blocks) sizes in omega (arith, size, short, blocks)

  -- start
  begins_elsewhere : s.slab ≡ 0 → s.start ≡ 86 → IsKept s → ⊥
  begins_elsewhere slab start is =
      let first : s.start ≡ 85 = is.start ∙ ap (λ (g : Geometry). slab_start_of g s.slab) sizes ∙ ap (slab_start_of small) slab in omega (arith, first, start)

  -- cursor
  marked_past_the_end : s.cursor ≡ 65 → IsKept s → ⊥
  marked_past_the_end cursor is = let most = is.cursor in let blocks = ap (λ (g : Geometry). g.slab_blocks) sizes in omega (arith, most, cursor, blocks)

  -- below
  marked_behind_a_free_block : s.counters.items ≡ 0 ∷ [] → s.claims.items ≡ 0 ∷ [] → s.cursor ≡ 1 → IsKept s → ⊥
  marked_behind_a_free_block counters claims cursor is =
      subst (λ (counts : List ℕ). NoneFreeBelow counts (0 ∷ []) 1) counters
      (subst (λ (ones : List ℕ). NoneFreeBelow s.counters.items ones 1) claims (subst (NoneFreeBelow s.counters.items s.claims.items) cursor is.below)) 0 (omega arith) (refl, refl)

  -- counts_of: its blocks are those of the image's slab, with their counters first
  seen_as : s.counters.items ≡ 1 ∷ [] → (counts_of s).counters ≡ 1 ∷ []
  seen_as counters = counters

  seen_of_the_image : (counts_of s).geometry ≡ small
  seen_of_the_image = sizes
