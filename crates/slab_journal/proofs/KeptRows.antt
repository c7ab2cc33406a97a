-- What is true of a slab's journal at every moment: for each clause a journal that it accepts, and one that breaks it alone.
-- The points of `filling` are at or above its first by `in_order`, too: no journal breaks `rising` alone.
use Rattle.std.specs.Prelude.{ℕ, ◌≡◌, ◌≤◌, ◌^◌, List, [], ◌∷◌}
use Rattle.std.proofs.Common.{arith, refl}
use Rattle.std.proofs.lemmas.List.Elements.{All-cons, All-nil}
use Rattle.blk_base.specs.Limits.{IsGeometry}
use Rattle.blk_base.specs.Forms.{point as p}
use Rattle.blk_base.proofs.Example.{small_with_is}
use Rattle.slab_codec.specs.Grammar.{HoldsEntry}
use Rattle.slab_codec.specs.declared.forms.SlabEntry.{SlabEntry}
use Rattle.slab_codec.specs.Updates.{slab_entry as entry}
use Rattle.slab_journal.specs.Kept.{AreOfSlab, IsBefore, IsKept, first_of}
use Rattle.slab_journal.specs.Slab.{opening}
use Rattle.slab_journal.proofs.UnsettledRows.{durable_one, first, rising, sealed_one, sizes, third}

abbrev Above : ℕ → SlabEntry → Type 0
Above point e = point ≤ e.point.0

abbrev Below : ℕ → SlabEntry → Type 0
Below point e = e.point.0 ≤ point

sizes_are : IsGeometry sizes
sizes_are = small_with_is 1000 2 (omega arith) (omega arith) (omega arith) (omega arith)

-- first_of
point_of_first : first_of (third ∷ first ∷ []) 700 ≡ 600
point_of_first = refl

point_of_none : first_of [] 700 ≡ 700
point_of_none = refl

-- AreOfSlab: offsets up to 999
abbrev block_one : List SlabEntry
block_one = first ∷ entry 513 504 ∷ []

are_of_slab : AreOfSlab sealed_one (entry 512 999 ∷ [])
are_of_slab = All-cons (HoldsEntry 1000) (entry 512 999) [] (omega arith, omega arith, omega arith) (All-nil (HoldsEntry 1000))

behind_the_slab : AreOfSlab sealed_one (entry 512 1000 ∷ []) → ⊥
behind_the_slab are = omega (arith, (are 0 first (omega arith)).2)

-- IsBefore: a block of which the last point is that of the first update of the block being filled
is_before : IsBefore sealed_one (first ∷ third ∷ [])
is_before = record { rising = rising; below = All-cons (Below 600) first (third ∷ []) (omega arith) (All-cons (Below 600) third [] (omega arith) (All-nil (Below 600))) }

-- rising
falls : IsBefore sealed_one (third ∷ first ∷ []) → ⊥
falls is = omega (arith, is.rising.0 0 first (omega arith))

-- below
reaches_above : IsBefore sealed_one (first ∷ entry 601 3 ∷ []) → ⊥
reaches_above is = omega (arith, is.below 1 first (omega arith))

-- where nothing is filled, the last point counts
reaches_above_the_last : IsBefore (record sealed_one { filling = [] }) (entry 601 3 ∷ []) → ⊥
reaches_above_the_last is = omega (arith, is.below 0 first (omega arith))

-- IsKept: block 1 is being written, and block 2 has an update
kept : IsKept sealed_one
kept = record {
  geometry = sizes_are;
  slab = omega arith;
  ring = refl;
  sectors = refl;
  last = omega arith;
  number = omega arith;
  number_filling = λ some. omega arith;
  durable = (omega arith, omega arith);
  filling = All-cons (HoldsEntry 1000) third [] (omega arith, omega arith, omega arith) (All-nil (HoldsEntry 1000));
  taken = All-cons (Below 600) third [] (omega arith) (All-nil (Below 600));
  rising = All-cons (Above 600) third [] (omega arith) (All-nil (Above 600));
  blocks = All-cons (AreOfSlab sealed_one) [] (block_one ∷ []) (All-nil (HoldsEntry 1000)) (All-cons (AreOfSlab sealed_one) block_one [] block_one_is (All-nil (AreOfSlab sealed_one)));
  in_order = (All-nil (Above 600), tt);
  sealed = λ writing. record {
    rising = (All-cons (Above 512) (entry 513 504) [] (omega arith) (All-nil (Above 512)), (All-nil (Above 513), tt));
    below = All-cons (Below 600) first (entry 513 504 ∷ []) (omega arith) (All-cons (Below 600) (entry 513 504) [] (omega arith) (All-nil (Below 600)));
  };
}
  where
    block_one_is : AreOfSlab sealed_one block_one
    block_one_is = All-cons (HoldsEntry 1000) first (entry 513 504 ∷ []) (omega arith, omega arith, omega arith) (All-cons (HoldsEntry 1000) (entry 513 504) [] (omega arith, omega arith, omega arith) (All-nil (HoldsEntry 1000)))

-- a journal whose last number is that of its last point; of a block that is durable nothing is asked
kept_at_its_last_number : IsKept (record (opening sizes 0) { sequence = 511; durable = 511; slots = [] ∷ (third ∷ first ∷ []) ∷ [] })
kept_at_its_last_number = record {
  geometry = sizes_are;
  slab = omega arith;
  ring = refl;
  sectors = refl;
  last = omega arith;
  number = omega arith;
  number_filling = λ some. absurd (omega (arith, some));
  durable = (omega arith, omega arith);
  filling = All-nil (HoldsEntry 1000);
  taken = All-nil (Below 511);
  rising = All-nil (Above 511);
  blocks = All-cons (AreOfSlab sealed_one) [] ((third ∷ first ∷ []) ∷ []) (All-nil (HoldsEntry 1000)) (All-cons (AreOfSlab sealed_one) (third ∷ first ∷ []) [] falling_is (All-nil (AreOfSlab sealed_one)));
  in_order = tt;
  sealed = λ writing. absurd (omega (arith, writing));
}
  where
    falling_is : AreOfSlab sealed_one (third ∷ first ∷ [])
    falling_is = All-cons (HoldsEntry 1000) third (first ∷ []) (omega arith, omega arith, omega arith) (All-cons (HoldsEntry 1000) first [] (omega arith, omega arith, omega arith) (All-nil (HoldsEntry 1000)))

-- geometry
of_another_image : IsKept (record sealed_one { geometry = record sizes { height = 4 } }) → ⊥
of_another_image is = omega (arith, is.geometry.height.1)

-- slab
of_no_slab : IsKept (record sealed_one { slab = 1 }) → ⊥
of_no_slab is = omega (arith, is.slab)

-- ring
with_a_slot_more : IsKept (record sealed_one { slots = [] ∷ block_one ∷ [] ∷ [] }) → ⊥
with_a_slot_more is = omega (arith, is.ring)

-- sectors
with_a_sector_more : IsKept (record sealed_one { commits = p 0 ∷ p 0 ∷ p 0 ∷ [] }) → ⊥
with_a_sector_more is = let no : 3 ≡ 2 = is.sectors in omega (arith, no)

-- last
past_all_points : IsKept (record sealed_one { last = p (2 ^ 64) }) → ⊥
past_all_points is = omega (arith, is.last)

-- number
ahead_of_its_points : IsKept (record (opening sizes 0) { sequence = 512; durable = 512 }) → ⊥
ahead_of_its_points is = omega (arith, is.number)

-- number_filling
without_a_number_behind : IsKept (record durable_one { sequence = 600; durable = 600 }) → ⊥
without_a_number_behind is = omega (arith, is.number_filling (omega arith))

-- durable
durable_before_it_is_sealed : IsKept (record sealed_one { durable = 3 }) → ⊥
durable_before_it_is_sealed is = omega (arith, is.durable.0)

two_being_written : IsKept (record sealed_one { durable = 0 }) → ⊥
two_being_written is = omega (arith, is.durable.1)

-- filling
filled_from_elsewhere : IsKept (record sealed_one { filling = entry 600 1000 ∷ [] }) → ⊥
filled_from_elsewhere is = omega (arith, (is.filling 0 first (omega arith)).2)

-- taken
taken_and_forgotten : IsKept (record sealed_one { filling = entry 601 5 ∷ [] }) → ⊥
taken_and_forgotten is = omega (arith, is.taken 0 first (omega arith))

-- blocks
a_block_from_elsewhere : IsKept (record sealed_one { slots = (entry 500 1000 ∷ []) ∷ block_one ∷ [] }) → ⊥
a_block_from_elsewhere is = omega (arith, (is.blocks 0 [] (omega arith) 0 first (omega arith)).2)

-- in_order: behind the first
out_of_order : IsKept (record sealed_one { filling = entry 598 5 ∷ entry 600 5 ∷ entry 599 5 ∷ [] }) → ⊥
out_of_order is = omega (arith, is.in_order.1.0 0 first (omega arith))

-- sealed
sealed_out_of_order : IsKept (record sealed_one { slots = [] ∷ (entry 513 504 ∷ first ∷ []) ∷ [] }) → ⊥
sealed_out_of_order is = omega (arith, (is.sealed (omega arith)).rising.0 0 first (omega arith))

sealed_above_what_is_filled : IsKept (record sealed_one { slots = [] ∷ (first ∷ entry 601 504 ∷ []) ∷ [] }) → ⊥
sealed_above_what_is_filled is = omega (arith, (is.sealed (omega arith)).below 1 first (omega arith))
