-- The sizes that an image can get, the search for mapped addresses, and what is promised of it: for each clause a case that it
-- accepts, and one that it refuses.
use Rattle.std.proofs.Common.{ℕ, ◌≡◌, List, Some, None, refl, subst, arith}
use Rattle.blk_base.specs.Pages.{leaf_of, slot_of_address}
use Rattle.blk_base.specs.declared.place.Lba.{Lba}
use Rattle.blk_base.specs.declared.place.Mapping.TheVariants.{Unmapped, Zero}
use Rattle.image_layout.specs.Superblock.{is_within}
use Rattle.image_layout.specs.declared.fault.Field.TheVariants.{Height, Logical, Slabs}
use Rattle.image_layout.specs.declared.fault.LayoutFault.TheVariants.{TooSmall}
use Rattle.image_layout.proofs.PlanLaws.{planned_right}
use Rattle.image_model.proofs.Example.{small}
use Rattle.image_model.specs.Maps.{Image as WholeImage, mapping_of}
use Rattle.image_model.specs.declared.fault.ImageFault.TheVariants.{Unclean}
use Rattle.page_codec.proofs.ReadLaws.{one_mapping}
use Rattle.page_codec.specs.Grammar.{IsSlot}
use Rattle.page_codec.specs.declared.forms.PageHead.{PageHead}
use Rattle.grow_image.specs.Growth.{IsFirstNew, new_addresses}
use Rattle.grow_image.specs.Searches.{IsMappedSlot}
use Rattle.grow_image.specs.NewAddresses.{IsBefore, IsFirstMapped, IsMappedOf, IsWithin, address_in}
use Rattle.grow_image.specs.Sizes.{CanGrow, IsSmaller, PlanFails, grown_of, grown_sizes}
use Rattle.grow_image.specs.declared.address_range.AddressRange.{AddressRange}
use Rattle.grow_image.specs.declared.fault.GrowFault.TheVariants.{Image, Smaller, Layout, Mapped}

-- What is told of the sizes.
told_sizes : grown_of small 2000 2 ≡ record { blocks = 223; slabs = 2; slab_blocks = 64; logical = 2000 }
told_sizes = refl

-- Fewer: the addresses come first.
smaller_logical : IsSmaller small 999 0 Logical
smaller_logical = omega arith

smaller_slabs : IsSmaller small 1000 0 Slabs
smaller_slabs = (omega arith, omega arith)

logical_first : IsSmaller small 999 0 Slabs → ⊥
logical_first is = let first = is.0 in omega (arith, first)

as_many_slabs : IsSmaller small 1000 1 Slabs → ⊥
as_many_slabs is = let second = is.1 in omega (arith, second)

as_many_addresses : IsSmaller small 1000 0 Logical → ⊥
as_many_addresses is = omega (arith, is)

no_other_size : IsSmaller small 999 0 Height → ⊥
no_other_size is = is

-- Sizes that can be had: on a device that has the blocks,
can_grow : CanGrow small 2000 2 223
unfolding is_within
can_grow = record {
  more = record { logical_more = omega arith; slabs_more = omega arith };
  planned = refl;
  sizes = planned_right (grown_sizes small 2000 2) refl refl;
  fits = omega arith;
}

-- and not on one that has fewer, nor with fewer addresses or too many slabs
cannot_fit : CanGrow small 2000 2 222 → ⊥
cannot_fit can = let fits = can.fits in omega (arith, fits)

cannot_plan : CanGrow small 2000 2 222 → ⊥
unfolding is_within
cannot_plan can = let planned = can.planned in absurd (cc planned)

cannot_shrink : CanGrow small 999 2 223 → ⊥
cannot_shrink can = let most = can.more.logical_more in omega (arith, most)

cannot_have : CanGrow small 2000 1025 4294967295 → ⊥
cannot_have can = let most = can.sizes.slabs.1 in omega (arith, most)

-- why they can't
plan_smaller : PlanFails small 999 1 154 (Smaller Logical)
plan_smaller = omega arith

plan_too_small : PlanFails small 2000 2 222 (Layout (TooSmall 223 222))
unfolding is_within
plan_too_small = (record { logical_more = omega arith; slabs_more = omega arith }, refl)

plan_enough : PlanFails small 2000 2 223 (Layout (TooSmall 223 223)) → ⊥
unfolding is_within
plan_enough fails = let planned = fails.1 in absurd (cc planned)

plan_smaller_first : PlanFails small 999 2 222 (Layout (TooSmall 223 222)) → ⊥
plan_smaller_first fails = let most = fails.0.logical_more in omega (arith, most)

plan_no_image : PlanFails small 2000 2 222 (Image Unclean) → ⊥
plan_no_image fails = fails

plan_no_mapping : (at : Lba) → PlanFails small 2000 2 222 (Mapped at) → ⊥
plan_no_mapping at fails = fails

-- Addresses.

abbrev range : AddressRange
range = record { first = 1000; end = 2000 }

new_range : new_addresses small 2000 ≡ range
new_range = refl

first_within : IsWithin range 1000
first_within = (omega arith, omega arith)

before_range : IsWithin range 999 → ⊥
before_range within = let low = within.0 in omega (arith, low)

behind_range : IsWithin range 2000 → ⊥
behind_range within = let high = within.1 in omega (arith, high)

-- slot 3 of the first leaf of tree 1 is that of address 815
second_leaf : address_in (record { tree = 1; level = 0; index = 0 }) 3 ≡ 815
second_leaf = refl

next_leaf : address_in (record { tree = 0; level = 0; index = 1 }) 0 ≡ 48720
next_leaf = refl

before_none : IsBefore 7 None
before_none = tt

before_some : IsBefore 7 (Some (record { 0 = 8 }))
before_some = omega arith

not_before : IsBefore 8 (Some (record { 0 = 8 })) → ⊥
not_before less = omega (arith, less)

-- One slot of a leaf, in its block.
module _ (head : PageHead) (block : List ℕ) (slot : ℕ) where
  slot_unmapped : IsSlot head block slot Unmapped → IsMappedSlot head range block slot None
  slot_unmapped is within = is

  slot_zeros : (at : Lba) → at.0 ≡ address_in head.page slot → IsWithin range at.0 → IsSlot head block slot Zero → IsMappedSlot head range block slot (Some at)
  slot_zeros at same within is = (same, within, (Zero, is, λ none. absurd (cc none)))

  slot_not_zeros : IsWithin range (address_in head.page slot) → IsSlot head block slot Zero → IsMappedSlot head range block slot None → ⊥
  slot_not_zeros within is none = let same = one_mapping head block slot Zero Unmapped is (none within) in absurd (cc same)

  slot_other_address : (at : Lba) → (at.0 ≡ address_in head.page slot → ⊥) → IsMappedSlot head range block slot (Some at) → ⊥
  slot_other_address at other is = other is.0

  slot_outside : (at : Lba) → at.0 ≡ 999 → IsMappedSlot head range block slot (Some at) → ⊥
  slot_outside at same is = let low = is.1.0 in omega (arith, same, low)

  slot_not_mapped : (at : Lba) → IsSlot head block slot Unmapped → IsMappedSlot head range block slot (Some at) → ⊥
  slot_not_mapped at none is = is.2.2 (one_mapping head block slot is.2.0 Unmapped is.2.1 none)

-- The first one of a leaf: with none before it, and mapped itself.
module _ (head : PageHead) (block : List ℕ) (own : leaf_of 1000 ≡ head.page) where
  found_zeros : IsSlot head block (slot_of_address 1000) Zero → IsFirstMapped head range block (Some (record { 0 = 1000 }))
  found_zeros is = record {
    found = λ at same.
        let one : record { 0 = 1000 } ≡ at = cc same in
        let here : IsMappedOf head range block 1000 = record { within = first_within; own = own; mapping = Zero; says = is; mapped = λ none. absurd (cc none) } in
        subst (λ (a : Lba). IsMappedOf head range block a.0) one here;
    before = λ address of within less. let low = within.0 in absurd (omega (arith, low, less));
  }

  not_none : IsSlot head block (slot_of_address 1000) Zero → IsFirstMapped head range block None → ⊥
  not_none is first = let same = one_mapping head block (slot_of_address 1000) Zero Unmapped is (first.before 1000 own first_within tt) in absurd (cc same)

  not_unmapped : IsSlot head block (slot_of_address 1000) Unmapped → IsFirstMapped head range block (Some (record { 0 = 1000 })) → ⊥
  not_unmapped is first = let has = first.found (record { 0 = 1000 }) refl in has.mapped (one_mapping head block (slot_of_address 1000) has.mapping Unmapped has.says is)

-- The least new address that is mapped.
module _ (image : WholeImage) (size : image.geometry.logical ≡ 1000) where
  first_new : mapping_of image 1000 ≡ Zero → IsFirstNew image 2000 1000
  first_new zeros = record {
    behind = omega (arith, size);
    below = omega arith;
    mapped = λ none. let same = zeros in absurd (cc (same, none));
    first = λ address behind below. absurd (omega (arith, size, behind, below));
  }

  old_address : IsFirstNew image 2000 999 → ⊥
  old_address is = let behind = is.behind in omega (arith, size, behind)

  past_the_new : IsFirstNew image 2000 2000 → ⊥
  past_the_new is = let below = is.below in omega (arith, below)

  not_mapped : mapping_of image 1000 ≡ Unmapped → IsFirstNew image 2000 1000 → ⊥
  not_mapped none is = is.mapped none

  not_the_first : mapping_of image 1000 ≡ Zero → IsFirstNew image 2000 1001 → ⊥
  not_the_first zeros is = let none = is.first 1000 (omega (arith, size)) (omega arith) in absurd (cc (zeros, none))
