-- How often pages map to a block.
use Rattle.std.proofs.Common.{ℕ, zero, suc, ◌≡◌, ◌+◌, ◌-◌, ◌<◌, List, Option, Some, None, slice_index_or, refl, sym, ◌∙◌, ap, inl, inr, arith}
use Rattle.std.proofs.lemmas.Bool.Decides.{eqb_tells}
use Rattle.blk_base.specs.declared.place.Mapping.{Mapping}
use Rattle.blk_base.specs.declared.place.Mapping.TheVariants.{Unmapped}
use Rattle.blk_base.specs.declared.place.PageId.{PageId}
use Rattle.blk_base.specs.declared.place.Pbn.{Pbn}
use Rattle.blk_base.specs.declared.sizes.TheConstants.{PAGE_SLOTS}
use Rattle.image_model.specs.Counts.{leads_to, mapped_below}
use Rattle.image_model.specs.Maps.{Image, page_at, says, slot_in}
use Rattle.plain_laws.specs.Sums.{bit}
use Rattle.replay_map.proofs.SumLaws.{mapped_same, mapped_sum, sum_next, sum_none, sum_zero}
use Rattle.replay_map.proofs.UnderLaws.{under_itself, under_slots}
use Rattle.blk_base.specs.Pages.{page_below}
use Rattle.replay_map.specs.Sums.{maps_below, maps_in, maps_under, maps_up_to}
use Rattle.replay_map.specs.Walks.{IsUnder}

module _ (image : Image) where
  -- a leaf at its block says what stands there
  pub leaf_says : (page : PageId) (at : Pbn) (slot : ℕ) → page_at image page ≡ Some at → slot_in image page slot ≡ says image page at slot
  leaf_says page at slot there = rw (there, slot_in) refl

  pub leaf_silent : (page : PageId) (slot : ℕ) → page_at image page ≡ None → slot_in image page slot ≡ Unmapped
  leaf_silent page slot there = rw (there, slot_in) refl

  pub leaf_maps : (page : PageId) (at block : Pbn) (mappings : List Mapping) → page_at image page ≡ Some at
      → ((slot : ℕ) → slot < PAGE_SLOTS → slice_index_or mappings slot Unmapped ≡ says image page at slot)
      → mapped_below (λ slot. slice_index_or mappings slot Unmapped) block PAGE_SLOTS ≡ maps_under image block 0 page
  leaf_maps page at block mappings there each =
      mapped_same (λ slot. slice_index_or mappings slot Unmapped) (slot_in image page) block PAGE_SLOTS (λ slot inside. each slot inside ∙ sym (leaf_says page at slot there))

  -- where nothing below a page is linked, nothing is mapped
  not_some : (o : Option Pbn) → ((at : Pbn) → o ≡ Some at → ⊥) → o ≡ None
  not_some (Some at) none = absurd (none at refl)
  not_some None none = refl

  pub maps_none : (block : Pbn) (levels : ℕ) (page : PageId) → page.level ≡ levels → ((below : PageId) (at : Pbn) → IsUnder page below → page_at image below ≡ Some at → ⊥)
      → maps_under image block levels page ≡ 0
  maps_none block zero page level none =
      let away = not_some (page_at image page) (λ at there. none page at (under_itself page) there) in
      mapped_sum (slot_in image page) block PAGE_SLOTS
      ∙ sum_zero (λ slot. bit (leads_to block (slot_in image page slot))) PAGE_SLOTS (λ slot inside. ap (λ (m : Mapping). bit (leads_to block m)) (leaf_silent page slot away))
  maps_none block (suc levels) page level none =
      sum_zero (λ slot. maps_under image block levels (page_below page slot)) PAGE_SLOTS
      (λ slot inside. maps_none block levels (page_below page slot) (omega (arith, level))
      (λ below at under there. none below at (under_slots page below (slot + 1) (omega (arith, level)) (inr (slot, omega arith, inside, under))) there))

  module _ (page : PageId) (block : Pbn) where
    in_leaf : page.level ≡ 0 → maps_in image page block ≡ maps_under image block 0 page
    in_leaf leaf = elim (eqb_tells page.level 0) [
      | inl same ↦ rw same.0 refl
      | inr other ↦ absurd (other.1 leaf)
    ]

    in_inner : 0 < page.level → maps_in image page block ≡ 0
    in_inner inner = elim (eqb_tells page.level 0) [
      | inl same ↦ let leaf = same.1 in absurd (omega (arith, leaf, inner))
      | inr other ↦ rw other.0 refl
    ]

    -- of a page alone
    pub up_to_none : maps_up_to image page 0 block ≡ maps_in image page block
    up_to_none = let none = sum_none (λ slot. maps_under image block (page.level - 1) (page_below page slot)) in omega (arith, none)

    pub taken_leaf : page.level ≡ 0 → maps_in image page block ≡ maps_under image block 0 page
    taken_leaf leaf = in_leaf leaf

    pub taken_inner : 0 < page.level → maps_in image page block ≡ 0
    taken_inner inner = in_inner inner

    -- of one slot more
    pub up_to_next : (slot : ℕ) → maps_up_to image page (slot + 1) block ≡ maps_up_to image page slot block + maps_below image (page_below page slot) block
    up_to_next slot = let more = sum_next (λ s. maps_under image block (page.level - 1) (page_below page s)) slot in omega (arith, more)

    -- of a leaf, and of all slots of another page
    pub all_of_leaf : page.level ≡ 0 → maps_up_to image page 0 block ≡ maps_below image page block
    all_of_leaf leaf = up_to_none ∙ in_leaf leaf ∙ ap (λ (levels : ℕ). maps_under image block levels page) (sym leaf)

    pub all_of_slots : 0 < page.level → maps_up_to image page PAGE_SLOTS block ≡ maps_below image page block
    all_of_slots inner =
        let none = in_inner inner in
        let level : suc (page.level - 1) ≡ page.level = omega (arith, inner) in
        let whole : maps_up_to image page PAGE_SLOTS block ≡ maps_under image block (suc (page.level - 1)) page = omega (arith, none) in
        whole ∙ ap (λ (levels : ℕ). maps_under image block levels page) level
