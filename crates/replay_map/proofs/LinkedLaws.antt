-- The pages above a linked page are linked, and a page below a slot that leads nowhere isn't.
use Rattle.std.proofs.Common.{ℕ, zero, suc, ◌≡◌, ◌+◌, ◌-◌, ◌*◌, ◌/◌, ◌^◌, ◌<◌, ◌==◌, Bool, false, if◌then◌else◌, Option, Some, None, refl, sym, ◌∙◌, ap, inl, inr, arith}
use Rattle.std.proofs.lemmas.Bool.Decides.{eqb_tells}
use Rattle.blk_base.specs.Regions.{Root, block_of}
use Rattle.blk_base.specs.declared.place.PageId.{PageId}
use Rattle.blk_base.specs.declared.place.Pbn.{Pbn}
use Rattle.blk_base.specs.declared.sizes.TheConstants.{PAGE_SLOTS}
use Rattle.image_model.proofs.MapLaws.{page_in_range}
use Rattle.image_model.specs.Maps.{Image, linked_at, page_at, says, target_of}
use Rattle.blk_base.specs.Pages.{above, page_below, slot_of}
use Rattle.replay_map.proofs.LinkLaws.{at_links, where_above_says}
use Rattle.replay_map.proofs.UnderLaws.{page_is, up_on, same_under}
use Rattle.replay_map.specs.Walks.{IsUnder}

module _ (image : Image) where
  -- where the page above one says it stands, that one is linked
  pub above_of : (links : ℕ) (page : PageId) (at : Pbn) → linked_at image (suc links) page ≡ Some at → (up : Pbn) × (linked_at image links (above page) ≡ Some up)
  above_of links page at is = told (linked_at image links (above page)) is
    where
      told : (o : Option Pbn) → (elim o as (λ (o' : Option Pbn). Option Pbn) [ Some up ↦ target_of (says image (above page) up (slot_of page)) | None ↦ None ]) ≡ Some at
          → (up : Pbn) × (o ≡ Some up)
      told (Some up) is = (up, refl)
      told None is = absurd (cc is)

  -- the page above a linked page is linked
  pub above_linked : (page : PageId) (at : Pbn) → page.level + 1 < image.geometry.height → page_at image page ≡ Some at → (up : Pbn) × (page_at image (above page) ≡ Some up)
  above_linked page at inner there =
      let range = page_in_range image page at there in
      let tree = range.0 in
      let level = range.1 in
      let links : image.geometry.height - 1 - page.level ≡ suc (image.geometry.height - 1 - (page.level + 1)) = omega (arith, inner) in
      let linked : linked_at image (suc (image.geometry.height - 1 - (page.level + 1))) page ≡ Some at =
      ap (λ (n : ℕ). linked_at image n page) (sym links) ∙ sym (at_links image page tree level) ∙ there in
      let up = above_of (image.geometry.height - 1 - (page.level + 1)) page at linked in
      (up.0, at_links image (above page) tree inner ∙ up.1)

  -- so many levels above it too
  pub linked_above : (levels : ℕ) (top page : PageId) (at : Pbn) → page.tree ≡ top.tree → page.level + levels ≡ top.level → page.index / PAGE_SLOTS ^ levels ≡ top.index
      → top.level < image.geometry.height → page_at image page ≡ Some at → (up : Pbn) × (page_at image top ≡ Some up)
  linked_above zero top page at tree level index high there =
      (at, ap (page_at image) (sym (same_under top page (0, tree, level, index) refl)) ∙ there)
  linked_above (suc n) top page at tree level index high there =
      let up = above_linked page at (omega (arith, level, high)) there in
      let one_more : suc n ≡ 1 + n = omega arith in
      let higher : page.index / PAGE_SLOTS ^ suc n ≡ page.index / PAGE_SLOTS / PAGE_SLOTS ^ n =
      ap (λ (k : ℕ). page.index / PAGE_SLOTS ^ k) one_more ∙ up_on page.index 1 n in
      linked_above n top (above page) up.0 tree (omega (arith, level)) (sym higher ∙ index) high up.1

  pub top_linked : (top page : PageId) (at : Pbn) → IsUnder top page → top.level < image.geometry.height → page_at image page ≡ Some at → (up : Pbn) × (page_at image top ≡ Some up)
  top_linked top page at under high there = linked_above under.0 top page at under.1 under.2 under.3 high there

  module _ (top : PageId) (at : Pbn) (slot : ℕ) (inner : 0 < top.level) (inside : slot < PAGE_SLOTS) (there : page_at image top ≡ Some at) where
    up_again : above (page_below top slot) ≡ top
    up_again =
        let index : (top.index * PAGE_SLOTS + slot) / PAGE_SLOTS ≡ top.index = omega (arith, inside) in
        page_is (above (page_below top slot)) top refl (omega (arith, inner)) index

    -- the page of a slot is where the slot says
    pub below_at : page_at image (page_below top slot) ≡ target_of (says image top at slot)
    below_at =
        let number : slot_of (page_below top slot) ≡ slot = omega (arith, inside) in
        where_above_says image top (page_below top slot) at there up_again ∙ ap (λ (n : ℕ). target_of (says image top at n)) number

    -- where it says no block, no page below is linked
    pub none_below : (page : PageId) (place : Pbn) → target_of (says image top at slot) ≡ None → IsUnder (page_below top slot) page → page_at image page ≡ Some place → ⊥
    none_below page place none under stands =
        let range = page_in_range image top at there in
        let high = range.1 in
        let up = top_linked (page_below top slot) page place under (omega (arith, high)) stands in
        absurd (cc (sym up.1 ∙ below_at ∙ none))

  -- A linked page is below the root of its tree.
  pub root_alone : (page : PageId) (at : Pbn) → linked_at image 0 page ≡ Some at → page.index ≡ 0
  root_alone page at is = elim (eqb_tells page.index 0) [
    | inl same ↦ same.1
    | inr other ↦ absurd (none (page.index == 0) other.0 is)
  ]
    where
      none : (b : Bool) → b ≡ false → (if b then Some (record { 0 = block_of image.geometry (Root page.tree) }) else None) ≡ Some at → ⊥
      none b off is = let gone = rw off at is in absurd (cc gone)
