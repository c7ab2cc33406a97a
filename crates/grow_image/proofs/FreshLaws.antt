-- The addresses that an image doesn't have yet: the window puts nothing into their slots, so that the blocks of the leaves tell
-- by themselves whether they are mapped.
use Rattle.std.proofs.Common.{ℕ, ◌≡◌, ◌<◌, ◌≤◌, List, [], ◌∷◌, All, Option, Some, None, refl, sym, ◌∙◌, ap, subst, inl, inr, arith}
use Rattle.std.proofs.Math.Nat.{mod-lt}
use Rattle.std.proofs.lemmas.Bool.Decides.{eqb_tells}
use Rattle.std.proofs.lemmas.List.Elements.{All-head, All-tail}
use Rattle.std.proofs.lemmas.Option.{same_Some}
use Rattle.blk_base.specs.declared.geometry.Geometry.{Geometry}
use Rattle.blk_base.specs.declared.journal_entry.CommittedEntry.{CommittedEntry}
use Rattle.blk_base.specs.declared.journal_entry.Entry.{Entry}
use Rattle.blk_base.specs.declared.journal_entry.Entry.TheVariants.{Remap, NewPage}
use Rattle.blk_base.specs.declared.opened.OpenedPage.{OpenedPage}
use Rattle.blk_base.specs.declared.place.Lba.{Lba}
use Rattle.blk_base.specs.declared.place.Mapping.{Mapping}
use Rattle.blk_base.specs.declared.place.Mapping.TheVariants.{At, Unmapped, Zero}
use Rattle.blk_base.specs.declared.place.PageId.{PageId}
use Rattle.blk_base.specs.declared.place.Pbn.{Pbn}
use Rattle.blk_base.specs.declared.sizes.TheConstants.{PAGE_SLOTS}
use Rattle.blk_base.specs.Pages.{above, page_below, slot_of, leaf_of, slot_of_address}
use Rattle.block_map_tree.specs.OpenedTree.{IsLed}
use Rattle.disk_model.specs.Log.{block_at}
use Rattle.image_model.proofs.MapLaws.{slot_says_its_mapping}
use Rattle.image_model.specs.Maps.{Image, ArePagesGood, IsReadable, mapping_of, page_at, put_by, put_last, says, target_of}
use Rattle.image_model.specs.Windows.{IsOfImage}
use Rattle.page_codec.proofs.ReadLaws.{no_slot_fault}
use Rattle.page_codec.specs.Grammar.{IsSlot, IsSlotFault}
use Rattle.page_codec.specs.declared.fault.PageFault.{PageFault}
use Rattle.recovery_laws.proofs.OldLaws.{says_own, no_some}
use Rattle.recovery_laws.proofs.WindowFacts.{IsKnown}
use Rattle.replay_map.proofs.LinkedLaws.{above_linked, below_at}
use Rattle.replay_map.proofs.OwnLaws.{page_tells}
use Rattle.replay_map.proofs.UnderLaws.{page_is}
use Rattle.replay_map.specs.declared.links.Link.{Link}
use Rattle.session_opening.specs.Starts.{AreInnerPages}
use Rattle.grow_image.proofs.SearchLaws.{address_is}
use Rattle.grow_image.specs.NewAddresses.{AreNewLeaves, HasUnreadable, IsBefore, IsLeastMapped, IsWithin, leaf_head}
use Rattle.grow_image.specs.declared.address_range.AddressRange.{AddressRange}

-- what is mapped to a block is mapped at it
target_at : (mapping : Mapping) (at : Pbn) → target_of mapping ≡ Some at → mapping ≡ At at
target_at Unmapped at is = cc
target_at Zero at is = cc
target_at (At block) at is = ap (λ (b : Pbn). At b) (same_Some _ _ is)

-- What the window puts.

put_by_none : (g : Geometry) (entry : Entry) (address : ℕ) → IsOfImage g entry → g.logical ≤ address → put_by entry (leaf_of address) (slot_of_address address) ≡ None
put_by_none g (Remap at old new) address of behind = elim (page_tells (leaf_of address) (leaf_of at.0)) [
  | inr other ↦ rw other.0 refl
  | inl same ↦ elim (eqb_tells (slot_of_address address) (slot_of_address at.0)) [
    | inr other ↦ rw (same.0, other.0) refl
    | inl slot ↦
        let first = address_is address (leaf_of at.0) same.1 in
        let second = address_is at.0 (leaf_of at.0) refl in
        let number = slot.1 in
        let few = of.0 in
        absurd (omega (arith, first, second, number, few, behind))
  ]
]
put_by_none g (NewPage below at) address of behind = elim (page_tells (leaf_of address) (above below)) [
  | inr other ↦ rw other.0 refl
  | inl same ↦ let level = ap (λ (p : PageId). p.level) same.1 in absurd (omega (arith, level))
]

put_none : (g : Geometry) (last : ℕ) (window : List CommittedEntry) (address : ℕ) → All (IsKnown g last) window → g.logical ≤ address
    → put_last window (leaf_of address) (slot_of_address address) ≡ None
put_none g last [] address known behind = refl
put_none g last (committed ∷ older) address known behind =
    rw (put_by_none g committed.entry address (All-head (IsKnown g last) committed older known).of_image behind)
    (put_none g last older address (All-tail (IsKnown g last) committed older known) behind)

-- In an image.

module _ (image : Image) (tall : 2 ≤ image.geometry.height) (good : ArePagesGood image) (last : ℕ) (known : All (IsKnown image.geometry last) image.window)
    (pages : List OpenedPage) (inner : AreInnerPages image pages) where
  abbrev g : Geometry
  g = image.geometry

  below_parent : (parent page : PageId) → parent ≡ above page → page_below parent (slot_of page) ≡ page
  below_parent parent page named =
      let tree = ap (λ (p : PageId). p.tree) named in
      let level = ap (λ (p : PageId). p.level) named in
      let index = ap (λ (p : PageId). p.index) named in
      page_is (page_below parent (slot_of page)) page tree (omega (arith, level)) (omega (arith, index))

  -- one of the pages that are no leaves leads to each leaf that is linked, and to no other one
  leaf_led : (address : ℕ) (at : Pbn) → page_at image (leaf_of address) ≡ Some at → IsLed pages (leaf_of address) at
  leaf_led address at there =
      let leaf = leaf_of address in
      let up = above_linked image leaf at (omega (arith, tall)) there in
      let opened = inner.every (above leaf) up.0 (omega arith) up.1 in
      let is = inner.each opened.0 opened.1 in
      let small : slot_of leaf < PAGE_SLOTS = mod-lt leaf.index (omega arith) in
      let leads = below_at image opened.0.page opened.0.at (slot_of leaf) is.inner small is.stands in
      let target : target_of (says image opened.0.page opened.0.at (slot_of leaf)) ≡ Some at =
      sym leads ∙ ap (page_at image) (below_parent opened.0.page leaf opened.2) ∙ there in
      record {
        parent = opened.0;
        listed = opened.1;
        named = opened.2;
        leads = is.slots (slot_of leaf) small ∙ target_at (says image opened.0.page opened.0.at (slot_of leaf)) at target;
      }

  leaf_there : (page : PageId) (at : Pbn) → IsLed pages page at → page_at image page ≡ Some at
  leaf_there page at led =
      let is = inner.each led.parent led.listed in
      let small : slot_of page < PAGE_SLOTS = mod-lt page.index (omega arith) in
      let leads = below_at image led.parent.page led.parent.at (slot_of page) is.inner small is.stands in
      ap (page_at image) (sym (below_parent led.parent.page page led.named)) ∙ leads ∙ ap target_of (sym (is.slots (slot_of page) small) ∙ led.leads)

  -- what an address has by its slot
  mapping_there : (address : ℕ) (at : Pbn) → page_at image (leaf_of address) ≡ Some at → mapping_of image address ≡ says image (leaf_of address) at (slot_of_address address)
  mapping_there address at there = rw (mapping_of, there) refl

  mapping_nowhere : (address : ℕ) → page_at image (leaf_of address) ≡ None → mapping_of image address ≡ Unmapped
  mapping_nowhere address none = rw (mapping_of, none) refl

  slot_mapped : (address : ℕ) (at : Pbn) (mapping : Mapping) → g.logical ≤ address → page_at image (leaf_of address) ≡ Some at
      → IsSlot (leaf_head g (record { page = leaf_of address; at = at })) (block_at image.blocks at.0) (slot_of_address address) mapping → mapping_of image address ≡ mapping
  slot_mapped address at mapping behind there is =
      mapping_there address at there ∙ says_own image (leaf_of address) at (slot_of_address address) (put_none g last image.window address known behind)
      ∙ slot_says_its_mapping (leaf_head g (record { page = leaf_of address; at = at })) (block_at image.blocks at.0) (slot_of_address address) mapping is

  module _ (range : AddressRange) (from : range.first ≡ g.logical) (leaves : List Link) (are : AreNewLeaves range pages leaves) where
    behind_all : (address : ℕ) → IsWithin range address → g.logical ≤ address
    behind_all address within = let low = within.0 in omega (arith, from, low)

    -- before the least one that the leaves' blocks have, none is mapped
    pub unmapped_before : (least : Option Lba) → IsLeastMapped g range leaves image.blocks least → (address : ℕ) → IsWithin range address → IsBefore address least
        → mapping_of image address ≡ Unmapped
    unmapped_before least is address within before = turn (page_at image (leaf_of address)) refl
      where
        turn : (o : Option Pbn) → page_at image (leaf_of address) ≡ o → mapping_of image address ≡ Unmapped
        turn None none = mapping_nowhere address none
        turn (Some at) there =
            let listed = are.every address at within (leaf_led address at there) in
            slot_mapped address at Unmapped (behind_all address within) there (is.before (record { page = leaf_of address; at = at }) address listed refl within before)

    -- and it is
    pub mapped_at : (at : Lba) → IsLeastMapped g range leaves image.blocks (Some at) → IsWithin range at.0 × (mapping_of image at.0 ≡ Unmapped → ⊥)
    mapped_at at least =
        let has = least.found at refl in
        let leaf = has.leaf in
        let own = has.is.own in
        let there : page_at image (leaf_of at.0) ≡ Some leaf.at = ap (page_at image) own ∙ leaf_there leaf.page leaf.at (are.each leaf has.listed).led in
        let stands : IsSlot (leaf_head g (record { page = leaf_of at.0; at = leaf.at })) (block_at image.blocks leaf.at.0) (slot_of_address at.0) has.is.mapping =
        subst (λ (p : PageId). IsSlot (leaf_head g (record { page = p; at = leaf.at })) (block_at image.blocks leaf.at.0) (slot_of_address at.0) has.is.mapping) (sym own) has.is.says in
        (has.is.within, λ none. has.is.mapped (sym (slot_mapped at.0 leaf.at has.is.mapping (behind_all at.0 has.is.within) there stands) ∙ none))

    -- each slot can be read
    pub none_unreadable : (at : Pbn) (fault : PageFault) → HasUnreadable g range leaves image.blocks at fault → ⊥
    none_unreadable at fault (leaf, listed, stands, is) =
        let there = leaf_there leaf.page leaf.at (are.each leaf listed).led in
        let small : slot_of_address is.address < PAGE_SLOTS = mod-lt is.address (omega arith) in
        let none = put_none g last image.window is.address known (behind_all is.address is.within) in
        turn ((good leaf.page leaf.at there).slots (slot_of_address is.address) small) (ap (λ (p : PageId). put_last image.window p (slot_of_address is.address)) (sym is.own) ∙ none) is.fault_is
      where
        turn : IsReadable image leaf.page leaf.at (slot_of_address is.address) → put_last image.window leaf.page (slot_of_address is.address) ≡ None
            → IsSlotFault (leaf_head g leaf) (block_at image.blocks leaf.at.0) (slot_of_address is.address) fault → ⊥
        turn (inl some) none faulty = no_some (put_last image.window leaf.page (slot_of_address is.address)) none some
        turn (inr (mapping, holds)) none faulty = no_slot_fault (leaf_head g leaf) (block_at image.blocks leaf.at.0) (slot_of_address is.address) mapping fault holds faulty
