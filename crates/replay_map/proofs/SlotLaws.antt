-- A walk goes on from a page over its slots.
use Rattle.std.proofs.Common.{ℕ, ◌≡◌, ◌+◌, ◌<◌, ◌≤◌, Bool, List, Some, None, slice_index_or, sym, subst, inl, inr, arith}
use Rattle.blk_base.proofs.RegionLaws.{data_block_inside}
use Rattle.blk_base.specs.Regions.{needed_blocks}
use Rattle.blk_base.specs.declared.geometry.Geometry.{Geometry}
use Rattle.blk_base.specs.declared.place.Mapping.{Mapping}
use Rattle.blk_base.specs.declared.place.Mapping.TheVariants.{Unmapped, Zero, At}
use Rattle.blk_base.specs.declared.place.Pbn.{Pbn}
use Rattle.blk_base.specs.declared.sizes.TheConstants.{PAGE_SLOTS}
use Rattle.disk_model.specs.Seen.{Seen}
use Rattle.disk_model.specs.Trust.{Trust}
use Rattle.image_model.specs.Maps.{Image, target_of}
use Rattle.image_model.specs.Windows.{LeadsToData}
use Rattle.image_model.specs.declared.fault.ImageFault.{ImageFault}
use Rattle.replay_map.proofs.ReadLaws.{shown_as, shown_on}
use Rattle.replay_map.proofs.WholeWalkLaws.{child_linked, fails_behind, slot_fault, slot_passed, slot_walked}
use Rattle.blk_base.specs.Pages.{page_below}
use Rattle.replay_map.specs.Pages.{IsReadAs}
use Rattle.replay_map.specs.Reads.{IsPageBlock, IsShown}
use Rattle.replay_map.specs.Walks.{IsFirstFault, IsLinked, IsUnder, WalkFails, WalkedUnder, WalkedUpTo, head_at}
use Rattle.replay_map.specs.declared.changes.SlotId.{SlotId}
use Rattle.replay_map.specs.declared.found.Found.{Found}
use Rattle.replay_map.specs.declared.links.Link.{Link}

-- a page may stand at the block of a slot that leads to data
pub target_stands : (g : Geometry) (mapping : Mapping) (at : Pbn) → LeadsToData g mapping → target_of mapping ≡ Some at → IsPageBlock g at
target_stands g Unmapped at leads is = absurd (cc is)
target_stands g Zero at leads is = absurd (cc is)
target_stands g (At block) at leads is =
    let same : block ≡ at = cc is in
    subst (λ (p : Pbn). IsPageBlock g p) same (inl leads)

-- a block at which a page may stand is on the device
pub page_inside : (g : Geometry) (at : Pbn) (size : ℕ) → needed_blocks g ≤ size → IsPageBlock g at → at.0 < size
page_inside g at size room (inl is) = let inside = data_block_inside g at.0 is in omega (arith, inside, room)
page_inside g at size room (inr (tree, below, stands)) = omega (arith, below, stands, room)

module _ (trust : Trust) (g : Geometry) (changes : List (SlotId × Mapping)) (top : Link) (mappings : List Mapping) (slot : ℕ) (inside : slot < PAGE_SLOTS)
    (inner : 0 < top.page.level) where
  -- what is known before a slot
  abbrev pub Known : ℕ → Found → Found → Image → Type 0
  Known slots old new image = IsLinked image top → WalkedUpTo image top.page slots old new × IsReadAs image (head_at g top) mappings

  abbrev mapping : Mapping
  mapping = slice_index_or mappings slot Unmapped

  pub passed_slot : (before middle : Seen) (first old : Found) → target_of mapping ≡ None → IsShown trust g changes before middle (Known slot first old)
      → IsShown trust g changes before middle (Known (slot + 1) first old)
  passed_slot before middle first old none known =
      shown_as trust g changes before middle (Known slot first old) (Known (slot + 1) first old) known
      (λ image knows linked.
      let has = knows linked in
      (slot_passed image top linked slot inside inner mapping (has.1.each slot inside) first old none has.0, has.1))

  module _ (below : Link) (at : Pbn) (leads : target_of mapping ≡ Some at) (same : below ≡ record { page = page_below top.page slot; at = at }) where
    below_linked : (first old : Found) (image : Image) → Known slot first old image → IsLinked image top → IsLinked image below
    below_linked first old image knows linked =
        subst (λ (l : Link). IsLinked image l) (sym same) (child_linked image top linked slot inside inner mapping ((knows linked).1.each slot inside) at leads)

    pub walked_slot : (before middle now : Seen) (first old new : Found) → IsShown trust g changes before middle (Known slot first old)
        → IsShown trust g changes middle now (λ image. IsLinked image below → WalkedUnder image below.page old new)
        → IsShown trust g changes before now (Known (slot + 1) first new)
    walked_slot before middle now first old new known shown =
        shown_on trust g changes before middle now (Known slot first old) (λ image. IsLinked image below → WalkedUnder image below.page old new) (Known (slot + 1) first new) known shown
        (λ image knows walks linked.
        let has = knows linked in
        let walked = subst (λ (l : Link). WalkedUnder image l.page old new) same (walks (below_linked first old image knows linked)) in
        (slot_walked image top linked slot inside inner mapping (has.1.each slot inside) first old new has.0 walked, has.1))

    pub failed_slot : (before middle now : Seen) (first old : Found) (why : ImageFault) → IsShown trust g changes before middle (Known slot first old)
        → WalkFails trust g changes middle now (λ image. IsLinked image below) (IsUnder below.page) why
        → WalkFails trust g changes before now (λ image. IsLinked image top) (IsUnder top.page) why
    failed_slot before middle now first old why known fails =
        fails_behind trust g changes before middle now (Known slot first old) (λ image. IsLinked image below) (λ image. IsLinked image top) (IsUnder below.page) (IsUnder top.page) why known
        (below_linked first old)
        (λ image at fault knows linked is.
        let has = knows linked in
        slot_fault image top linked slot inside inner mapping (has.1.each slot inside) first old at fault has.0
        (subst (λ (l : Link). IsFirstFault image (IsUnder l.page) at fault) same is))
        fails
