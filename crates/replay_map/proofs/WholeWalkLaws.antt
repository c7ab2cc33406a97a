-- What walks show: of a page and those of its slots, and of the trees.
use Rattle.std.proofs.Common.{ℕ, ◌≡◌, ◌⊎◌, ◌+◌, ◌<◌, Bool, List, Some, None, refl, sym, ◌∙◌, ap, subst, inl, inr, arith}
use Rattle.std.proofs.lemmas.Bool.{cases_lt}
use Rattle.blk_base.specs.declared.geometry.Geometry.{Geometry}
use Rattle.blk_base.specs.declared.place.Mapping.{Mapping}
use Rattle.blk_base.specs.declared.place.PageId.{PageId}
use Rattle.blk_base.specs.declared.place.Pbn.{Pbn}
use Rattle.blk_base.specs.declared.sizes.TheConstants.{PAGE_SLOTS}
use Rattle.disk_model.specs.Seen.{Seen}
use Rattle.disk_model.specs.Trust.{Trust}
use Rattle.image_model.specs.Faults.{HasFault}
use Rattle.image_model.specs.Maps.{Image, IsGoodPage, page_at, says, target_of}
use Rattle.image_model.specs.Pages.{IsAhead}
use Rattle.image_model.specs.declared.fault.ImageFault.{ImageFault}
use Rattle.image_model.specs.declared.fault.ImageFault.TheVariants.{Super, Window, Page, Counter, SharedPage, Counts, Device, Unclean, Memory}
use Rattle.page_codec.specs.declared.fault.PageFault.{PageFault}
use Rattle.replay_map.proofs.LinkedLaws.{below_at, none_below}
use Rattle.replay_map.proofs.ReadLaws.{failed_behind, shown_on}
use Rattle.replay_map.proofs.UnderLaws.{by_slots, leaf_alone, none_ahead_of_slot, none_ahead_of_top, one_slot_more, under_itself, under_slots, up_to_more}
use Rattle.replay_map.proofs.MappedLaws.{all_of_leaf, all_of_slots, maps_none, up_to_next}
use Rattle.replay_map.proofs.WalkLaws.{fault_among, walked_as, walked_none, walked_on}
use Rattle.blk_base.specs.Pages.{page_below}
use Rattle.replay_map.specs.Reads.{IsShown}
use Rattle.replay_map.specs.Sums.{maps_below, maps_up_to}
use Rattle.replay_map.specs.Walks.{IsFirstFault, IsLinked, IsUnder, IsUpTo, WalkFails, WalkedUnder, WalkedUpTo}
use Rattle.replay_map.specs.declared.changes.SlotId.{SlotId}
use Rattle.replay_map.specs.declared.found.Found.{Found}
use Rattle.replay_map.specs.declared.links.Link.{Link}

-- why a walk behind another one fails, of which something is known
pub fails_behind : (trust : Trust) (g : Geometry) (changes : List (SlotId × Mapping)) (before middle now : Seen) (Known There All-there : Image → Type 0)
    (Over All : PageId → Type 0) (why : ImageFault)
    → IsShown trust g changes before middle Known
    → ((image : Image) → Known image → All-there image → There image)
    → ((image : Image) (at : Pbn) (fault : PageFault) → Known image → All-there image → IsFirstFault image Over at fault → IsFirstFault image All at fault)
    → WalkFails trust g changes middle now There Over why → WalkFails trust g changes before now All-there All why
fails_behind trust g changes before middle now Known There All-there Over All (Page at fault) known there among fails =
    shown_on trust g changes before middle now Known (λ image. There image → IsFirstFault image Over at fault) (λ image. All-there image → IsFirstFault image All at fault)
    known fails (λ image knows is stands. among image at fault knows stands (is (there image knows stands)))
fails_behind trust g changes before middle now Known There All-there Over All Device known there among fails = failed_behind trust g changes before middle now Known known fails
fails_behind trust g changes before middle now Known There All-there Over All Memory known there among fails = tt
fails_behind trust g changes before middle now Known There All-there Over All (Super fault) known there among fails = absurd fails
fails_behind trust g changes before middle now Known There All-there Over All (Window sequence) known there among fails = absurd fails
fails_behind trust g changes before middle now Known There All-there Over All (Counter at point) known there among fails = absurd fails
fails_behind trust g changes before middle now Known There All-there Over All (SharedPage at) known there among fails = absurd fails
fails_behind trust g changes before middle now Known There All-there Over All (Counts at stored mapped) known there among fails = absurd fails
fails_behind trust g changes before middle now Known There All-there Over All Unclean known there among fails = absurd fails

module _ (image : Image) (top : Link) (there : IsLinked image top) where
  -- a leaf alone was walked over
  pub leaf_walked : (old new : Found) → top.page.level ≡ 0 → WalkedUpTo image top.page 0 old new → WalkedUnder image top.page old new
  leaf_walked old new leaf =
      walked_as image (IsUpTo top.page 0) (IsUnder top.page) (maps_up_to image top.page 0) (maps_below image top.page) old new
      (λ page at stands under. inl (leaf_alone top.page page leaf under)) back (λ block. all_of_leaf image top.page block leaf)
    where
      back : (page : PageId) (at : Pbn) → page_at image page ≡ Some at → IsUpTo top.page 0 page → IsUnder top.page page
      back page at stands (inl same) = subst (λ (p : PageId). IsUnder top.page p) (sym same) (under_itself top.page)
      back page at stands (inr (slot, before, inside, under)) = absurd (omega (arith, before))

  -- all slots were
  pub all_walked : (old new : Found) → 0 < top.page.level → WalkedUpTo image top.page PAGE_SLOTS old new → WalkedUnder image top.page old new
  all_walked old new inner =
      walked_as image (IsUpTo top.page PAGE_SLOTS) (IsUnder top.page) (maps_up_to image top.page PAGE_SLOTS) (maps_below image top.page) old new
      (λ page at stands under. by_slots top.page page under) (λ page at stands up_to. under_slots top.page page PAGE_SLOTS inner up_to)
      (λ block. all_of_slots image top.page block inner)

  module _ (slot : ℕ) (inside : slot < PAGE_SLOTS) (inner : 0 < top.page.level) (mapping : Mapping) (is : mapping ≡ says image top.page top.at slot) where
    -- the page to which a slot leads is linked
    pub child_linked : (at : Pbn) → target_of mapping ≡ Some at → IsLinked image (record { page = page_below top.page slot; at = at })
    child_linked at leads = below_at image top.page top.at slot inner inside there ∙ ap target_of (sym is) ∙ leads

    -- with the pages below it one slot more was walked over
    pub slot_walked : (old middle new : Found) → WalkedUpTo image top.page slot old middle → WalkedUnder image (page_below top.page slot) middle new
        → WalkedUpTo image top.page (slot + 1) old new
    slot_walked old middle new =
        walked_on image (IsUpTo top.page slot) (IsUnder (page_below top.page slot)) (IsUpTo top.page (slot + 1)) (maps_up_to image top.page slot)
        (maps_below image (page_below top.page slot)) (maps_up_to image top.page (slot + 1)) old middle new
        (λ page at stands over. one_slot_more top.page page slot over) (λ page at stands over. up_to_more top.page page slot inside over)
        (λ block. up_to_next image top.page block slot)

    -- a slot that leads nowhere
    none_linked : target_of mapping ≡ None → (page : PageId) (at : Pbn) → IsUnder (page_below top.page slot) page → page_at image page ≡ Some at → ⊥
    none_linked none page at under stands = none_below image top.page top.at slot inner inside there page at (ap target_of (sym is) ∙ none) under stands

    pub slot_passed : (old new : Found) → target_of mapping ≡ None → WalkedUpTo image top.page slot old new → WalkedUpTo image top.page (slot + 1) old new
    slot_passed old new none walked =
        slot_walked old new new walked
        (walked_none image (IsUnder (page_below top.page slot)) (maps_below image (page_below top.page slot)) new (λ page at stands under. none_linked none page at under stands)
        (λ block. maps_none image block (page_below top.page slot).level (page_below top.page slot) refl (λ page at under stands. none_linked none page at under stands)))

    -- a fault below it is the first one below the page
    pub slot_fault : (old new : Found) (at : Pbn) (fault : PageFault) → WalkedUpTo image top.page slot old new
        → IsFirstFault image (IsUnder (page_below top.page slot)) at fault → IsFirstFault image (IsUnder top.page) at fault
    slot_fault old new at fault walked =
        fault_among image (IsUnder (page_below top.page slot)) (IsUnder top.page) at fault
        (λ page under. under_slots top.page page (slot + 1) inner (inr (slot, omega arith, inside, under))) ahead
      where
        of_slot : (page other : PageId) (place : Pbn) (own : ℕ) → own < PAGE_SLOTS → IsUnder (page_below top.page slot) page → IsUnder (page_below top.page own) other → IsAhead other page
            → page_at image other ≡ Some place → IsUnder (page_below top.page slot) other ⊎ IsGoodPage image other place
        of_slot page other place own within under under' before stands = elim (cases_lt own slot) [
          | inl less ↦ inr (walked.good other place (inr (own, less, within, under')) stands)
          | inr most ↦ elim (cases_lt slot own) [
            | inl later ↦ absurd (none_ahead_of_slot top.page page other slot own later under under' before)
            | inr least ↦ let same : own ≡ slot = omega (arith, most, least) in inl (subst (λ (s : ℕ). IsUnder (page_below top.page s) other) same under')
          ]
        ]

        ahead : (page other : PageId) (place : Pbn) → IsUnder (page_below top.page slot) page → IsUnder top.page other → IsAhead other page → page_at image other ≡ Some place
            → IsUnder (page_below top.page slot) other ⊎ IsGoodPage image other place
        ahead page other place under within before stands = elim (by_slots top.page other within) [
          | inl same ↦ inr (walked.good other place (inl same) stands)
          | inr below ↦ of_slot page other place below.0 below.2 under below.3 before stands
        ]

  -- a fault of the page itself is the first one
  pub top_fault : (at : Pbn) (fault : PageFault) → IsFirstFault image (IsUpTo top.page 0) at fault → IsFirstFault image (IsUnder top.page) at fault
  top_fault at fault =
      fault_among image (IsUpTo top.page 0) (IsUnder top.page) at fault (λ page over. under page over)
      (λ page other place over within before stands. absurd (none_ahead page other over within before))
    where
      under : (page : PageId) → IsUpTo top.page 0 page → IsUnder top.page page
      under page (inl same) = subst (λ (p : PageId). IsUnder top.page p) (sym same) (under_itself top.page)
      under page (inr (slot, before, inside, below)) = absurd (omega (arith, before))

      none_ahead : (page other : PageId) → IsUpTo top.page 0 page → IsUnder top.page other → IsAhead other page → ⊥
      none_ahead page other (inl same) within before = none_ahead_of_top top.page other within (subst (λ (p : PageId). IsAhead other p) same before)
      none_ahead page other (inr (slot, less, inside, below)) within before = absurd (omega (arith, less))

-- a fault of the page that was read
pub own_fault : (image : Image) (page : PageId) (at : Pbn) (fault : PageFault) → page_at image page ≡ Some at → HasFault image page at fault → IsFirstFault image (IsUpTo page 0) at fault
own_fault image page at fault there has = record {
  page = page;
  over = inl refl;
  there = there;
  has = has;
  first = λ other place over before stands. absurd (none_ahead_of_top page other (same_under other over) before);
}
  where
    same_under : (other : PageId) → IsUpTo page 0 other → IsUnder page other
    same_under other (inl same) = subst (λ (p : PageId). IsUnder page p) (sym same) (under_itself page)
    same_under other (inr (slot, less, inside, below)) = absurd (omega (arith, less))
