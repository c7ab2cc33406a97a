-- Entries that come in turn: the number of a block's mappings is the running count of their updates.
use Rattle.std.proofs.Common.{ℕ, zero, suc, ◌≡◌, ◌⊎◌, ◌+◌, ◌*◌, ◌^◌, ◌≤◌, List, [], ◌∷◌, Option, Some, None, refl, sym, ◌∙◌, ap, subst, inl, inr, arith}
use Rattle.std.proofs.lemmas.Bool.Decides.{eqb_tells}
use Rattle.blk_base.specs.Pages.{leaf_of, slot_of_address}
use Rattle.blk_base.specs.Counters.{limit_of}
use Rattle.blk_base.specs.Limits.{IsGeometry, logical_limit}
use Rattle.blk_base.specs.declared.geometry.Geometry.{Geometry}
use Rattle.blk_base.specs.declared.journal_entry.CommittedEntry.{CommittedEntry}
use Rattle.blk_base.specs.declared.journal_entry.Entry.{Entry}
use Rattle.blk_base.specs.declared.journal_entry.Entry.TheVariants.{Remap, NewPage}
use Rattle.blk_base.specs.declared.place.Mapping.TheVariants.{At}
use Rattle.blk_base.specs.declared.place.Pbn.{Pbn}
use Rattle.blk_base.specs.declared.point.Point.{Point}
use Rattle.blk_base.specs.declared.sizes.TheConstants.{PAGE_SLOTS, TREES}
use Rattle.disk_model.specs.Log.{Blocks}
use Rattle.image_model.specs.Counts.{HasMappings}
use Rattle.image_model.specs.Maps.{Image, IsTreePage, mapping_of, page_at, says, slot_in}
use Rattle.image_model.specs.Pages.{address_count}
use Rattle.image_model.specs.Sound.{AreUnshared}
use Rattle.journal_stops.specs.Mapped.{ShowsEntries, later_image, mapping_after}
use Rattle.journal_stops.proofs.GrowLaws.{by_leaf}
use Rattle.journal_stops.proofs.OpenedLaws.{page_with_none, slot_of_page}
use Rattle.count_laws.specs.Points.{ArePointed, points_by, points_for}
use Rattle.count_laws.specs.RunningCount.{RunningCount}
use Rattle.count_laws.specs.Turns.{AreInTurn, AreUnsharedAfter, ComesInTurn, HasMappingsAfter, IsPageAfter, MayLeadTo}
use Rattle.count_laws.proofs.BelowLaws.{same_up_to}
use Rattle.count_laws.proofs.PointLaws.{count_goes_on}
use Rattle.count_laws.proofs.StepLaws.{in_turn_rooted, new_mapping, new_trees_back, number_of_pages, remap_here, remap_other, remap_trees_back, step_counts, turn_step}

-- All addresses below the logical size have a place in the leaves.

fits_height : (height logical : ℕ) → 2 ≤ height → height ≤ 3 → logical ≤ logical_limit height → logical ≤ TREES * PAGE_SLOTS ^ height
fits_height zero logical low high within = absurd (omega (arith, low))
fits_height (suc zero) logical low high within = absurd (omega (arith, low))
fits_height (suc (suc zero)) logical low high within = within
fits_height (suc (suc (suc zero))) logical low high within = omega (arith, within)
fits_height (suc (suc (suc (suc more)))) logical low high within = absurd (omega (arith, high))

pub addresses_fit : (g : Geometry) → IsGeometry g → g.logical ≤ address_count g
unfolding address_count
addresses_fit g sizes = fits_height g.height g.logical sizes.height.0 sizes.height.1 sizes.logical.1

-- The number of mappings over the opened image.

pub opened_mapping : (opened : Image) (a : ℕ) → mapping_after opened [] a ≡ mapping_of opened a
opened_mapping opened a =
    ap (by_leaf (λ at. slot_in opened (leaf_of a) (slot_of_address a))) (page_with_none opened (leaf_of a)) ∙ through (page_at opened (leaf_of a)) refl
  where
    through : (o : Option Pbn) → page_at opened (leaf_of a) ≡ o
        → by_leaf (λ at. slot_in opened (leaf_of a) (slot_of_address a)) o ≡ by_leaf (λ at. says opened (leaf_of a) at (slot_of_address a)) o
    through (Some at) is = slot_of_page opened (leaf_of a) at (slot_of_address a) is
    through None is = refl

opened_trees : (opened : Image) (block : Pbn) → IsTreePage opened block → IsPageAfter opened [] block
opened_trees opened block (page, below, there) = (page, below, page_with_none opened page ∙ there)

opened_trees_back : (opened : Image) (block : Pbn) → IsPageAfter opened [] block → IsTreePage opened block
opened_trees_back opened block (page, below, there) = (page, below, sym (page_with_none opened page) ∙ there)

pub opened_has : (opened : Image) (block : Pbn) (count : ℕ) → HasMappings opened block count → HasMappingsAfter opened [] block count
opened_has opened block count has = record {
  pages = has.pages;
  one_page = number_of_pages (IsTreePage opened block) (IsPageAfter opened [] block) has.pages (opened_trees opened block) (opened_trees_back opened block) has.one_page;
  sum = has.sum
      ∙ ap (λ (n : ℕ). n + has.pages) (sym (same_up_to (mapping_of opened) (mapping_after opened []) block (address_count opened.geometry) (λ a below. opened_mapping opened a)));
}

-- It is one number.

same_pages : (P : Type 0) (n m : ℕ) → ((n ≡ 1) × P) ⊎ ((n ≡ 0) × (P → ⊥)) → ((m ≡ 1) × P) ⊎ ((m ≡ 0) × (P → ⊥)) → n ≡ m
same_pages P n m (inl has) (inl again) = has.0 ∙ sym again.0
same_pages P n m (inl has) (inr none) = absurd (none.1 has.1)
same_pages P n m (inr none) (inl has) = absurd (none.1 has.1)
same_pages P n m (inr none) (inr again) = none.0 ∙ sym again.0

pub one_number_after : (opened : Image) (entries : List CommittedEntry) (block : Pbn) (n m : ℕ) → HasMappingsAfter opened entries block n → HasMappingsAfter opened entries block m → n ≡ m
one_number_after opened entries block n m has again =
    let pages = same_pages (IsPageAfter opened entries block) has.pages again.pages has.one_page again.one_page in
    let sum = has.sum in
    let sums = again.sum in
    omega (arith, pages, sum, sums)

-- The running count.

pub running_count : (opened : Image) (from : ℕ) (entries : List CommittedEntry) (block : Pbn) (count : ℕ) → opened.geometry.logical ≤ address_count opened.geometry
    → AreInTurn opened entries → ArePointed from entries → HasMappingsAfter opened [] block count → RunningCount opened entries block count
running_count opened from [] block count fits turns pointed has = record { now = count; has = has; sum = refl; counted = refl }
running_count opened from (c ∷ older) block count fits turns pointed has =
    let before = running_count opened from older block count fits turns.1 pointed.2 has in
    let step = turn_step opened older c.entry c.point block before.now (in_turn_rooted opened older turns.1) fits turns.0 before.has in
    let sum = step.sum in
    let sums = before.sum in
    record {
      now = step.now;
      has = step.has;
      sum = omega (arith, sum, sums);
      counted =
          count_goes_on (limit_of opened.geometry) count before.now (points_for older block) (points_by c.entry c.point.0 block) before.counted
          ∙ step_counts opened older c.entry c.point block before.now step pointed.1;
    }

-- An image that shows the entries has that number.

pub shown_has : (opened : Image) (start : ℕ) (blocks : Blocks) (entries : List CommittedEntry) (s : ShowsEntries opened start blocks entries) (block : Pbn) (count : ℕ)
    → HasMappingsAfter opened entries block count → HasMappings (later_image opened blocks s.shown.window) block count
shown_has opened start blocks entries s block count has = record {
  pages = has.pages;
  one_page = number_of_pages (IsPageAfter opened entries block) (IsTreePage (later_image opened blocks s.shown.window) block) has.pages
      (λ (page, below, there). (page, below, s.pages page ∙ there))
      (λ (page, below, there). (page, below, sym (s.pages page) ∙ there)) has.one_page;
  sum = has.sum
      ∙ ap (λ (n : ℕ). n + has.pages)
      (sym (same_up_to (mapping_after opened entries) (mapping_of (later_image opened blocks s.shown.window)) block (address_count opened.geometry) (λ a below. s.mappings a)));
}

-- No address is mapped to the block of a page.

step_unshared : (opened : Image) (older : List CommittedEntry) (entry : Entry) (point : Point) → AreInTurn opened older → ComesInTurn opened older entry → AreUnsharedAfter opened older → AreUnsharedAfter opened (record { entry = entry; point = point } ∷ older)
step_unshared opened older (Remap changed old new) point turns turn apart at address tree mapped =
    let rooted = in_turn_rooted opened older turns in
    let before = remap_trees_back opened older rooted point changed old new turn at tree in
    elim (eqb_tells address changed.0) [
      | inl same ↦
          let here : mapping_after opened (record { entry = Remap changed old new; point = point } ∷ older) changed.0 ≡ At at =
          subst (λ (a : ℕ). mapping_after opened (record { entry = Remap changed old new; point = point } ∷ older) a ≡ At at) same.1 mapped in
          let leads : new ≡ At at = sym (remap_here opened older rooted point changed old new turn) ∙ here in
          let may : MayLeadTo opened older (At at) = subst (MayLeadTo opened older) leads turn.3 in
          may.1 before
      | inr other ↦ apart at address before (sym (remap_other opened older rooted point changed old new turn address other.1) ∙ mapped)
    ]
step_unshared opened older (NewPage made block) point turns turn apart at address tree mapped =
    let rooted = in_turn_rooted opened older turns in
    let was : mapping_after opened older address ≡ At at = sym (new_mapping opened older rooted point made block turn address) ∙ mapped in
    elim (new_trees_back opened older rooted point made block turn at tree) [
      | inl is ↦ turn.4.unmapped address (subst (λ (x : Pbn). mapping_after opened older address ≡ At x) is was)
      | inr before ↦ apart at address before was
    ]

pub unshared_after : (opened : Image) (entries : List CommittedEntry) → AreInTurn opened entries → AreUnshared opened → AreUnsharedAfter opened entries
unshared_after opened [] turns apart = λ at address tree mapped. apart at address (opened_trees_back opened at tree) (sym (opened_mapping opened address) ∙ mapped)
unshared_after opened (c ∷ older) turns apart = step_unshared opened older c.entry c.point turns.1 turns.0 (unshared_after opened older turns.1 apart)

pub shown_unshared : (opened : Image) (start : ℕ) (blocks : Blocks) (entries : List CommittedEntry) (s : ShowsEntries opened start blocks entries) → AreUnsharedAfter opened entries
    → AreUnshared (later_image opened blocks s.shown.window)
shown_unshared opened start blocks entries s apart at address (page, below, there) mapped =
    apart at address (page, below, sym (s.pages page) ∙ there) (sym (s.mappings address) ∙ mapped)
