-- For each definition of the map of an image a case that it accepts, and for each clause one that breaks it alone.
use Rattle.std.proofs.Common.{◌≡◌, true, false, List, [], ◌∷◌, Ok, Err, refl, sym, subst, inl, inr, arith}
use Rattle.audit.specs.Audits.{IsOpenedTo}
use Rattle.blk_base.proofs.Example.{small, small_is, leaf}
use Rattle.blk_base.specs.Limits.{IsGeometry}
use Rattle.blk_base.specs.Regions.{IsDataBlock}
use Rattle.blk_base.specs.declared.geometry.Geometry.{Geometry}
use Rattle.blk_base.specs.declared.geometry.Super.{Super}
use Rattle.blk_base.specs.declared.journal_entry.CommittedEntry.{CommittedEntry}
use Rattle.blk_base.specs.declared.place.Mapping.{Mapping}
use Rattle.blk_base.specs.declared.place.Mapping.TheVariants.{At}
use Rattle.disk_model.specs.Log.{Blocks}
use Rattle.disk_model.specs.Seen.{Seen}
use Rattle.disk_model.specs.Trust.{trust_of}
use Rattle.image_layout.specs.Opened.{super_of_image}
use Rattle.image_layout.specs.declared.fault.SuperFault.TheVariants.{NotAnImage}
use Rattle.image_model.proofs.CountLaws.{is_first, none_in_nothing}
use Rattle.image_model.specs.Maps.{Image}
use Rattle.image_model.specs.Sound.{image_of}
use Rattle.image_model.specs.declared.fault.ImageFault.TheVariants as image
use Rattle.image_opening.specs.Heads.{IsHeadRead}
use Rattle.journal_window.specs.States.{WindowState}
use Rattle.rebuild.specs.Recoveries.{IsTold}
use Rattle.replay_map.specs.Changes.{AreNewest}
use Rattle.replay_map.specs.Forms.{HasForm}
use Rattle.replay_map.specs.Replayed.{HasMap, IsMapRead}
use Rattle.replay_map.specs.declared.changes.SlotId.{SlotId}
use Rattle.replay_map.specs.declared.links.Link.{Link}
use Rattle.crash_images.specs.Maps.{Fits, HasNoMap, IsMapIn, OfMap, ShowsMap}
use Rattle.crash_images.specs.declared.maps.ImageMap.{ImageMap}

abbrev slot : SlotId
slot = record { page = leaf; slot = 0 }

-- what leads to a block of the journal
abbrev to_journal : Mapping
to_journal = At (record { 0 = 1 })

no_links : HasForm small [] []
no_links = record {
  each = λ link there. absurd (none_in_nothing link there);
  parents = λ link there. absurd (none_in_nothing link there);
  once = λ i j d less inside. absurd (omega (arith, inside));
  slots_once = λ i j d less inside. absurd (omega (arith, inside));
}

-- Fits: without links and changes
module _ (found : ImageMap) (sizes : found.head.geometry ≡ small) where
  fits : found.pages.links.items ≡ [] → found.pages.slots.items ≡ [] → found.changes ≡ [] → Fits found
  fits links slots changes = record {
    sizes = subst IsGeometry (sym sizes) small_is;
    form = rw (links, slots, sizes) no_links;
    leads = rw changes (λ page number mapping low put. absurd (cc put));
  }

  -- sizes
  fits-not_of_other_sizes : found.head.geometry.height ≡ 4 → Fits found → ⊥
  fits-not_of_other_sizes high is = let height = is.sizes.height.1 in omega (arith, height, high)

  -- form
  fits-not_with_a_link_elsewhere : found.pages.links.items ≡ record { page = leaf; at = record { 0 = 1 } } ∷ [] → Fits found → ⊥
  fits-not_with_a_link_elsewhere one is =
      let link : Link = record { page = leaf; at = record { 0 = 1 } } in
      let block : IsDataBlock small 1 = subst (λ (g : Geometry). IsDataBlock g 1) sizes (is.form.each link (rw one (is_first link []))).data_block in
      let stands = block.stands in
      omega (arith, stands)

  -- leads
  fits-not_with_a_change_elsewhere : found.changes ≡ (slot, to_journal) ∷ [] → Fits found → ⊥
  fits-not_with_a_change_elsewhere one is =
      let block : IsDataBlock small 1 = subst (λ (g : Geometry). IsDataBlock g 1) sizes (is.leads leaf 0 to_journal (omega arith) (rw one refl)) in
      let stands = block.stands in
      omega (arith, stands)

module _ (before now : Seen) (found : ImageMap) where
  -- ShowsMap: block 0, the journal and the pages
  shows : (window : WindowState) (middle : Seen) → IsOpenedTo (trust_of true true) before middle found.head window → IsMapRead (trust_of true true) found.head.geometry window middle now found.pages
      → AreNewest window.entries found.changes → ShowsMap (trust_of true true) before now found
  shows window middle to pages newest = record { window = window; middle = middle; opened_to = to; pages = pages; newest = newest }

  -- opened_to
  shows-not_unopened : ((window : WindowState) (middle : Seen) → IsOpenedTo (trust_of true true) before middle found.head window → ⊥) → ShowsMap (trust_of true true) before now found → ⊥
  shows-not_unopened never is = never is.window is.middle is.opened_to

  -- pages
  shows-not_without_pages : ((window : WindowState) (middle : Seen) → IsMapRead (trust_of true true) found.head.geometry window middle now found.pages → ⊥) → ShowsMap (trust_of true true) before now found → ⊥
  shows-not_without_pages never is = never is.window is.middle is.pages

  -- newest
  shows-not_with_other_changes : ((window : WindowState) → AreNewest window.entries found.changes → ⊥) → ShowsMap (trust_of true true) before now found → ⊥
  shows-not_with_other_changes never is = never is.window is.newest

  -- HasNoMap: a device without a block; want of memory behind block 0
  no_superblock : before.size ≡ 0 → HasNoMap (trust_of true true) before before (image.Super NotAnImage)
  no_superblock none = inl (inl (record { none = none; fault_is = refl; same = refl }))

  no_memory : (head : Super) (middle : Seen) → IsHeadRead (trust_of true true) before middle head → HasNoMap (trust_of true true) before now image.Memory
  no_memory head middle read = inr (head, middle, read, inl tt)

  -- that a session wasn't closed is no reason, nor a wrong count
  no_map-not_for_being_open : HasNoMap (trust_of true true) before now image.Unclean → ⊥
  no_map-not_for_being_open (inl none) = none
  no_map-not_for_being_open (inr (head, middle, read, inl none)) = none
  no_map-not_for_being_open (inr (head, middle, read, inr (second, window, window_read, none))) = none

  no_map-not_for_a_count : HasNoMap (trust_of true true) before now (image.Counts (record { 0 = 86 }) 2 1) → ⊥
  no_map-not_for_a_count (inl none) = none
  no_map-not_for_a_count (inr (head, middle, read, inl none)) = none
  no_map-not_for_a_count (inr (head, middle, read, inr (second, window, window_read, none))) = none

-- IsMapIn
module _ (found : ImageMap) (blocks : Blocks) (window : List CommittedEntry) where
  map_in : super_of_image blocks ≡ Ok found.head → AreNewest window found.changes → HasMap (image_of found.head blocks window) found.pages → IsMapIn found blocks window
  map_in accepted newest has = record { accepted = accepted; newest = newest; has = has }

  -- accepted
  map_in-not_of_no_image : super_of_image blocks ≡ Err NotAnImage → IsMapIn found blocks window → ⊥
  map_in-not_of_no_image none is = absurd (let own = is.accepted in cc (none, own))

  -- newest
  map_in-not_with_a_change_of_none : found.changes ≡ (slot, to_journal) ∷ [] → window ≡ [] → IsMapIn found blocks window → ⊥
  map_in-not_with_a_change_of_none one none is = absurd (let given = is.newest leaf 0 (omega arith) in let same = rw (one, none) at given in cc same)

  -- has
  map_in-not_of_another_map : (HasMap (image_of found.head blocks window) found.pages → ⊥) → IsMapIn found blocks window → ⊥
  map_in-not_of_another_map never is = never is.has

-- OfMap: nothing is said of a device that doesn't tell; of one whose image has the map it is said of that
of_untold : (before : Seen) (found : ImageMap) (Says : Image → Type 0) → OfMap (trust_of false true) before found Says
of_untold before found Says blocks window is here = absurd (let told = is.told in cc told)

of_this : (before : Seen) (found : ImageMap) (blocks : Blocks) (window : List CommittedEntry) → IsTold (trust_of true true) before blocks → IsMapIn found blocks window
    → OfMap (trust_of true true) before found (λ image. image.blocks ≡ blocks → ⊥) → ⊥
of_this before found blocks window is here says = says blocks window is here refl
