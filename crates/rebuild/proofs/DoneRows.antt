-- What each part of recovery needs and has done: for each definition a small case that it accepts, and one that it refuses.
use Rattle.std.proofs.Common.{ℕ, ◌≡◌, ◌<◌, List, [], ◌∷◌, true, Option, Some, None, refl, ap, inl, inr, arith}
use Rattle.blk_base.specs.Counters.{sectors_per_slab}
use Rattle.blk_base.specs.declared.geometry.Geometry.{Geometry}
use Rattle.blk_base.specs.declared.journal_entry.Entry.TheVariants.{NewPage}
use Rattle.blk_base.specs.declared.place.Mapping.{Mapping}
use Rattle.blk_base.specs.declared.place.Mapping.TheVariants.{At}
use Rattle.blk_base.specs.declared.place.Pbn.{Pbn}
use Rattle.blk_base.specs.Forms.{page, pbn}
use Rattle.blk_base.proofs.Example.{root}
use Rattle.disk_model.specs.declared.call.Call.{Call}
use Rattle.disk_model.specs.declared.call.Call.TheVariants.{Read, Write}
use Rattle.image_model.proofs.CountLaws.{is_first, is_first_or_behind, none_in_nothing}
use Rattle.image_model.proofs.Example.{small}
use Rattle.image_model.proofs.MapExample.{logged, with_root}
use Rattle.image_model.specs.Counts.{commit_at}
use Rattle.image_model.specs.Maps.{Image}
use Rattle.recovery_blocks.specs.Counters.{HasUpdate}
use Rattle.recovery_blocks.specs.Patches.{HasChange}
use Rattle.replay_counts.specs.Recovered.{IsInSector}
use Rattle.replay_counts.specs.declared.forms.SectorPoints.{SectorPoints}
use Rattle.replay_map.specs.Changes.{AreNewest}
use Rattle.replay_map.specs.declared.changes.SlotId.{SlotId}
use Rattle.replay_map.specs.declared.links.Link.{Link}
use Rattle.rebuild.specs.Done.{AreBothDone, AreCountersDone, AreLinksDone, ArePagesDone, AreRootsDone, AreSlabsDone, HasContents, HasLinks, HasPage, HasPages, HasRoots, HasTheseCounts, IsBlockDone, IsPageDone, IsSlabDone}

-- The root of tree 0, into whose slot 3 the window puts a page; and a write of a block.
abbrev changes : List (SlotId × Mapping)
changes = (record { page = root; slot = 3 }, At (pbn 86)) ∷ []

abbrev root_link : Link
root_link = record { page = root; at = pbn 9 }

abbrev written : ℕ → List Call
written n = Write (pbn n) [] true ∷ []

changed : HasChange changes root
changed = (3, omega arith, refl)

unchanged : HasChange [] root → ⊥
unchanged (slot, inside, some) = absurd (cc some)

-- What is needed of an image: that these are the changes of its window, and where its pages stand.
abbrev grown : Image
grown = with_root [] (logged (NewPage (page 0 0 3) (pbn 86)) ∷ [])

needs_changes : AreNewest grown.window [] → ⊥
needs_changes newest = let none = newest root 3 (omega arith) in absurd (cc none)

page_needs_changes : HasPage [] root_link grown → ⊥
page_needs_changes needs = needs_changes needs.0

page_needs_place : HasPage [] (record { page = root; at = pbn 10 }) (with_root [] []) → ⊥
page_needs_place needs = let at = ap place needs.1 in omega (arith, at)
  where
    place : Option Pbn → ℕ
    place None = 0
    place (Some at) = at.0

page_has : HasPage [] root_link (with_root [] [])
page_has = (λ other slot low. refl, refl)

roots_need_changes : HasRoots small [] grown → ⊥
roots_need_changes needs = needs_changes needs.0

roots_need_sizes : HasRoots (record small { nonce = 2 }) [] (with_root [] []) → ⊥
roots_need_sizes needs = let nonce = ap (λ (g : Geometry). g.nonce) needs.1 in omega (arith, nonce)

roots_have : HasRoots small [] (with_root [] [])
roots_have = (λ other slot low. refl, refl)

links_have_none : HasLinks [] [] (with_root [] [])
links_have_none = (λ other slot low. refl, λ link has. absurd (none_in_nothing link has))

links_need_place : HasLinks [] (record { page = root; at = pbn 10 } ∷ []) (with_root [] []) → ⊥
links_need_place needs = page_needs_place (needs.0, needs.1 _ (is_first _ []))

pages_need_changes : HasPages small [] [] grown → ⊥
pages_need_changes needs = needs_changes needs.0

pages_need_links : HasPages small [] (root_link ∷ []) (with_root [] []) → ⊥
pages_need_links needs = let level = ((needs.2 root_link).0 (is_first root_link [])).0 in omega (arith, level)

contents_need_changes : (pages : List Link) (stored : List ℕ) (sectors : List SectorPoints) → HasContents small [] pages stored sectors grown → ⊥
contents_need_changes pages stored sectors needs = needs_changes needs.newest

contents_need_counts : (changes : List (SlotId × Mapping)) (pages : List Link) (sectors : List SectorPoints) → HasContents small changes pages [] sectors (with_root [] []) → ⊥
contents_need_counts changes pages sectors needs = let size = needs.counts.blocks in omega (arith, size)

counts_need_sizes : (stored : List ℕ) (sectors : List SectorPoints) → HasTheseCounts (record small { nonce = 2 }) stored sectors (with_root [] []) → ⊥
counts_need_sizes stored sectors needs = let nonce = ap (λ (g : Geometry). g.nonce) needs.1 in omega (arith, nonce)

module _ (image : Image) where
  -- A page: it was written, if the window changes it.
  page_done : IsPageDone changes root_link image (written 9)
  page_done change = inl refl

  no_page_done : IsPageDone [] root_link image []
  no_page_done change = absurd (unchanged change)

  page_not_done : IsPageDone changes root_link image [] → ⊥
  page_not_done done = done changed

  other_block_written : IsPageDone changes root_link image (written 10) → ⊥
  other_block_written done = elim (done changed) [ inl same ↦ omega (arith, same) | inr none ↦ none ]

  page_only_read : IsPageDone changes root_link image (Read (pbn 9) [] true ∷ []) → ⊥
  page_only_read done = done changed

  -- The first roots, and links.
  root_done : AreRootsDone small changes 1 image (written 9)
  root_done tree first inside change = let none : tree ≡ 0 = omega (arith, first) in rw none (inl refl)

  root_not_done : AreRootsDone small changes 1 image [] → ⊥
  root_not_done done = done 0 (omega arith) (omega arith) changed

  no_root_done : AreRootsDone small changes 0 image []
  no_root_done tree first inside change = absurd (omega (arith, first))

  link_done : AreLinksDone changes (root_link ∷ []) image (written 9)
  link_done link has change = elim (is_first_or_behind root_link [] link has) [
    | inl is ↦ inl (ap (λ (l : Link). l.at.0) is)
    | inr none ↦ absurd (none_in_nothing link none)
  ]

  link_not_done : AreLinksDone changes (root_link ∷ []) image [] → ⊥
  link_not_done done = done root_link (is_first root_link []) changed

  -- Counters of one sector, which has an update at 9 above its commit point.
  abbrev sectors : List SectorPoints
  sectors = record { commit = record { 0 = 0 }; applied = record { 0 = 9 } } ∷ []

  updated : HasUpdate small 0 0 sectors
  updated = (0, refl, omega arith, λ same. omega (arith, same))

  block_done : IsBlockDone small sectors 0 0 image (written 149)
  block_done update = inl refl

  block_not_done : IsBlockDone small sectors 0 0 image [] → ⊥
  block_not_done done = done updated

  no_block_done : IsBlockDone small (record { commit = record { 0 = 9 }; applied = record { 0 = 9 } } ∷ []) 0 0 image []
  no_block_done (n, own, inside, apart) = let first : n ≡ 0 = omega (arith, inside) in absurd (apart (rw first refl))

  slab_done : IsSlabDone small sectors 0 1 image (written 149)
  slab_done i first update = let none : i ≡ 0 = omega (arith, first) in rw none (inl refl)

  slab_not_done : IsSlabDone small sectors 0 1 image [] → ⊥
  slab_not_done done = done 0 (omega arith) updated

  slabs_done : AreSlabsDone small sectors 0 image []
  slabs_done slab first = absurd (omega (arith, first))

  slabs_not_done : AreSlabsDone small sectors 1 image [] → ⊥
  slabs_not_done done = done 0 (omega arith) 0 (omega arith) updated

  -- Of the image alone: each page that the window changes, and each block of counters with an update above a commit point.
  counters_not_done : (point : ℕ) → 0 < image.geometry.slabs → 0 < sectors_per_slab image.geometry → commit_at image.geometry image.blocks 0 0 < point → IsInSector image 0 0 point
      → AreCountersDone image [] → ⊥
  counters_not_done point slabs sectors above is done = done 0 0 point slabs sectors above is

  no_counters_done : ((slab n point : ℕ) → commit_at image.geometry image.blocks slab n < point → IsInSector image slab n point → ⊥) → AreCountersDone image []
  no_counters_done none slab n point inside below above is = absurd (none slab n point above is)

no_pages_done : ArePagesDone (with_root [] []) []
no_pages_done page at slot mapping there inside put = absurd (cc put)

pages_not_done : ArePagesDone grown [] → ⊥
pages_not_done done = done root (pbn 9) 3 (At (pbn 86)) refl (omega arith) refl

both_not_done : AreBothDone grown [] → ⊥
both_not_done done = pages_not_done done.0
