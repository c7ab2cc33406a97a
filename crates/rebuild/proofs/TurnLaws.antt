-- One more page, one more block of counters, one more slab.
use Rattle.std.proofs.Common.{ℕ, ◌≡◌, ◌⊎◌, ◌+◌, ◌<◌, ◌≤◌, ◌^◌, IsTrue, All, List, [], ◌∷◌, ◌++◌, Contains, Result, Ok, Some, get_or, length, take, sym, ◌∙◌, ap, subst, inl, inr, arith}
use Rattle.std.proofs.lemmas.Bool.{cases_lt}
use Rattle.std.proofs.lemmas.List.{take_more}
use Rattle.std.proofs.lemmas.List.Elements.{Contains-get_or}
use Rattle.blk_base.proofs.RegionLaws.{data_block_inside}
use Rattle.blk_base.specs.Limits.{IsGeometry}
use Rattle.blk_base.specs.Regions.{ReferenceBlock, Root, IsPlace, block_of, needed_blocks, references_of}
use Rattle.blk_base.specs.declared.geometry.Geometry.{Geometry}
use Rattle.blk_base.specs.declared.place.Mapping.{Mapping}
use Rattle.blk_base.specs.declared.place.Pbn.{Pbn}
use Rattle.blk_base.specs.declared.sizes.TheConstants.{PAGE_SLOTS, TREES}
use Rattle.disk_model.specs.declared.call.Call.{Call}
use Rattle.disk_model.specs.declared.call.Failed.{Failed}
use Rattle.disk_model.specs.Log.{Blocks, IsWritten}
use Rattle.disk_model.specs.Seen.{Seen}
use Rattle.disk_model.specs.Trust.{Trust}
use Rattle.disk_model.specs.Since.{WereRead}
use Rattle.image_format.proofs.StopLaws.{written_front}
use Rattle.image_format.specs.Calls.{put}
use Rattle.image_format.specs.Runs.{Makes}
use Rattle.image_model.proofs.CountLaws.{is_behind, is_first, is_first_or_behind, none_in_nothing}
use Rattle.image_model.specs.Maps.{Image, page_at}
use Rattle.recovery_blocks.specs.Counters.{AreCountsPut, HasUpdate}
use Rattle.recovery_blocks.specs.Patches.{HasChange, IsPatched}
use Rattle.replay_counts.specs.declared.forms.SectorPoints.{SectorPoints}
use Rattle.replay_map.proofs.TreeLaws.{root_linked}
use Rattle.replay_map.specs.Forms.{HasForm}
use Rattle.replay_map.specs.Walks.{IsRoot}
use Rattle.blk_base.specs.Pages.{root_page}
use Rattle.replay_map.specs.declared.changes.SlotId.{SlotId}
use Rattle.replay_map.specs.declared.found.SlotChange.{SlotChange}
use Rattle.replay_map.specs.declared.links.Link.{Link}
use Rattle.rebuild.proofs.ActLaws.{acts_as, acts_yet, still_written, then_acts, written}
use Rattle.rebuild.proofs.DoneLaws.{counters_done, pages_done}
use Rattle.rebuild.proofs.PageLaws.{page_put, recovers_pages}
use Rattle.rebuild.proofs.WrittenLaws.{counters_put}
use Rattle.rebuild.specs.Acts.{Acts, page_writing, recovery}
use Rattle.rebuild.specs.Done.{AreBothDone, AreLinksDone, ArePagesDone, AreRootsDone, AreSlabsDone, HasContents, HasLinks, HasPage, HasPages, HasRoots, HasTheseCounts, IsBlockDone, IsPageDone, IsSlabDone}

-- the last one of a list, or one before it
pub contains_last : (links : List Link) (last other : Link) → Contains (links ++ (last ∷ [])) other → Contains links other ⊎ (other ≡ last)
contains_last [] last other is = elim (is_first_or_behind last [] other is) [ inl same ↦ inr (sym same) | inr none ↦ absurd (none_in_nothing other none) ]
contains_last (link ∷ links) last other is = elim (is_first_or_behind link (links ++ (last ∷ [])) other is) [
  | inl same ↦ inl (subst (Contains (link ∷ links)) same (is_first link links))
  | inr behind ↦ elim (contains_last links last other behind) [ inl among ↦ inl (is_behind link links other among) | inr same ↦ inr same ]
]

-- what was written was also among more calls
pub page_list_stays : (image : Image) (more calls : List Call) → ArePagesDone image more → ArePagesDone image (more ++ calls)
page_list_stays image more calls done page at slot mapping there small is = written_front more calls at.0 (done page at slot mapping there small is)

module _ (trust : Trust) where
  -- A page.

  pub page_written : (before middle now : Seen) (changes : List (SlotId × Mapping)) (link : Link) (given bytes : List ℕ) (result : Result (Unit {0}) Failed) → link.page.level < 2 ^ 8
      → WereRead trust link.at.0 before middle (given ∷ []) → IsPatched changes link.page PAGE_SLOTS given bytes → Makes trust.tells middle now (put link.at.0 bytes ∷ []) result
      → Acts trust.tells (page_writing trust.honest) before now (HasPage changes link) (IsPageDone changes link) result
  page_written before middle now changes link given bytes result low read patched makes =
      acts_as trust.tells (page_writing trust.honest) before now (HasPage changes link) (HasPage changes link) (λ image calls. IsWritten calls link.at.0) (IsPageDone changes link) result
      (written trust (page_writing trust.honest) before middle now link.at given bytes (HasPage changes link) result read makes
      (λ told first from calls made has. page_put trust.honest first from.0 from.1 trust.tells before middle calls made link.at given told read link.page changes bytes has.1 low has.0 patched))
      (λ image has. has) (λ image calls has is. λ change. is)

  pub page_unchanged : (seen : Seen) (changes : List (SlotId × Mapping)) (link : Link) → (HasChange changes link.page → ⊥)
      → Acts trust.tells (page_writing trust.honest) seen seen (HasPage changes link) (IsPageDone changes link) (Ok tt)
  page_unchanged seen changes link none =
      acts_yet trust.tells (page_writing trust.honest) seen (HasPage changes link) (IsPageDone changes link) (λ told first from calls made has. λ change. absurd (none change))

  -- The roots.

  root_stands : (g : Geometry) (image : Image) (tree : ℕ) (link : Link) → image.geometry ≡ g → IsGeometry g → tree < TREES → IsRoot g tree link → page_at image link.page ≡ Some link.at
  root_stands g image tree link same sizes inside root =
      let high = sizes.height in
      let some : 1 ≤ image.geometry.height = subst (λ (h : Geometry). 1 ≤ h.height) (sym same) (omega (arith, high)) in
      root_linked image some tree link inside (subst (λ (h : Geometry). IsRoot h tree link) (sym same) root)

  pub no_roots : (seen : Seen) (g : Geometry) (changes : List (SlotId × Mapping)) → Acts trust.tells (page_writing trust.honest) seen seen (HasRoots g changes) (AreRootsDone g changes 0) (Ok tt)
  no_roots seen g changes =
      acts_yet trust.tells (page_writing trust.honest) seen (HasRoots g changes) (AreRootsDone g changes 0) (λ told first from calls made has. λ tree none inside change. absurd (omega (arith, none)))

  pub one_root_more : (before middle now : Seen) (g : Geometry) (changes : List (SlotId × Mapping)) (tree : ℕ) (link : Link) (result : Result (Unit {0}) Failed) → IsGeometry g → tree < TREES
      → IsRoot g tree link → Acts trust.tells (page_writing trust.honest) before middle (HasRoots g changes) (AreRootsDone g changes tree) (Ok tt) → Acts trust.tells (page_writing trust.honest) middle now (HasPage changes link) (IsPageDone changes link) result
      → Acts trust.tells (page_writing trust.honest) before now (HasRoots g changes) (AreRootsDone g changes (tree + 1)) result
  one_root_more before middle now g changes tree link result sizes inside root old new =
      then_acts trust.tells (page_writing trust.honest) before middle now (HasRoots g changes) (AreRootsDone g changes tree) (IsPageDone changes link) (AreRootsDone g changes (tree + 1)) result old
      (acts_as trust.tells (page_writing trust.honest) middle now (HasPage changes link) (HasRoots g changes) (IsPageDone changes link) (IsPageDone changes link) result new
      (λ image has. (has.0, root_stands g image tree link has.1 sizes inside root)) (λ image calls has is. is))
      (λ image more calls has done one. λ other below small change. elim (cases_lt other tree) [
        | inl less ↦ still_written more calls (block_of g (Root other)) (done other less small change)
        | inr most ↦
            let same : other ≡ tree = omega (arith, below, most) in
            let page : root_page g other ≡ link.page = ap (root_page g) same ∙ sym root.0 in
            let block : link.at.0 ≡ block_of g (Root other) = root.1 ∙ ap (λ (t : ℕ). block_of g (Root t)) (sym same) in
            subst (IsWritten (more ++ calls)) block (one (subst (HasChange changes) page change))
      ])

  -- The pages of links.

  pub no_links : (seen : Seen) (changes : List (SlotId × Mapping)) (links : List Link) → Acts trust.tells (page_writing trust.honest) seen seen (HasLinks changes links) (AreLinksDone changes []) (Ok tt)
  no_links seen changes links =
      acts_yet trust.tells (page_writing trust.honest) seen (HasLinks changes links) (AreLinksDone changes []) (λ told first from calls made has. λ link none change. absurd (none_in_nothing link none))

  pub one_link_more : (before middle now : Seen) (changes : List (SlotId × Mapping)) (links : List Link) (n : ℕ) (d : Link) (result : Result (Unit {0}) Failed) → n < length links
      → Acts trust.tells (page_writing trust.honest) before middle (HasLinks changes links) (AreLinksDone changes (take n links)) (Ok tt)
      → Acts trust.tells (page_writing trust.honest) middle now (HasPage changes (get_or links n d)) (IsPageDone changes (get_or links n d)) result
      → Acts trust.tells (page_writing trust.honest) before now (HasLinks changes links) (AreLinksDone changes (take (n + 1) links)) result
  one_link_more before middle now changes links n d result below old new =
      let link = get_or links n d in
      let inside : Contains links link = Contains-get_or links n d below in
      let next : take (n + 1) links ≡ take n links ++ (link ∷ []) = take_more links n d below in
      then_acts trust.tells (page_writing trust.honest) before middle now (HasLinks changes links) (AreLinksDone changes (take n links)) (IsPageDone changes link) (AreLinksDone changes (take (n + 1) links)) result old
      (acts_as trust.tells (page_writing trust.honest) middle now (HasPage changes link) (HasLinks changes links) (IsPageDone changes link) (IsPageDone changes link) result new
      (λ image has. (has.0, has.1 link inside)) (λ image calls has is. is))
      (λ image more calls has done one. λ other among change. elim (contains_last (take n links) link other (subst (λ (xs : List Link). Contains xs other) next among)) [
        | inl earlier ↦ still_written more calls other.at.0 (done other earlier change)
        | inr same ↦ subst (λ (l : Link). IsWritten (more ++ calls) l.at.0) (sym same) (one (subst (λ (l : Link). HasChange changes l.page) same change))
      ])

  pub both_pages : (before middle now : Seen) (g : Geometry) (changes : List (SlotId × Mapping)) (links : List Link) (result : Result (Unit {0}) Failed) → IsGeometry g
      → Acts trust.tells (page_writing trust.honest) before middle (HasRoots g changes) (AreRootsDone g changes TREES) (Ok tt) → Acts trust.tells (page_writing trust.honest) middle now (HasLinks changes links) (AreLinksDone changes links) result
      → Acts trust.tells (page_writing trust.honest) before now (HasPages g changes links) ArePagesDone result
  both_pages before middle now g changes links result sizes old new =
      then_acts trust.tells (page_writing trust.honest) before middle now (HasPages g changes links) (AreRootsDone g changes TREES) (AreLinksDone changes links) ArePagesDone result
      (acts_as trust.tells (page_writing trust.honest) before middle (HasRoots g changes) (HasPages g changes links) (AreRootsDone g changes TREES) (AreRootsDone g changes TREES) (Ok tt) old
      (λ image has. (has.0, has.1)) (λ image calls has is. is))
      (acts_as trust.tells (page_writing trust.honest) middle now (HasLinks changes links) (HasPages g changes links) (AreLinksDone changes links) (AreLinksDone changes links) result new
      (λ image has. (has.0, λ link among. ((has.2 link).0 among).1)) (λ image calls has is. is))
      (λ image more calls has roots done.
      let same = has.1 in
      let high = sizes.height in
      pages_done image changes links has.0 has.2 (more ++ calls)
      (subst (λ (h : Geometry). AreRootsDone h changes TREES image (more ++ calls)) (sym same)
      (λ tree below inside change. still_written more calls (block_of g (Root tree)) (roots tree below inside change)))
      done (subst (λ (h : Geometry). h.height ≤ 3) (sym same) high.1))

  -- Counters.

  pub block_written : (before middle now : Seen) (g : Geometry) (slab i : ℕ) (at : Pbn) (counts : List ℕ) (sectors : List SectorPoints) (given bytes : List ℕ) (result : Result (Unit {0}) Failed)
      → IsPlace g (ReferenceBlock slab i) → at.0 ≡ block_of g (ReferenceBlock slab i) → at.0 < before.size → (IsTrue trust.tells → length before.opening ≡ before.size)
      → WereRead trust at.0 before middle (given ∷ []) → length bytes ≡ 4096 → AreCountsPut g slab i counts sectors given bytes → Makes trust.tells middle now (put at.0 bytes ∷ []) result
      → Acts trust.tells (recovery trust) before now (HasTheseCounts g counts sectors) (IsBlockDone g sectors slab i) result
  block_written before middle now g slab i at counts sectors given bytes result there stands below opened read size counted makes =
      acts_as trust.tells (recovery trust) before now (HasTheseCounts g counts sectors) (HasTheseCounts g counts sectors) (λ image calls. IsWritten calls at.0) (IsBlockDone g sectors slab i) result
      (written trust (recovery trust) before middle now at given bytes (HasTheseCounts g counts sectors) result read makes
      (λ told first from calls made has.
      let one = from.1.to.one.size in
      let opening = ap (λ (bs : Blocks). length bs) made.stays.opening in
      let all = opened told in
      counters_put trust first from.0 from.1 before middle calls made at given (omega (arith, one, opening, all, below)) read slab i counts sectors bytes
      (subst (λ (h : Geometry). IsPlace h (ReferenceBlock slab i)) (sym has.1) there)
      (subst (λ (h : Geometry). block_of h (ReferenceBlock slab i) ≡ at.0) (sym has.1) (sym stands)) has.0 size
      (subst (λ (h : Geometry). AreCountsPut h slab i counts sectors given bytes) (sym has.1) counted)))
      (λ image has. has) (λ image calls has is. λ update. subst (IsWritten calls) stands is)

  pub block_kept : (seen : Seen) (g : Geometry) (slab i : ℕ) (counts : List ℕ) (sectors : List SectorPoints) → (HasUpdate g slab i sectors → ⊥)
      → Acts trust.tells (recovery trust) seen seen (HasTheseCounts g counts sectors) (IsBlockDone g sectors slab i) (Ok tt)
  block_kept seen g slab i counts sectors none =
      acts_yet trust.tells (recovery trust) seen (HasTheseCounts g counts sectors) (IsBlockDone g sectors slab i) (λ told first from calls made has. λ update. absurd (none update))

  pub no_blocks : (seen : Seen) (g : Geometry) (slab : ℕ) (counts : List ℕ) (sectors : List SectorPoints) → Acts trust.tells (recovery trust) seen seen (HasTheseCounts g counts sectors) (IsSlabDone g sectors slab 0) (Ok tt)
  no_blocks seen g slab counts sectors =
      acts_yet trust.tells (recovery trust) seen (HasTheseCounts g counts sectors) (IsSlabDone g sectors slab 0) (λ told first from calls made has. λ i none update. absurd (omega (arith, none)))

  pub one_block_more : (before middle now : Seen) (g : Geometry) (slab i : ℕ) (counts : List ℕ) (sectors : List SectorPoints) (result : Result (Unit {0}) Failed)
      → Acts trust.tells (recovery trust) before middle (HasTheseCounts g counts sectors) (IsSlabDone g sectors slab i) (Ok tt) → Acts trust.tells (recovery trust) middle now (HasTheseCounts g counts sectors) (IsBlockDone g sectors slab i) result
      → Acts trust.tells (recovery trust) before now (HasTheseCounts g counts sectors) (IsSlabDone g sectors slab (i + 1)) result
  one_block_more before middle now g slab i counts sectors result old new =
      then_acts trust.tells (recovery trust) before middle now (HasTheseCounts g counts sectors) (IsSlabDone g sectors slab i) (IsBlockDone g sectors slab i) (IsSlabDone g sectors slab (i + 1)) result old new
      (λ image more calls has done one. λ other below update. elim (cases_lt other i) [
        | inl less ↦ still_written more calls (block_of g (ReferenceBlock slab other)) (done other less update)
        | inr most ↦
            let same : i ≡ other = omega (arith, below, most) in
            (subst (λ (k : ℕ). IsBlockDone g sectors slab k image (more ++ calls)) same one) update
      ])

  pub no_slabs : (seen : Seen) (g : Geometry) (counts : List ℕ) (sectors : List SectorPoints) → Acts trust.tells (recovery trust) seen seen (HasTheseCounts g counts sectors) (AreSlabsDone g sectors 0) (Ok tt)
  no_slabs seen g counts sectors =
      acts_yet trust.tells (recovery trust) seen (HasTheseCounts g counts sectors) (AreSlabsDone g sectors 0) (λ told first from calls made has. λ slab none. absurd (omega (arith, none)))

  pub one_slab_more : (before middle now : Seen) (g : Geometry) (slab : ℕ) (counts : List ℕ) (sectors : List SectorPoints) (result : Result (Unit {0}) Failed)
      → Acts trust.tells (recovery trust) before middle (HasTheseCounts g counts sectors) (AreSlabsDone g sectors slab) (Ok tt)
      → Acts trust.tells (recovery trust) middle now (HasTheseCounts g counts sectors) (IsSlabDone g sectors slab (references_of g)) result
      → Acts trust.tells (recovery trust) before now (HasTheseCounts g counts sectors) (AreSlabsDone g sectors (slab + 1)) result
  one_slab_more before middle now g slab counts sectors result old new =
      then_acts trust.tells (recovery trust) before middle now (HasTheseCounts g counts sectors) (AreSlabsDone g sectors slab) (IsSlabDone g sectors slab (references_of g)) (AreSlabsDone g sectors (slab + 1)) result old new
      (λ image more calls has done one. λ other below. elim (cases_lt other slab) [
        | inl less ↦ λ i inside update. still_written more calls (block_of g (ReferenceBlock other i)) (done other less i inside update)
        | inr most ↦
            let same : slab ≡ other = omega (arith, below, most) in
            subst (λ (k : ℕ). IsSlabDone g sectors k (references_of g) image (more ++ calls)) same one
      ])

  -- Both.

  page_list_kept : (image : Image) (more calls : List Call) → ArePagesDone image calls → ArePagesDone image (more ++ calls)
  page_list_kept image more calls done page at slot mapping there small is = still_written more calls at.0 (done page at slot mapping there small is)

  pub both_done : (before middle now : Seen) (g : Geometry) (changes : List (SlotId × Mapping)) (links : List Link) (counts : List ℕ) (sectors : List SectorPoints) (result : Result (Unit {0}) Failed)
      → Acts trust.tells (page_writing trust.honest) before middle (HasPages g changes links) ArePagesDone (Ok tt) → Acts trust.tells (recovery trust) middle now (HasTheseCounts g counts sectors) (AreSlabsDone g sectors g.slabs) result
      → Acts trust.tells (recovery trust) before now (HasContents g changes links counts sectors) AreBothDone result
  both_done before middle now g changes links counts sectors result old new =
      then_acts trust.tells (recovery trust) before middle now (HasContents g changes links counts sectors) ArePagesDone (AreSlabsDone g sectors g.slabs) AreBothDone result
      (acts_as trust.tells (recovery trust) before middle (HasPages g changes links) (HasContents g changes links counts sectors) ArePagesDone ArePagesDone (Ok tt)
      (recovers_pages trust before middle (HasPages g changes links) ArePagesDone (Ok tt) old page_list_stays)
      (λ image has. (has.newest, has.sizes, has.links)) (λ image calls has is. is))
      (acts_as trust.tells (recovery trust) middle now (HasTheseCounts g counts sectors) (HasContents g changes links counts sectors) (AreSlabsDone g sectors g.slabs) (AreSlabsDone g sectors g.slabs) result new
      (λ image has. (has.counts, has.sizes)) (λ image calls has is. is))
      (λ image more calls has pages done. (
        page_list_kept image more calls pages,
        counters_done image counts sectors (more ++ calls) has.counts
            (subst (λ (h : Geometry). AreSlabsDone h sectors h.slabs image (more ++ calls)) (sym has.sizes) done),
      ))

-- The links of a map of this form stand on the device.
pub links_inside : (g : Geometry) (links : List Link) (slots : List SlotChange) (size : ℕ) (seen : List Link) → seen ≡ links → needed_blocks g ≤ size → HasForm g links slots → All (λ (link : Link). link.at.0 < size) seen
links_inside g links slots size seen same room form k d below =
    let there = Contains-get_or seen k d below in
    let of = form.each (get_or seen k d) (subst (λ (ls : List Link). Contains ls (get_or seen k d)) same there) in
    let inside = data_block_inside g (get_or seen k d).at.0 of.data_block in
    omega (arith, inside, room)
