-- What the parts of recovery have done together.
use Rattle.std.proofs.Common.{ℕ, ◌≡◌, ◌+◌, ◌/◌, ◌≤◌, List, Some, refl, sym, ◌∙◌, ap, subst, inl, inr, arith}
use Rattle.std.proofs.lemmas.Bool.{cases_lt}
use Rattle.blk_base.specs.Regions.{Root, block_of}
use Rattle.blk_base.specs.declared.place.Mapping.{Mapping}
use Rattle.blk_base.specs.declared.place.PageId.{PageId}
use Rattle.blk_base.specs.declared.place.Pbn.{Pbn}
use Rattle.blk_base.specs.declared.sizes.TheConstants.{TREES}
use Rattle.disk_model.specs.declared.call.Call.{Call}
use Rattle.image_model.proofs.MapLaws.{page_in_range}
use Rattle.image_model.specs.Maps.{Image, page_at}
use Rattle.recovery_blocks.specs.Patches.{HasChange}
use Rattle.recovery_laws.proofs.CountsKept.{sectors_inside}
use Rattle.disk_model.specs.Log.{IsWritten}
use Rattle.replay_counts.specs.Recovered.{HasCounts}
use Rattle.replay_counts.specs.declared.forms.SectorPoints.{SectorPoints}
use Rattle.replay_map.proofs.TreeLaws.{root_linked, under_root}
use Rattle.replay_map.proofs.UnderLaws.{same_under}
use Rattle.replay_map.specs.Changes.{AreNewest, changed}
use Rattle.replay_map.specs.Replayed.{AreAllLinks}
use Rattle.blk_base.specs.Pages.{root_page}
use Rattle.replay_map.specs.declared.changes.SlotId.{SlotId}
use Rattle.replay_map.specs.declared.links.Link.{Link}
use Rattle.rebuild.specs.Done.{AreCountersDone, AreLinksDone, ArePagesDone, AreRootsDone, AreSlabsDone}
use Rattle.plain_laws.proofs.OptionLaws.{some_is}

module _ (image : Image) (changes : List (SlotId × Mapping)) (links : List Link) (newest : AreNewest image.window changes) (all : AreAllLinks image links)
    (calls : List Call) (roots : AreRootsDone image.geometry changes TREES image calls) (done : AreLinksDone changes links image calls) (low : image.geometry.height ≤ 3) where
  page_done : (page : PageId) (at : Pbn) → page_at image page ≡ Some at → HasChange changes page → IsWritten calls at.0
  page_done page at there has =
      let range = page_in_range image page at there in
      elim (cases_lt (page.level + 1) image.geometry.height) [
        | inl below ↦ done (record { page = page; at = at }) ((all (record { page = page; at = at })).1 (below, there)) has
        | inr high ↦
            let level = range.1 in
            let some : 1 ≤ image.geometry.height = omega (arith, level) in
            let under = under_root image some page at there in
            let deep = under.2 in
            let none : under.0 ≡ 0 = omega (arith, high, level, deep) in
            let one = same_under (root_page image.geometry page.tree) page under none in
            let root : Link = record { page = root_page image.geometry page.tree; at = record { 0 = block_of image.geometry (Root page.tree) } } in
            let linked = root_linked image some page.tree root range.0 (refl, refl) in
            let same : Some at ≡ Some root.at = sym there ∙ ap (page_at image) one ∙ linked in
            let block : root.at.0 ≡ at.0 = let both : at ≡ root.at = cc same in ap (λ (b : Pbn). b.0) (sym both) in
            subst (IsWritten calls) block (roots page.tree range.0 range.0 (subst (HasChange changes) one has))
      ]

  pub pages_done : ArePagesDone image calls
  pages_done page at slot mapping there small put =
      let range = page_in_range image page at there in
      let level = range.1 in
      let same = newest page slot (omega (arith, level, low)) in
      page_done page at there (slot, small, some_is (changed changes page slot) mapping (same ∙ put))

pub counters_done : (image : Image) (counts : List ℕ) (sectors : List SectorPoints) (calls : List Call) → HasCounts image counts sectors
    → AreSlabsDone image.geometry sectors image.geometry.slabs image calls → AreCountersDone image calls
counters_done image counts sectors calls has done slab n point is below above in_sector =
    let within = sectors_inside image.geometry n below in
    let points = has.points slab n is below in
    done slab is (n / 8) (omega (arith, within)) (
      n,
      refl,
      below,
      λ same.
          let most = points.applied.most point above in_sector in
          let commit = points.commit in
          omega (arith, same, most, commit, above),
    )
