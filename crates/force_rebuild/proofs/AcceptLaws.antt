-- What can be rebuilt isn't refused.
use Rattle.std.proofs.Common.{◌≡◌, ◌⊎◌, ◌+◌, ◌<◌, ◌^◌, Bool, List, Ok, refl, sym, ◌∙◌, ap, ap₂, subst, inl, inr, arith}
use Rattle.blk_base.specs.declared.geometry.Super.{Super as Superblock}
use Rattle.blk_base.specs.declared.journal_entry.CommittedEntry.{CommittedEntry}
use Rattle.blk_base.specs.declared.place.Pbn.{Pbn}
use Rattle.disk_model.specs.Log.{Blocks}
use Rattle.disk_model.specs.Seen.{Seen}
use Rattle.disk_model.specs.Trust.{Trust}
use Rattle.image_layout.specs.Values.{journal_of}
use Rattle.image_model.proofs.CountLaws.{one_number}
use Rattle.image_model.proofs.WindowLaws.{not_both, one_last}
use Rattle.image_model.specs.Counts.{HasMappings, block_of_data}
use Rattle.image_model.specs.Faults.{IsPageFault, IsShareFault}
use Rattle.image_model.specs.Maps.{Image}
use Rattle.image_model.specs.Sound.{IsSound, image_of}
use Rattle.image_model.specs.Windows.{IsFaulty, IsLast}
use Rattle.image_model.specs.declared.fault.ImageFault.{ImageFault}
use Rattle.image_model.specs.declared.fault.ImageFault.TheVariants.{Super, Window, Page, Counter, SharedPage, Counts, Device, Unclean, Memory}
use Rattle.image_model.proofs.FaultLaws.{no_page_fault}
use Rattle.rebuild.specs.Recoveries.{IsTold}
use Rattle.recovery_laws.proofs.CountsKept.{stored_fits}
use Rattle.force_rebuild.proofs.ForceLaws.{windows_alike}
use Rattle.force_rebuild.specs.Counted.{IsUncountable}
use Rattle.force_rebuild.specs.ForcedRebuild.{HasRebuiltImage, HasWindow, IsForcing, IsRefusal, IsToRebuild, IsUsedUp}
use Rattle.force_rebuild.specs.Rebuildable.{IsRebuildable, rebuildable_image}
use Rattle.force_rebuild.specs.declared.forms.Forced.{Forced}

module _ (blocks : Blocks) (is : IsRebuildable blocks) where
  abbrev here : Image
  here = rebuildable_image blocks is

  image_is : (image : Image) → HasWindow blocks image → image ≡ here
  image_is image has =
      let one = windows_alike blocks is has.head has.last image.window has.accepted has.is_window in
      has.is_image ∙ ap₂ (λ (h : Superblock) (w : List CommittedEntry). image_of h blocks w) (sym one.0) (sym one.2)

  not_used_up : IsUsedUp blocks → ⊥
  not_used_up used =
      let there = used.accepted in
      let own = is.accepted in
      let head : used.head ≡ is.head = cc (there, own) in
      let last : IsLast is.head.geometry is.head.start (journal_of is.head.geometry blocks) used.last =
      subst (λ (h : Superblock). IsLast h.geometry h.start (journal_of h.geometry blocks) used.last) head used.is_last in
      let same = one_last _ _ _ used.last is.last last is.is_window.is_last in
      let left = is.sequences in
      let past = used.past in
      omega (arith, same, left, past)

  pub not_refused : (before now : Seen) (why : ImageFault) → IsRefusal blocks before now why → (why ≡ Device) ⊎ (why ≡ Memory)
  not_refused before now (Super fault) (inl refused) = let own = is.accepted in absurd (cc (own, refused))
  not_refused before now (Super fault) (inr (same, used)) = absurd (not_used_up used)
  not_refused before now (Window sequence) fault =
      let there = fault.accepted in
      let own = is.accepted in
      let head : fault.head ≡ is.head = cc (there, own) in
      absurd (not_both _ _ _ is.last is.window sequence is.is_window
      (subst (λ (h : Superblock). IsFaulty h.geometry h.start (journal_of h.geometry blocks) sequence) head fault.faulty))
  not_refused before now (Page at fault) (image, has, is_fault) =
      let there : IsPageFault here at fault = subst (λ (i : Image). IsPageFault i at fault) (image_is image has) is_fault in
      absurd (no_page_fault here there.page at fault (is.pages there.page at there.there) there.has)
  not_refused before now (SharedPage at) (image, has, pages, is_fault) =
      let there : IsShareFault here at = subst (λ (i : Image). IsShareFault i at) (image_is image has) is_fault in
      absurd (is.unshared at there.address there.page there.mapped)
  not_refused before now (Counts at stored mapped) (image, has, is_fault) =
      let there : IsUncountable here at stored mapped = subst (λ (i : Image). IsUncountable i at stored mapped) (image_is image has) is_fault in
      let was = is.countable there.place there.inside in
      let maps : HasMappings here (block_of_data here.geometry there.place) mapped = subst (λ (b : Pbn). HasMappings here b mapped) (sym there.stands) there.maps in
      let one = one_number here (block_of_data here.geometry there.place) mapped was.0 maps was.1 in
      let most = was.2 in
      let limit = there.limit in
      let above = there.above in
      absurd (omega (arith, one, most, limit, above))
  not_refused before now Device refused = inl refl
  not_refused before now Memory refused = inr refl
  not_refused before now (Counter at point) refused = absurd refused
  not_refused before now Unclean refused = absurd refused

-- a sound image can be rebuilt, where its journal isn't at its end
pub sound_is_rebuildable : (blocks : Blocks) (sound : IsSound blocks) → sound.last + 2 < 2 ^ 54 → IsRebuildable blocks
sound_is_rebuildable blocks sound more = record {
  head = sound.head;
  last = sound.last;
  window = sound.window;
  accepted = sound.opens.accepted;
  sequences = more;
  is_window = sound.opens.is_window;
  pages = sound.pages;
  unshared = sound.unshared;
  countable = λ place inside.
      let count = sound.counts place inside in
      (count.0, count.2, stored_fits (image_of sound.head blocks sound.window) place count.0 count.1);
  timely = sound.timely.sectors;
}

-- what is left
pub left_rebuilt : (trust : Trust) (before now : Seen) (blocks : Blocks) (forced : Forced) → IsTold trust before blocks → IsToRebuild blocks
    → IsForcing trust before now (Ok forced) → HasRebuiltImage trust now
left_rebuilt trust before now blocks forced told to forcing =
    let left = forcing.rebuilt blocks told to in
    let sound = left.2.sound in (
      left.0,
      record { told = told.told; fair = told.fair; one = left.1 },
      sound,
      (sound.head, sound.opens.accepted, ap (λ (h : Superblock). h.clean) left.2.closed),
      left.2.kept.rebuildable,
    )
