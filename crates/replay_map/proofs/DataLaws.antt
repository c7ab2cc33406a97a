-- What a window puts into slots leads to data blocks alone.
use Rattle.std.proofs.Common.{ℕ, suc, ◌≡◌, ◌+◌, ◌*◌, ◌==◌, ◌&&◌, Bool, true, false, if◌then◌else◌, List, [], ◌∷◌, Option, Some, None, length, reverse, All, refl, sym, ◌∙◌, subst}
use Rattle.std.proofs.lemmas.List.Elements.{All-nil, All-cons, All-append, All-head, All-tail}
use Rattle.std.proofs.lemmas.List.Sorted.{All-permutation, IsPermutation-reverse}
use Rattle.blk_base.specs.declared.geometry.Geometry.{Geometry}
use Rattle.blk_base.specs.declared.geometry.Super.{Super}
use Rattle.blk_base.specs.declared.journal_entry.CommittedEntry.{CommittedEntry}
use Rattle.blk_base.specs.declared.journal_entry.Entry.{Entry}
use Rattle.blk_base.specs.declared.journal_entry.Entry.TheVariants.{Remap, NewPage}
use Rattle.blk_base.specs.declared.place.Mapping.{Mapping}
use Rattle.blk_base.specs.declared.place.Mapping.TheVariants.{At}
use Rattle.blk_base.specs.declared.place.PageId.{PageId}
use Rattle.blk_base.specs.Pages.{above, slot_of, leaf_of, slot_of_address}
use Rattle.disk_model.specs.Log.{Blocks}
use Rattle.image_model.specs.Maps.{or_else, put_by, put_last}
use Rattle.image_model.specs.Pages.{is_page}
use Rattle.image_model.specs.Windows.{AreReplayable, IsOfImage, LeadsToData, entries_from, with_points}
use Rattle.journal_window.specs.States.{WindowState}
use Rattle.journal_window.specs.Windows.{IsWindowOf}
use Rattle.replay_map.specs.Changes.{AreNewest}
use Rattle.replay_map.specs.Reads.{LeadToData}
use Rattle.replay_map.specs.declared.changes.SlotId.{SlotId}

module _ (g : Geometry) where
  abbrev OfImage : CommittedEntry → Type 0
  OfImage committed = IsOfImage g committed.entry

  -- Each entry of a window is of the image.

  of_block : (sequence number : ℕ) (entries : List Entry) → All (IsOfImage g) entries → All OfImage (with_points sequence number entries)
  of_block sequence number [] each = All-nil OfImage
  of_block sequence number (entry ∷ entries) each =
      All-cons OfImage (record { entry = entry; point = record { 0 = sequence * 512 + number * 2 + 0 } }) (with_points sequence (suc number) entries)
      (All-head (IsOfImage g) entry entries each) (of_block sequence (suc number) entries (All-tail (IsOfImage g) entry entries each))

  of_blocks : (journal : Blocks) (last first : ℕ) (blocks : List (List Entry)) → AreReplayable g journal last first blocks → All OfImage (entries_from first blocks)
  of_blocks journal last first [] are = All-nil OfImage
  of_blocks journal last first (entries ∷ older) are =
      let newest = with_points (first + length older) 0 entries in
      All-append OfImage (reverse newest) (entries_from first older)
      (All-permutation OfImage newest (reverse newest) (IsPermutation-reverse newest) (of_block (first + length older) 0 entries are.0.each))
      (of_blocks journal last first older are.1)

  -- What such entries put into slots.

  if_put : (b : Bool) (own put : Mapping) → LeadsToData g own → (if b then Some own else None) ≡ Some put → LeadsToData g put
  if_put true own put leads is = let same : own ≡ put = cc is in subst (LeadsToData g) same leads
  if_put false own put leads is = absurd (cc is)

  entry_leads : (entry : Entry) (page : PageId) (slot : ℕ) (put : Mapping) → IsOfImage g entry → put_by entry page slot ≡ Some put → LeadsToData g put
  entry_leads (Remap at old new) page slot put is puts = if_put (is_page page (leaf_of at.0) && (slot == slot_of_address at.0)) new put is.2 puts
  entry_leads (NewPage below at) page slot put is puts = if_put (is_page page (above below) && (slot == slot_of below)) (At at) put is.1 puts

  pub last_leads : (window : List CommittedEntry) (page : PageId) (slot : ℕ) (put : Mapping) → All OfImage window → put_last window page slot ≡ Some put → LeadsToData g put
  last_leads [] page slot put each is = absurd (cc is)
  last_leads (committed ∷ older) page slot put each is =
      told (put_by committed.entry page slot) refl is (λ before. last_leads older page slot put (All-tail OfImage committed older each) before)
    where
      told : (o : Option Mapping) → put_by committed.entry page slot ≡ o → or_else o (put_last older page slot) ≡ Some put
          → (put_last older page slot ≡ Some put → LeadsToData g put) → LeadsToData g put
      told (Some own) here is before = entry_leads committed.entry page slot put (All-head OfImage committed older each) (here ∙ is)
      told None here is before = before is

-- the changes of a window lead to data
pub window_leads : (head : Super) (journal : Blocks) (window : WindowState) (changes : List (SlotId × Mapping)) → IsWindowOf head journal window → AreNewest window.entries changes
    → LeadToData head.geometry changes
window_leads head journal window changes is newest page slot mapping low put =
    let of_image = of_blocks head.geometry journal window.last is.is_window.first is.is_window.blocks is.is_window.replayable in
    last_leads head.geometry window.entries page slot mapping
    (subst (λ (entries : List CommittedEntry). All (λ (committed : CommittedEntry). IsOfImage head.geometry committed.entry) entries) (sym is.is_window.entries) of_image)
    (sym (newest page slot low) ∙ put)
