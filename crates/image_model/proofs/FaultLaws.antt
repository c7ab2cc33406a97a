-- A sound image has no fault.
use Rattle.std.proofs.Common.{ℕ, ◌≡◌, ◌⊎◌, false, IsNone, IsSome, List, Option, Some, None, Ok, Err, refl, sym, ◌∙◌, ap, ap₂, subst, inl, inr, arith}
use Rattle.blk_base.specs.declared.geometry.Super.{Super}
use Rattle.blk_base.specs.declared.place.Mapping.{Mapping}
use Rattle.blk_base.specs.declared.place.PageId.{PageId}
use Rattle.blk_base.specs.declared.place.Pbn.{Pbn}
use Rattle.disk_model.specs.Log.{Blocks, block_at}
use Rattle.image_layout.specs.Opened.{super_of_image}
use Rattle.image_layout.specs.Values.{journal_of}
use Rattle.image_layout.specs.declared.fault.SuperFault.{SuperFault}
use Rattle.page_codec.specs.declared.fault.PageFault.{PageFault}
use Rattle.page_codec.proofs.ReadLaws.{no_slot_fault}
use Rattle.image_model.specs.declared.fault.ImageFault.{ImageFault}
use Rattle.image_model.specs.declared.fault.ImageFault.TheVariants.{Super as SuperVariant, Window, Page, Counter, SharedPage, Counts, Device, Unclean, Memory}
use Rattle.blk_base.specs.declared.journal_entry.CommittedEntry.{CommittedEntry}
use Rattle.image_model.specs.Counts.{HasMappings, block_of_data}
use Rattle.page_codec.specs.Grammar.{IsSlotFault}
use Rattle.image_model.specs.Faults.{HasFault, IsAtEnd, IsCountFault, IsCountsFault, IsImageFault, IsOpened, IsPageFault, IsShareFault, IsSuperFault, IsWindowFault}
use Rattle.image_model.specs.Maps.{Image, IsGoodPage, head_of, put_last}
use Rattle.image_model.specs.Sound.{IsSound, image_of}
use Rattle.image_model.specs.Windows.{IsFaulty, IsLast, IsWindow}
use Rattle.image_model.proofs.CountLaws.{one_number, one_stored}
use Rattle.image_model.proofs.WindowLaws.{not_both, one_last, one_window}

same_head : (blocks : Blocks) (head other : Super) → super_of_image blocks ≡ Ok head → super_of_image blocks ≡ Ok other → head ≡ other
same_head blocks head other is is' = cc (is, is')

not_refused : (blocks : Blocks) (head : Super) (fault : SuperFault) → super_of_image blocks ≡ Ok head → super_of_image blocks ≡ Err fault → ⊥
not_refused blocks head fault is refused = absurd (cc (is, refused))

pub no_both : (o : Option Mapping) → IsSome o → IsNone o → ⊥
no_both (Some m) some none = absurd (cc none)
no_both None some none = absurd (cc some)

-- a page that can be read has no fault
pub no_page_fault : (image : Image) (page : PageId) (at : Pbn) (fault : PageFault) → IsGoodPage image page at → HasFault image page at fault → ⊥
no_page_fault image page at fault good has = elim (good.slots has.slot has.inside) [
  | inr mapped ↦ no_slot_fault (head_of image page at) (block_at image.blocks at.0) has.slot mapped.0 fault mapped.1 has.of_slot
  | inl some ↦ elim has.own [
    | inr none ↦ no_both (put_last image.window page has.slot) some none
    | inl header ↦ subst (λ (f : PageFault). IsSlotFault (head_of image page at) (block_at image.blocks at.0) has.slot f) header has.of_slot good.headed
  ]
]

module _ (blocks : Blocks) (sound : IsSound blocks) where
  abbrev here : Image
  here = image_of sound.head blocks sound.window

  -- it is opened in one way
  window_here : (head : Super) → super_of_image blocks ≡ Ok head → head ≡ sound.head
  window_here head is = same_head blocks head sound.head is sound.opens.accepted

  opened_is : (image : Image) → IsOpened blocks image → image ≡ here
  opened_is image opened =
      let head : opened.head ≡ sound.head = window_here opened.head opened.opens.accepted in
      let window : IsWindow sound.head.geometry sound.head.start (journal_of sound.head.geometry blocks) opened.last image.window =
      subst (λ (h : Super). IsWindow h.geometry h.start (journal_of h.geometry blocks) opened.last image.window) head opened.opens.is_window in
      let same = (one_window _ _ _ opened.last sound.last image.window sound.window window sound.opens.is_window).1 in
      opened.is_image ∙ ap₂ (λ (h : Super) (w : List CommittedEntry). image_of h blocks w) head same

  not_at_end : IsAtEnd blocks → ⊥
  not_at_end end =
      let head : end.head ≡ sound.head = window_here end.head end.accepted in
      let unclean : sound.head.clean ≡ false = ap (λ (h : Super). h.clean) (sym head) ∙ end.unclean in
      let last : IsLast sound.head.geometry sound.head.start (journal_of sound.head.geometry blocks) end.last =
      subst (λ (h : Super). IsLast h.geometry h.start (journal_of h.geometry blocks) end.last) head end.is_last in
      let same = one_last _ _ _ end.last sound.last last sound.opens.is_window.is_last in
      let left = sound.opens.sequences unclean in
      let past = end.past in
      omega (arith, same, left, past)

  no_super_fault : (fault : SuperFault) → IsSuperFault blocks fault → ⊥
  no_super_fault fault (inl refused) = not_refused blocks sound.head fault sound.opens.accepted refused
  no_super_fault fault (inr end) = not_at_end end.1

  no_window_fault : (sequence : ℕ) → IsWindowFault blocks sequence → ⊥
  no_window_fault sequence has =
      let head : has.head ≡ sound.head = window_here has.head has.accepted in
      not_both _ _ _ sound.last sound.window sequence sound.opens.is_window
      (subst (λ (h : Super). IsFaulty h.geometry h.start (journal_of h.geometry blocks) sequence) head has.faulty)

  -- none of the six that say something of an image
  pub no_fault : (fault : ImageFault) → IsImageFault blocks fault → (fault ≡ Device) ⊎ (fault ≡ Unclean) ⊎ (fault ≡ Memory)
  no_fault (SuperVariant fault) is = absurd (no_super_fault fault is)
  no_fault (Window sequence) is = absurd (no_window_fault sequence is)
  no_fault (Page at fault) (image, opened, has) =
      let same = opened_is image opened in
      let there : IsPageFault here at fault = subst (λ (i : Image). IsPageFault i at fault) same has in
      absurd (no_page_fault here there.page at fault (sound.pages there.page at there.there) there.has)
  no_fault (Counter at point) (image, opened, pages, has) =
      let there : IsCountFault here at point.0 = subst (λ (i : Image). IsCountFault i at point.0) (opened_is image opened) has in
      let stored = sound.stored there.place there.inside in
      let same = one_stored here there.place (Ok stored.0) (Err point.0) stored.1 there.leaves in
      absurd (cc same)
  no_fault (SharedPage at) (image, opened, pages, stored, has) =
      let there : IsShareFault here at = subst (λ (i : Image). IsShareFault i at) (opened_is image opened) has in
      absurd (sound.unshared at there.address there.page there.mapped)
  no_fault (Counts at stored mapped) (image, opened, pages, are_stored, unshared, has) =
      let there : IsCountsFault here at stored mapped = subst (λ (i : Image). IsCountsFault i at stored mapped) (opened_is image opened) has in
      let is_true = sound.counts there.place there.inside in
      let one = one_stored here there.place (Ok stored) (Ok is_true.0) there.stores is_true.1 in
      let count : stored ≡ is_true.0 = cc one in
      let maps : HasMappings here (block_of_data here.geometry there.place) mapped = subst (λ (b : Pbn). HasMappings here b mapped) (sym there.stands) there.maps in
      let other = one_number here (block_of_data here.geometry there.place) mapped is_true.0 maps is_true.2 in
      absurd (there.differ (count ∙ sym other))
  no_fault Device is = inl refl
  no_fault Unclean is = inr (inl refl)
  no_fault Memory is = inr (inr refl)
