-- What a page's slots say in an image.
use Rattle.std.specs.Prelude.{ℕ, ◌≡◌, ◌+◌, ◌<◌, ◌^◌, List, Option, Some, None, IsSome, IsNone, slice_index_or, slice_set, length, Result, Ok, Err, IfErr, OnOk}
use Rattle.std.proofs.Common.{refl, sym, ◌∙◌, ap, subst, inl, inr, arith}
use Rattle.std.proofs.lemmas.Bool.{cases_lt}
use Rattle.std.proofs.lemmas.List.{get_or-set_same, get_or-set_other}
use Rattle.blk_base.specs.declared.geometry.Geometry.{Geometry}
use Rattle.blk_base.specs.declared.place.Mapping.{Mapping}
use Rattle.blk_base.specs.declared.place.Mapping.TheVariants.{Unmapped, Zero, At}
use Rattle.blk_base.specs.declared.sizes.TheConstants.{PAGE_SLOTS}
use Rattle.disk_model.specs.Log.{block_at}
use Rattle.image_model.proofs.MapLaws.{slot_says_its_mapping}
use Rattle.image_model.specs.Faults.{HasFault}
use Rattle.image_model.specs.Maps.{Image, IsReadable, head_of, mapping_in, put_last, says}
use Rattle.page_codec.proofs.ReadLaws.{slots}
use Rattle.page_codec.specs.Grammar.{HasHead, IsPage, IsSlot, IsSlotFault}
use Rattle.page_codec.specs.declared.fault.PageFault.{PageFault}
use Rattle.page_codec.specs.declared.forms.PageHead.{PageHead}
use Rattle.image_model.specs.Windows.{LeadsToData}
use Rattle.replay_map.specs.Reads.{AreLeading, LeadToData}
use Rattle.replay_map.specs.Changes.{changed}
use Rattle.replay_map.specs.Pages.{ArePut, AreSaid, HasSlotFault, IsReadAs, IsRefused, SaysSlot, Stands}
use Rattle.replay_map.specs.declared.changes.SlotId.{SlotId}

-- Slot by slot.

-- one slot more
pub said_more : (head : PageHead) (block : List ℕ) (changes : List (SlotId × Mapping)) (slot : ℕ) (mappings : List Mapping) (mapping : Mapping)
    → slot < length mappings → AreSaid head block changes slot mappings → SaysSlot head block changes slot mapping
    → AreSaid head block changes (slot + 1) (slice_set mappings slot mapping)
said_more head block changes slot mappings mapping inside were here i below = elim (cases_lt i slot) [
  | inl earlier ↦
      subst (λ (m : Mapping). SaysSlot head block changes i m)
      (sym (get_or-set_other mappings slot i mapping Unmapped (λ same. absurd (omega (arith, earlier, same))))) (were i earlier)
  | inr not_earlier ↦
      let same : slot ≡ i = omega (arith, not_earlier, below) in
      subst (λ (n : ℕ). SaysSlot head block changes n (slice_index_or (slice_set mappings slot mapping) n Unmapped)) same
      (subst (λ (m : Mapping). SaysSlot head block changes slot m) (sym (get_or-set_same mappings slot mapping Unmapped inside)) here)
]

-- the least slot that is refused
pub refused_at : (head : PageHead) (block : List ℕ) (changes : List (SlotId × Mapping)) (slot : ℕ) (mappings : List Mapping) (fault : PageFault)
    → slot < PAGE_SLOTS → AreSaid head block changes slot mappings → HasSlotFault head block changes slot fault → IsRefused head block changes fault
refused_at head block changes slot mappings fault inside were here =
    inr (slot, inside, λ i below. (slice_index_or mappings i Unmapped, were i below), here)

-- a slot leads to a data block, or to none
slot_leads : (head : PageHead) (block : List ℕ) (changes : List (SlotId × Mapping)) (slot : ℕ) (mapping : Mapping) → head.page.level < 2 ^ 8 → LeadToData head.geometry changes
    → SaysSlot head block changes slot mapping → LeadsToData head.geometry mapping
slot_leads head block changes slot mapping low lead (inl put) = lead head.page slot mapping low put
slot_leads head block changes slot Unmapped low lead (inr own) = tt
slot_leads head block changes slot Zero low lead (inr own) = tt
slot_leads head block changes slot (At at) low lead (inr own) = own.1.held.0

pub are_leading : (head : PageHead) (block : List ℕ) (changes : List (SlotId × Mapping)) (mappings : List Mapping) → head.page.level < 2 ^ 8
    → AreSaid head block changes PAGE_SLOTS mappings → LeadToData head.geometry changes → AreLeading head.geometry mappings
are_leading head block changes mappings low said lead slot inside = slot_leads head block changes slot (slice_index_or mappings slot Unmapped) low lead (said slot inside)

-- The mappings of a page with the changes put over them.

over : (head : PageHead) (block : List ℕ) (changes : List (SlotId × Mapping)) (own mappings : List Mapping) (slot : ℕ) (put : Option Mapping) → slot < PAGE_SLOTS → IsPage head block own
    → ArePut changes head.page own mappings → changed changes head.page slot ≡ put → SaysSlot head block changes slot (slice_index_or mappings slot Unmapped)
over head block changes own mappings slot (Some mapping) inside page are is = inl (is ∙ ap (λ (m : Mapping). Some m) (sym (are.put slot mapping inside is)))
over head block changes own mappings slot None inside page are is =
    inr (is, subst (λ (m : Mapping). IsSlot head block slot m) (sym (are.others slot inside is)) (slots head block own slot page inside))

pub put_said : (head : PageHead) (block : List ℕ) (changes : List (SlotId × Mapping)) (own mappings : List Mapping) → IsPage head block own → ArePut changes head.page own mappings
    → AreSaid head block changes PAGE_SLOTS mappings
put_said head block changes own mappings page are slot inside = over head block changes own mappings slot (changed changes head.page slot) inside page are refl

-- In an image.

module _ (image : Image) (head : PageHead) (block : List ℕ) (changes : List (SlotId × Mapping)) (low : head.page.level < 2 ^ 8) (stands : Stands image head block changes) where
  same_head : head ≡ head_of image head.page head.at
  same_head = ap (λ (g : Geometry). record { geometry = g; page = head.page; at = head.at }) (sym stands.geometry)

  in_image : (P : PageHead → List ℕ → Type 0) → P head block → P (head_of image head.page head.at) (block_at image.blocks head.at.0)
  in_image P holds = subst (λ (h : PageHead). P h (block_at image.blocks head.at.0)) same_head (subst (λ (b : List ℕ). P head b) (sym stands.there) holds)

  -- a slot that says something can be read
  readable : (slot : ℕ) (mapping : Mapping) → SaysSlot head block changes slot mapping → IsReadable image head.page head.at slot
  readable slot mapping (inl replaced) = inl (subst (λ (o : Option Mapping). IsSome o) (sym (sym (stands.newest head.page slot low) ∙ replaced)) refl)
  readable slot mapping (inr own) = inr (mapping, in_image (λ h b. IsSlot h b slot mapping) own.1)

  said : (slot : ℕ) (mapping : Mapping) → SaysSlot head block changes slot mapping → mapping ≡ says image head.page head.at slot
  said slot mapping (inl replaced) =
      let put : put_last image.window head.page slot ≡ Some mapping = sym (stands.newest head.page slot low) ∙ replaced in rw (says, put) refl
  said slot mapping (inr own) =
      let left : put_last image.window head.page slot ≡ None = sym (stands.newest head.page slot low) ∙ own.0 in
      let stood : mapping_in (block_at image.blocks head.at.0) slot ≡ mapping =
      slot_says_its_mapping (head_of image head.page head.at) (block_at image.blocks head.at.0) slot mapping (in_image (λ h b. IsSlot h b slot mapping) own.1) in
      rw (says, left) (sym stood)

  pub read_as : (mappings : List Mapping) → HasHead head block → AreSaid head block changes PAGE_SLOTS mappings → IsReadAs image head mappings
  read_as mappings headed each = record {
    good = record {
      headed = in_image (λ h b. HasHead h b) headed;
      slots = λ slot inside. readable slot (slice_index_or mappings slot Unmapped) (each slot inside);
    };
    each = λ slot inside. said slot (slice_index_or mappings slot Unmapped) (each slot inside);
  }

  pub has_fault : (fault : PageFault) → IsRefused head block changes fault → HasFault image head.page head.at fault
  has_fault fault (inl other) =
      record {
        slot = 0;
        inside = omega arith;
        before = λ i below. absurd (omega (arith, below));
        own = inl other.0;
        of_slot = subst (λ (f : PageFault). IsSlotFault (head_of image head.page head.at) (block_at image.blocks head.at.0) 0 f) (sym other.0)
            (in_image (λ h b. HasHead h b → ⊥) other.1);
      }
  has_fault fault (inr (slot, inside, before, own)) =
      record {
        slot = slot;
        inside = inside;
        before = λ i below. let here = before i below in readable i here.0 here.1;
        own = inr (subst (λ (o : Option Mapping). IsNone o) (sym (sym (stands.newest head.page slot low) ∙ own.0)) refl);
        of_slot = in_image (λ h b. IsSlotFault h b slot fault) own.1;
      }

-- what follows for a success, or for an error, follows for the result
pub where_ok : {T E P Q : Type 0} (result : Result T E) → OnOk result P → (P → Q) → OnOk result Q
where_ok (Ok x) holds follows = follows holds
where_ok (Err e) holds follows = tt

pub where_err : {T E : Type 0} {P Q : E → Type 0} (result : Result T E) → IfErr result P → ((e : E) → P e → Q e) → IfErr result Q
where_err (Ok x) holds follows = tt
where_err (Err e) holds follows = follows e holds

pub both_ok : {T E : Type 0} (P Q : Type 0) (result : Result T E) → OnOk result P → OnOk result Q → OnOk result (P × Q)
both_ok P Q (Ok x) first second = (first, second)
both_ok P Q (Err e) first second = tt
