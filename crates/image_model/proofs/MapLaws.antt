-- What a slot says where a page can hold it.
use Rattle.std.proofs.Common.{ℕ, ◌≡◌, ◌+◌, ◌-◌, ◌*◌, ◌%◌, ◌<◌, ◌&&◌, nat_lt, Bool, true, false, if◌then◌else◌, Option, Some, None, List, refl, sym, ◌∙◌, ap, ap₂, inl, inr, arith}
use Rattle.std.proofs.lemmas.Bool.{ltb-true}
use Rattle.std.proofs.lemmas.Bool.Decides.{eqb_tells}
use Rattle.blk_base.specs.declared.place.Mapping.{Mapping}
use Rattle.blk_base.specs.declared.place.Mapping.TheVariants.{Unmapped, Zero, At}
use Rattle.blk_base.specs.declared.place.PageId.{PageId}
use Rattle.blk_base.specs.declared.place.Pbn.{Pbn}
use Rattle.blk_base.specs.declared.sizes.TheConstants.{TREES}
use Rattle.byte_fields.specs.Fields.{number_at}
use Rattle.byte_fields.specs.Mappings as form
use Rattle.byte_fields.proofs.MappingLaws.{state_at, target_at}
use Rattle.page_codec.specs.Grammar.{IsSlot}
use Rattle.page_codec.specs.declared.forms.PageHead.{PageHead}
use Rattle.page_codec.proofs.ReadLaws.{page_holds}
use Rattle.image_model.specs.Maps.{Image, linked_at, mapping_in, mapping_with, page_at}

with_its_fields : (m : Mapping) → form.HoldsMapping m → mapping_with (form.state_of m % 16) (form.target_of m) ≡ m
with_its_fields Unmapped held = refl
with_its_fields Zero held = refl
with_its_fields (At block) held = elim (eqb_tells block.0 0) [
  | inl same ↦ let none = same.1 in let some = held.0 in absurd (omega (arith, none, some))
  | inr other ↦ rw other.0 refl
]

-- the mapping that a slot of a page has is the one that the slot says
pub slot_says_its_mapping : (head : PageHead) (block : List ℕ) (slot : ℕ) (m : Mapping) → IsSlot head block slot m → mapping_in block slot ≡ m
slot_says_its_mapping head block slot m is =
    let held = page_holds head m is.held in
    let place : 36 + 5 * slot + 1 ≡ 37 + 5 * slot = omega arith in
    ap₂ mapping_with (ap (λ (n : ℕ). n % 16) (state_at (36 + 5 * slot) block m is.spelled))
    (ap (λ (n : ℕ). number_at 4 n block) (sym place) ∙ target_at (36 + 5 * slot) block m held is.spelled)
    ∙ with_its_fields m held

pub guarded : (b c : Bool) (o : Option Pbn) (at : Pbn) → (if b && c then o else None) ≡ Some at → (b ≡ true) × (c ≡ true) × (o ≡ Some at)
guarded true true o at is = (refl, refl, is)
guarded true false o at is = absurd (cc is)
guarded false c o at is = absurd (cc is)

-- a page that stands somewhere is of a tree and a level of the image
pub page_in_range : (image : Image) (page : PageId) (at : Pbn) → page_at image page ≡ Some at → (page.tree < TREES) × (page.level < image.geometry.height)
page_in_range image page at is =
    let parts = guarded (nat_lt page.tree TREES) (nat_lt page.level image.geometry.height) (linked_at image (image.geometry.height - 1 - page.level) page) at is in
    (ltb-true page.tree TREES parts.0, ltb-true page.level image.geometry.height parts.1)
