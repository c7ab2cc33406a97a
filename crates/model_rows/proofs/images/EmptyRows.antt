-- Empty images: for each clause one that it accepts, and one that breaks this clause alone.
use Rattle.std.proofs.Common.{ℕ, ◌≡◌, List, [], ◌∷◌, length, replicate, Ok, refl, sym, ◌∙◌, subst, arith}
use Rattle.blk_base.specs.Regions.{DataBlock, IndexBlock, JournalSlot, ReferenceBlock, Root, SlabJournalSlot, Superblock}
use Rattle.blk_base.specs.Sectors.{zero_block}
use Rattle.blk_base.specs.declared.layout.DataPlace.{DataPlace}
use Rattle.blk_base.specs.declared.place.Mapping.TheVariants.{At, Unmapped}
use Rattle.blk_base.specs.declared.place.Pbn.{Pbn}
use Rattle.blk_base.specs.Forms.{pbn}
use Rattle.byte_fields.specs.Fields.{number_at}
use Rattle.disk_model.specs.Log.{Blocks}
use Rattle.page_codec.proofs.SpellingLaws.{head_of_page}
use Rattle.page_codec.specs.Grammar.{HasHead}
use Rattle.image_model.specs.Counts.{HasMappings, Stores}
use Rattle.image_model.specs.Empty.{HasNothing, IsEmpty, IsMade, IsUnused, empty_root, empty_super, made_block, root_head}
use Rattle.image_model.specs.Maps.{Image}
use Rattle.image_model.specs.Sound.{IsDataPlace}
use Rattle.image_model.proofs.CountLaws.{one_number, one_stored}
use Rattle.image_model.proofs.EmptyLaws.{has_nothing, is_unused, the_image}
use Rattle.image_model.proofs.Example.{small}
use Rattle.image_model.proofs.FaultExample.{zeros_unheaded}
use Rattle.image_model.proofs.MapExample.{image, remap}
use Rattle.image_model.proofs.WholeExample.{empty_image, empty_is, zero_super}
use Rattle.model_rows.proofs.images.WholeRows.{pages_differ, sound_opens, whole_with}

-- What is written: each root as a page without mappings, and zeros in the other regions but the data.
root_three : root_head small 3 ≡ record { geometry = small; page = record { tree = 3; level = 1; index = 0 }; at = pbn 12 }
root_three = refl

made_root : IsMade (Root 3) × (made_block small (Root 3) ≡ empty_root small 3)
made_root = (tt, refl)

made_journal : IsMade (JournalSlot 2) × (made_block small (JournalSlot 2) ≡ zero_block)
made_journal = (tt, refl)

made_index : IsMade (IndexBlock 2) × (made_block small (IndexBlock 2) ≡ zero_block)
made_index = (tt, refl)

made_counters : IsMade (ReferenceBlock 0 0) × (made_block small (ReferenceBlock 0 0) ≡ zero_block)
made_counters = (tt, refl)

made_slab_journal : IsMade (SlabJournalSlot 0 2) × (made_block small (SlabJournalSlot 0 2) ≡ zero_block)
made_slab_journal = (tt, refl)

no_data_is_made : ¬ IsMade (DataBlock 0 5)
no_data_is_made never = never

no_superblock_is_made : ¬ IsMade Superblock
no_superblock_is_made never = never

-- IsEmpty: the whole image is in WholeRows. accepted: block 0 is zeros
without_superblock : (others : Blocks) → ¬ IsEmpty small (zero_block ∷ others)
without_superblock others is = let none = zero_super (length (zero_block ∷ others)) in let some = is.accepted in cc (none, some)

-- made: the first root is zeros
root_of_zeros : ¬ IsEmpty small (whole_with 8 zero_block)
root_of_zeros is =
    let same : empty_root small 0 ≡ zero_block = sym (is.made (Root 0) (omega arith) tt) ∙ pages_differ in
    zeros_unheaded (subst (λ (bytes : List ℕ). HasHead (root_head small 0) bytes) same (head_of_page (root_head small 0) (replicate 812 Unmapped)))

-- HasNothing
nothing_is : HasNothing (the_image small empty_image)
nothing_is = has_nothing small empty_image empty_is

-- unmapped
one_mapped : ¬ HasNothing (image (remap 5 (At (pbn 85)) ∷ []))
unfolding number_at
one_mapped has = let no' : At (pbn 85) ≡ Unmapped = has.unmapped 5 in cc

-- stored, mapped
one_is_stored : (image : Image) (place : DataPlace) → IsDataPlace image.geometry place → Stores image place (Ok 1) → ¬ HasNothing image
one_is_stored image place inside stores has = let stored = one_stored image place (Ok 1) (Ok 0) stores (has.stored place inside) in let same : ◌≡◌ {A = ℕ} 1 0 = cc stored in omega (arith, same)

one_is_mapped : (image : Image) (block : Pbn) → HasMappings image block 1 → ¬ HasNothing image
one_is_mapped image block maps has = let no' = one_number image block 1 0 maps (has.mapped block) in omega (arith, no')

-- IsUnused
unused_is : IsUnused empty_image
unused_is = is_unused small empty_image empty_is

-- sound, opened, nothing
unsound : (others : Blocks) → ¬ IsUnused (zero_block ∷ others)
unsound others is = sound_opens others is.sound

not_its_image : (others : Blocks) (is : IsUnused (zero_block ∷ others)) → is.opened.head ≡ empty_super small → ⊥
not_its_image others is same = let none = zero_super (length (zero_block ∷ others)) in let some = is.opened.opens.accepted in cc (none, some)

used : (blocks : Blocks) (block : Pbn) (is : IsUnused blocks) → ¬ HasMappings is.image block 1
used blocks block is maps = one_is_mapped is.image block maps is.nothing
