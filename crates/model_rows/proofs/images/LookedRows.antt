-- Which blocks are looked at: of the small image the index has blocks 69 to 84.
use Rattle.std.proofs.Common.{ℕ, ◌≡◌, ◌≢◌, ◌<◌, true, false, IsTrue, List, [], ◌∷◌, length, Ok, refl, sym, ◌∙◌, ap, subst}
use Rattle.blk_base.specs.declared.geometry.Geometry.{Geometry}
use Rattle.blk_base.specs.declared.geometry.Super.{Super}
use Rattle.blk_base.specs.Forms.{pbn}
use Rattle.disk_model.proofs.LookedLaws.{one_in-aside}
use Rattle.disk_model.specs.declared.call.Call.TheVariants.{Write}
use Rattle.disk_model.specs.Log.{Blocks, block_at}
use Rattle.image_layout.specs.Opened.{super_of_image}
use Rattle.image_model.proofs.Example.{small}
use Rattle.image_model.proofs.LookedLaws.{looked_by, looked_first}
use Rattle.image_model.specs.Looked.{HasOneImageButIndex, is_looked_at, looked_in}

the_first_is : is_looked_at small 0 ≡ true
the_first_is = refl

the_last_root_is : is_looked_at small 68 ≡ true
the_last_root_is = refl

the_first_of_the_index_is_not : is_looked_at small 69 ≡ false
the_first_of_the_index_is_not = refl

the_last_of_the_index_is_not : is_looked_at small 84 ≡ false
the_last_of_the_index_is_not = refl

the_first_of_the_slab_is : is_looked_at small 85 ≡ true
the_first_of_the_slab_is = refl

-- by the superblock of an image; without one each block is
without_one : looked_in [] 69 ≡ true
without_one = refl

module _ (image : Blocks) (head : Super) (accepted : super_of_image image ≡ Ok head) (sizes : head.geometry ≡ small) where
  by_its_sizes : looked_in image 69 ≡ false
  by_its_sizes = looked_by image head accepted 69 ∙ ap (λ (g : Geometry). is_looked_at g 69) sizes

  no_index : (b : ℕ) → IsTrue (looked_in image b) → 69 ≢ b
  no_index b here same =
      let both : false ≡ true = sym by_its_sizes ∙ subst (λ (n : ℕ). looked_in image n ≡ true) (sym same) here in absurd (cc both)

  -- A write of the index that failed pends; that leaves the one image but the index.
  module _ (opening : Blocks) (one : HasOneImageButIndex opening [] image) (bytes : List ℕ) where
    index_pends : HasOneImageButIndex opening (Write (pbn 69) bytes false ∷ []) image
    index_pends = one_in-aside (looked_in image) opening [] image (Write (pbn 69) bytes false) (λ b here. no_index b here) one

    -- one of the superblock doesn't
    first_pends : 0 < length opening → bytes ≢ block_at image 0 → HasOneImageButIndex opening (Write (pbn 0) bytes false ∷ []) image → ⊥
    first_pends some differs is = differs (is.only 0 some (looked_first image)).0
