-- What was read of block 0 of an honest device on which nothing is pending but in the index is that of its one image.
use Rattle.std.proofs.Common.{ℕ, ◌≡◌, ◌<◌, Bool, IsTrue, List, [], ◌∷◌, length, Ok, Err, refl, sym, ◌∙◌, ap, ap₂, inl, inr, arith}
use Rattle.blk_base.specs.declared.geometry.Super.{Super}
use Rattle.disk_model.proofs.ImageLaws.{block_of_mix, settled_are_contents}
use Rattle.disk_model.specs.Log.{Blocks, block_at, settled}
use Rattle.disk_model.specs.Seen.{Seen}
use Rattle.disk_model.specs.Trust.{Trust}
use Rattle.disk_model.specs.Since.{WereRead}
use Rattle.image_layout.specs.Opened.{super_of_image}
use Rattle.image_layout.specs.Superblock.{super_of}
use Rattle.image_layout.specs.declared.fault.SuperFault.{SuperFault}
use Rattle.image_layout.specs.declared.fault.SuperFault.TheVariants.{NotAnImage}
use Rattle.image_model.proofs.LookedLaws.{looked_first}
use Rattle.image_model.specs.Faults.{IsImageFault}
use Rattle.image_model.specs.Looked.{HasOneImageButIndex}
use Rattle.image_model.specs.declared.fault.ImageFault.{ImageFault}
use Rattle.image_model.specs.declared.fault.ImageFault.TheVariants.{Super as SuperFaulty, Window, Page, Counter, SharedPage, Counts, Device, Unclean, Memory}
use Rattle.image_opening.specs.Heads.{HeadFails, IsHeadRead}

first_of_image : (image : Blocks) → 0 < length image → super_of_image image ≡ super_of (block_at image 0) (length image)
first_of_image [] some = absurd (omega (arith, some))
first_of_image (block ∷ image) some = refl

no_blocks : (image : Blocks) → length image ≡ 0 → super_of_image image ≡ Err NotAnImage
no_blocks [] none = refl
no_blocks (block ∷ image) none = absurd (omega (arith, none))

module _ (trust : Trust) (before now : Seen) (image : Blocks) (told : IsTrue trust.tells) (fair : IsTrue trust.honest) (one : HasOneImageButIndex before.opening before.log image) where
  block_shown : (block : List ℕ) → 0 < length before.opening → WereRead trust 0 before now (block ∷ []) → block ≡ block_at image 0
  block_shown block some read =
      block_of_mix (settled before.opening before.log 0) (block_at image 0) block (one.whole 0 some) read.given.0 (read.given.1 told fair)
      (settled_are_contents _ before.opening before.log 0 (one.only 0 some (looked_first image)))

  says_of : (block : List ℕ) → 0 < before.size → WereRead trust 0 before now (block ∷ []) → super_of_image image ≡ super_of block before.size
  says_of block some read =
      let opening = read.told told in
      let size = one.size in
      first_of_image image (omega (arith, opening, size, some))
      ∙ ap₂ super_of (sym (block_shown block (omega (arith, opening, some)) read)) (size ∙ opening)

  pub head_shown : (head : Super) → IsHeadRead trust before now head → super_of_image image ≡ Ok head
  head_shown head is = let room = is.is.room in says_of is.block (omega (arith, room)) is.read ∙ is.is.says

  pub head_fault : (why : ImageFault) → length before.opening ≡ before.size → HeadFails trust before now why → IsImageFault image why
  head_fault (SuperFaulty fault) opening (inl none) =
      let size = one.size in let empty = none.none in
      inl (no_blocks image (omega (arith, size, opening, empty)) ∙ ap (λ (f : SuperFault). Err f) (sym none.fault_is))
  head_fault (SuperFaulty fault) opening (inr refused) = inl (says_of refused.block refused.some refused.read ∙ refused.refused)
  head_fault Device opening fails = tt
  head_fault (Window sequence) opening fails = absurd fails
  head_fault (Page at fault) opening fails = absurd fails
  head_fault (Counter at point) opening fails = absurd fails
  head_fault (SharedPage at) opening fails = absurd fails
  head_fault (Counts at stored mapped) opening fails = absurd fails
  head_fault Unclean opening fails = absurd fails
  head_fault Memory opening fails = absurd fails
