-- Whatever a stop leaves of a device on which an image is made: all calls in their order are accepted, and the superblock in
-- front of its pages is refused.
use Rattle.std.specs.Prelude.{ℕ, zero, suc, ◌≡◌, ◌≤◌, ◌<◌, true, List, [], ◌∷◌, length, replicate, Ok, refl}
use Rattle.std.proofs.Common.{sym, ◌∙◌, ap, subst, arith, inl, inr}
use Rattle.std.proofs.lemmas.List.{append-nil, get_or-replicate, length-replicate}
use Rattle.blk_base.proofs.SectorLaws.{zero_size}
use Rattle.blk_base.specs.Sectors.{sector, zero_block}
use Rattle.blk_base.specs.declared.geometry.Super.{Super}
use Rattle.blk_base.specs.Forms.{pbn}
use Rattle.blk_base.proofs.Example.{root}
use Rattle.disk_model.specs.declared.call.Call.{Call}
use Rattle.disk_model.specs.Images.{IsImage, IsMixOf}
use Rattle.disk_model.specs.Log.{Blocks, block_at, contents}
use Rattle.disk_model.proofs.ImageLaws.{contents-write_other}
use Rattle.disk_model.proofs.OneImageLaws.{one_image-is_image, one_image-opening, one_image-unique}
use Rattle.image_layout.proofs.AgainLaws.{written_again}
use Rattle.image_layout.proofs.SpellingLaws.{super_size}
use Rattle.image_layout.specs.Opened.{super_of_image}
use Rattle.image_layout.specs.Superblock.{super_block}
use Rattle.image_model.proofs.Example.{small, small_is}
use Rattle.image_model.proofs.FaultExample.{zeros_unheaded}
use Rattle.image_model.specs.Empty.{IsEmpty, IsUnused, empty_super}
use Rattle.image_model.specs.Maps.{ArePagesGood}
use Rattle.image_model.specs.Sound.{image_of}
use Rattle.image_format.proofs.FormatLaws.{made_stops}
use Rattle.image_format.proofs.MadeRows.{is_made, made, of_another_nonce, opened_with}
use Rattle.image_format.proofs.StopLaws.{not_an_image}
use Rattle.image_format.specs.Calls.{format_calls, put}
use Rattle.image_format.specs.Formats.{AreStopsRight, IsMade, LeavesEmpty, StopsAreRight}

-- StopsAreRight, LeavesEmpty: all calls were made, of a device with any blocks

module _ (old : Blocks) (whole : (b : ℕ) → b < length old → length (block_at old b) ≡ 4096) (room : 154 ≤ length old) where
  all_are_right : StopsAreRight small (opened_with old) (made old whole room)
  all_are_right = made_stops true small (opened_with old) (made old whole room) small_is (omega arith) refl room refl (record {
    stays = record { opening = refl; size = refl };
    later = record { faults = omega arith; unkept = omega arith };
    logged = λ told. sym (append-nil (format_calls small));
  })

  leaves_empty : LeavesEmpty small (opened_with old) (made old whole room)
  leaves_empty other one =
      let same = one_image-unique old [] old other (one_image-opening old whole) (one_image-is_image old [] other one) in
      subst (λ (blocks : Blocks). IsMade small blocks (made old whole room)) (sym same) (is_made old whole room)

  -- not where an image of another nonce is left
  leaves_another : IsEmpty (record small { nonce = 2 }) old → LeavesEmpty small (opened_with old) (opened_with old) → ⊥
  leaves_another other leaves = of_another_nonce old whole other (leaves old (one_image-opening old whole))

-- AreStopsRight: the superblock is written to a device of zeros, and a stop leaves it without roots

abbrev zeros : Blocks
zeros = replicate 154 zero_block

abbrev early : List Call
early = put 0 (super_block (empty_super small)) ∷ []

abbrev left : Blocks
left = super_block (empty_super small) ∷ replicate 153 zero_block

zero_at : (k : ℕ) → k < 153 → block_at left (suc k) ≡ block_at zeros (suc k)
zero_at k below = get_or-replicate 153 k zero_block zero_block below ∙ sym (get_or-replicate 154 (suc k) zero_block zero_block (omega (arith, below)))

is_left : IsImage zeros early left
is_left = record { size = size; whole = λ b below. whole_at b below; sectors = λ b below. sectors_of b below }
  where
    size : length left ≡ length zeros
    size = let one = length-replicate 153 zero_block in let all = length-replicate 154 zero_block in omega (arith, one, all)

    whole_at : (b : ℕ) → b < length zeros → length (block_at left b) ≡ 4096
    whole_at zero below = super_size (empty_super small)
    whole_at (suc k) below =
        let all = length-replicate 154 zero_block in
        ap length (get_or-replicate 153 k zero_block zero_block (omega (arith, below, all))) ∙ zero_size

    sectors_of : (b : ℕ) → b < length zeros → IsMixOf (contents zeros early b) (block_at left b)
    sectors_of zero below = λ i small_sector. inl refl
    sectors_of (suc k) below =
        let all = length-replicate 154 zero_block in
        subst (λ (options : List (List ℕ)). IsMixOf options (block_at left (suc k)))
        (sym (contents-write_other zeros [] (record { 0 = 0 }) (super_block (empty_super small)) true (suc k) (λ same. omega (arith, same))))
        (λ i small_sector. inl (ap (sector i) (zero_at k (omega (arith, below, all)))))

left_accepted : super_of_image left ≡ Ok (empty_super small)
left_accepted = let rest = length-replicate 153 zero_block in written_again (empty_super small) (length left) small_is (omega arith) (omega arith) (omega arith) (omega (arith, rest))

left_used : IsUnused left → ⊥
left_used unused =
    let head : unused.sound.head ≡ empty_super small = (let accepted = unused.sound.opens.accepted in let here = left_accepted in cc (accepted, here)) in
    let good = subst (λ (h : Super). ArePagesGood (image_of h left unused.sound.window)) head unused.sound.pages in
    zeros_unheaded (good root (pbn 9) refl).headed

superblock_first : AreStopsRight small zeros zeros [] early → ⊥
superblock_first right = elim (right [] early left refl is_left).stands [
  | inl own ↦
      let rest = length-replicate 153 zero_block in
      let none = not_an_image left (omega (arith, rest)) own.head in
      let here = left_accepted in
      absurd (cc (none, here))
  | inr newer ↦ elim newer [
    | inl none ↦ (let here = left_accepted in absurd (cc (none, here)))
    | inr unused ↦ left_used unused
  ]
]
