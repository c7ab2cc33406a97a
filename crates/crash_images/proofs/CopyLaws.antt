-- A copy has the image of its device.
use Rattle.std.proofs.Common.{ℕ, ◌≡◌, ◌<◌, Bool, IsTrue, length, reverse, refl, sym, ◌∙◌, ap, subst, arith, zero-add}
use Rattle.std.proofs.lemmas.List.{length-reverse, reverse-reverse}
use Rattle.disk_model.proofs.LookedLaws.{given_block}
use Rattle.disk_model.specs.Log.{Blocks, block_at}
use Rattle.disk_model.specs.Memory.{Memory, fresh, seen_of}
use Rattle.disk_model.specs.Seen.{Seen}
use Rattle.disk_model.specs.Trust.{Trust}
use Rattle.disk_model.specs.Since.{WereRead}
use Rattle.image_model.specs.Looked.{looked_in}
use Rattle.rebuild.specs.Recoveries.{IsTold}
use Rattle.crash_images.specs.Copies.{IsCopy, KeepsImage}

module _ (trust : Trust) (before now : Seen) (blocks : Blocks) (size : length blocks ≡ before.size) (read : WereRead trust 0 before now (reverse blocks)) where
  module _ (image : Blocks) (is : IsTold trust before image) where
    opening : length before.opening ≡ length blocks
    opening = read.told is.told ∙ sym size

    -- where it is looked, each block is that of the image
    copied_block : (b : ℕ) → b < length blocks → IsTrue (looked_in image b) → block_at blocks b ≡ block_at image b
    copied_block b below here =
        let count = length-reverse blocks in
        let same = opening in
        let start = zero-add b in
        let given = given_block (looked_in image) trust 0 before image is.told is.fair is.one (reverse blocks) read.given (omega (arith, count, same)) b (omega (arith, count, below))
        (subst (λ (n : ℕ). IsTrue (looked_in image n)) (sym start) here) in
        sym (ap (block_at image) (sym start) ∙ given ∙ ap (λ (bs : Blocks). block_at bs b) (reverse-reverse blocks))

  pub fresh_keeps : KeepsImage trust before (seen_of (fresh blocks))
  fresh_keeps image is = record {
    told = refl;
    fair = refl;
    one = record {
      size = is.one.size ∙ opening image is;
      whole = λ b below. is.one.whole b (let same = opening image is in omega (arith, same, below));
      only = λ b below here. (copied_block image is b below here, tt);
    };
  }

pub copy_keeps : (trust : Trust) (before now : Seen) (copy : Memory) → IsCopy trust before now copy → KeepsImage trust before (seen_of copy)
copy_keeps trust before now copy (blocks, fresh_is, size, read) =
    subst (λ (memory : Memory). KeepsImage trust before (seen_of memory)) (sym fresh_is) (fresh_keeps trust before now blocks size read)
