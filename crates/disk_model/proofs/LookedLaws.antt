-- What follows where nothing is pending in the blocks that are looked at.
use Rattle.std.proofs.Common.{ℕ, ◌≡◌, ◌<◌, ◌++◌, Bool, true, IsTrue, List, [], ◌∷◌, length, refl, sym, ◌∙◌, subst, arith, inl, inr, set, ◌+◌, ◌≤◌, take, drop, reverse, ap}
use Rattle.std.specs.List.{AllByRecursion}
use Rattle.std.proofs.Math.ListN.{get_or-append}
use Rattle.std.proofs.Math.Seq.{take-suc}
use Rattle.std.proofs.lemmas.Bool.{cases_lt}
use Rattle.std.proofs.lemmas.Bool.Decides.{eqb_tells}
use Rattle.std.proofs.lemmas.Grind.{reverse_onto}
use Rattle.std.proofs.lemmas.List.{get_or-append-add, get_or-drop, get_or-set_other, get_or-set_same, length-drop, length-reverse, length-set}
use Rattle.blk_base.specs.Sectors.{sector, zero_block}
use Rattle.blk_base.specs.declared.place.Pbn.{Pbn}
use Rattle.disk_model.specs.declared.call.Call.{Call}
use Rattle.disk_model.specs.declared.call.Call.TheVariants.{Write, Flush}
use Rattle.disk_model.specs.Images.{IsMixOf, IsImage, HasOneImage}
use Rattle.disk_model.specs.Log.{Blocks, block_at, settled, contents, Misses}
use Rattle.disk_model.specs.OneImages.{IsImageIn, HasOneImageIn, AreAlikeIn}
use Rattle.disk_model.specs.Seen.{Seen}
use Rattle.disk_model.specs.Trust.{Trust}
use Rattle.disk_model.specs.Since.{AreGiven, OnlyReads, SinceThen}
use Rattle.disk_model.proofs.ImageLaws.{block_of_image, block_of_mix, kept, settled_are_contents}
use Rattle.disk_model.proofs.OneImageLaws.{contents_from, mix_of_one, settled_from}
use Rattle.disk_model.proofs.SinceLaws.{same_contents}

-- where all are looked at, it is all
pub one_in-every : (opening : Blocks) (log : List Call) (image : Blocks) → HasOneImageIn (λ b. true) opening log image → HasOneImage opening log image
one_in-every opening log image one = record { size = one.size; whole = one.whole; only = λ b below. one.only b below refl }

module _ (looked : ℕ → Bool) where
  -- What is so of all blocks is so of those that are looked at.

  pub image_in-all : (opening : Blocks) (log : List Call) (image : Blocks) → IsImage opening log image → IsImageIn looked opening log image
  image_in-all opening log image is = record { size = is.size; whole = is.whole; sectors = λ b below here. is.sectors b below }

  pub one_in-all : (opening : Blocks) (log : List Call) (image : Blocks) → HasOneImage opening log image → HasOneImageIn looked opening log image
  one_in-all opening log image one = record { size = one.size; whole = one.whole; only = λ b below here. one.only b below }

  -- The device goes on.

  -- A call that writes none of the blocks that are looked at leaves them as they are.
  pub one_in-aside : (opening : Blocks) (log : List Call) (image : Blocks) (call : Call) → ((b : ℕ) → IsTrue (looked b) → Misses call b)
      → HasOneImageIn looked opening log image → HasOneImageIn looked opening (call ∷ log) image
  one_in-aside opening log image call misses one = record {
    size = one.size;
    whole = one.whole;
    only = λ b below here. kept (λ content. content ≡ block_at image b) opening log call b (misses b here) (one.only b below here);
  }

  pub one_in-since : (opening : Blocks) (first now : List Call) (image : Blocks) → SinceThen OnlyReads first now → HasOneImageIn looked opening first image
      → HasOneImageIn looked opening now image
  one_in-since opening first now image (calls, is, reads) one = record {
    size = one.size;
    whole = one.whole;
    only = λ b below here. rw (is, same_contents opening calls first b reads) (one.only b below here);
  }

  -- Once a flush succeeds after calls that settle each block that is looked at, nothing is pending there.
  pub one_in-flush : (opening : Blocks) (log : List Call) (image : Blocks) → length image ≡ length opening
      → ((b : ℕ) → b < length opening → length (block_at image b) ≡ 4096)
      → ((b : ℕ) → b < length opening → IsTrue (looked b) → AllByRecursion (λ content. content ≡ block_at image b) (settled opening log b))
      → HasOneImageIn looked opening (Flush true ∷ log) image
  one_in-flush opening log image size whole settles = record { size = size; whole = whole; only = settles }

  -- One write and a flush where nothing is pending: nothing is pending again.
  pub one_in-write_flush : (opening : Blocks) (log : List Call) (image : Blocks) (at : Pbn) (bytes : List ℕ) → at.0 < length opening → length bytes ≡ 4096
      → HasOneImageIn looked opening log image → HasOneImageIn looked opening (Flush true ∷ Write at bytes true ∷ log) (set image at.0 bytes)
  one_in-write_flush opening log image at bytes here size one =
      let inside : at.0 < length image = subst (λ n. at.0 < n) (sym one.size) here in
      one_in-flush opening (Write at bytes true ∷ log) (set image at.0 bytes) (length-set image at.0 bytes ∙ one.size)
      (λ b below. elim (eqb_tells at.0 b) [
        | inl same ↦ rw (← same.1, get_or-set_same image at.0 bytes zero_block inside) size
        | inr other ↦ rw (get_or-set_other image at.0 b bytes zero_block (λ e. other.1 (sym e))) (one.whole b below)
      ])
      (λ b below seen. elim (eqb_tells at.0 b) [
        | inl same ↦ rw (same.0, ← same.1, get_or-set_same image at.0 bytes zero_block inside) (refl, tt)
        | inr other ↦ rw (other.0, get_or-set_other image at.0 b bytes zero_block (λ e. other.1 (sym e)))
            (settled_are_contents (λ content. content ≡ block_at image b) opening log b (one.only b below seen))
      ])

  -- What a stop leaves.

  -- the same blocks where it is looked
  pub one_in-unique : (opening : Blocks) (log : List Call) (image other : Blocks) → HasOneImageIn looked opening log image → IsImage opening log other
      → AreAlikeIn looked image other
  one_in-unique opening log image other one is = record {
    size = is.size ∙ sym one.size;
    same = λ b below here.
        let inside : b < length opening = subst (λ n. b < n) one.size below in
        block_of_image opening log other b (block_at image b) inside (one.whole b inside) (one.only b inside here) is;
  }

  -- of the blocks that are looked at, the image itself
  pub one_in-is_image : (opening : Blocks) (log : List Call) (image : Blocks) → HasOneImageIn looked opening log image → IsImageIn looked opening log image
  one_in-is_image opening log image one = record {
    size = one.size;
    whole = one.whole;
    sectors = λ b below here i small. mix_of_one opening log (block_at image b) b (one.only b below here) i small;
  }

  -- After later calls it leaves there what it leaves of a device that opened with those blocks.
  pub one_in-later : (opening : Blocks) (log later : List Call) (image other : Blocks) → HasOneImageIn looked opening log image
      → IsImageIn looked opening (later ++ log) other → IsImageIn looked image later other
  one_in-later opening log later image other one is = record {
    size = is.size ∙ sym one.size;
    whole = λ b below. is.whole b (subst (λ n. b < n) one.size below);
    sectors = λ b below here i small.
        let inside : b < length opening = subst (λ n. b < n) one.size below in
        contents_from (λ content. sector i (block_at other b) ≡ sector i content) opening log image b (one.only b inside here) later (is.sectors b inside here i small);
  }

  -- and what a read after them may give is what it may give of that device
  pub one_in-settled : (opening : Blocks) (log later : List Call) (image : Blocks) (b : ℕ) (block : List ℕ) → HasOneImageIn looked opening log image → b < length opening
      → IsTrue (looked b) → IsMixOf (settled opening (later ++ log) b) block → IsMixOf (settled image later b) block
  one_in-settled opening log later image b block one below here mix i small =
      settled_from (λ content. sector i block ≡ sector i content) opening log image b (one.only b below here) later (mix i small)

  -- A read that an honest device gave is the block of the image.
  pub one_in-read : (opening : Blocks) (log : List Call) (image : Blocks) (at : ℕ) (block : List ℕ) → at < length opening → IsTrue (looked at) → length block ≡ 4096
      → IsMixOf (settled opening log at) block → HasOneImageIn looked opening log image → block ≡ block_at image at
  one_in-read opening log image at block below here whole mix one =
      block_of_mix (settled opening log at) (block_at image at) block (one.whole at below) whole mix (settled_are_contents _ opening log at (one.only at below here))

  -- Blocks that an honest device gave one after the other, from a place on, are those of the image.
  module _ (trust : Trust) (from : ℕ) (before : Seen) (image : Blocks) (told : IsTrue trust.tells) (fair : IsTrue trust.honest) (one : HasOneImageIn looked before.opening before.log image) where
    pub given_block : (blocks : List (List ℕ)) → AreGiven trust from before blocks → from + length blocks ≤ length before.opening
        → (i : ℕ) → i < length blocks → IsTrue (looked (from + i)) → block_at image (from + i) ≡ block_at (reverse blocks) i
    given_block [] given room i below here = absurd (omega (arith, below))
    given_block (bytes ∷ older) (whole, mix, given) room i below here =
        let n = length older in
        let size = length-reverse older in
        let appended = reverse_onto older bytes [] in
        elim (cases_lt i n) [
          | inl earlier ↦
              given_block older given (omega (arith, room)) i earlier here
              ∙ sym (ap (λ (blocks : Blocks). block_at blocks i) appended ∙ get_or-append (reverse older) (bytes ∷ []) zero_block i (omega (arith, earlier, size)))
          | inr most ↦
              let last_is : i ≡ n = omega (arith, below, most) in
              let inside : from + n < length before.opening = omega (arith, room) in
              let last : block_at (reverse (bytes ∷ older)) n ≡ bytes =
              let place : n ≡ length (reverse older) + 0 = omega (arith, size) in
              ap (λ (blocks : Blocks). block_at blocks n) appended ∙ ap (λ (k : ℕ). block_at (reverse older ++ (bytes ∷ [])) k) place
              ∙ get_or-append-add (reverse older) (bytes ∷ []) 0 zero_block in
              let seen = subst (λ (k : ℕ). IsTrue (looked (from + k))) last_is here in
              ap (λ (k : ℕ). block_at image (from + k)) last_is
              ∙ sym (one_in-read before.opening before.log image (from + n) bytes inside seen whole (mix told fair) one)
              ∙ sym (ap (block_at (reverse (bytes ∷ older))) last_is ∙ last)
        ]

    pub given_blocks : (blocks : List (List ℕ)) → AreGiven trust from before blocks → from + length blocks ≤ length before.opening
        → ((b : ℕ) → b < from + length blocks → IsTrue (looked b)) → reverse blocks ≡ take (length blocks) (drop from image)
    given_blocks [] given room looks = refl
    given_blocks (bytes ∷ older) (whole, mix, given) room looks =
        let n = length older in
        let size = one.size in
        let below : from + n < length before.opening = omega (arith, room) in
        let here : bytes ≡ block_at image (from + n) =
        one_in-read before.opening before.log image (from + n) bytes below (looks (from + n) (omega arith)) whole (mix told fair) one in
        let before_it : reverse older ≡ take n (drop from image) = given_blocks older given (omega (arith, room)) (λ b less. looks b (omega (arith, less))) in
        let left = length-drop from image in
        reverse_onto older bytes [] ∙ ap (λ (front : Blocks). front ++ (bytes ∷ [])) before_it
        ∙ ap (λ (block : List ℕ). take n (drop from image) ++ (block ∷ [])) (here ∙ sym (get_or-drop from image n zero_block))
        ∙ sym (take-suc (drop from image) n zero_block (omega (arith, below, size, left)))
