-- What follows where nothing is pending.
use Rattle.std.specs.Prelude.{ℕ, suc, ◌≡◌, ◌<◌, Bool, true, false, if◌then◌else◌, ◌==◌, List, [], ◌∷◌, ◌++◌, length, refl}
use Rattle.std.specs.List.{AllByRecursion}
use Rattle.std.proofs.Common.{sym, ◌∙◌, ap, subst, inl, inr, arith, set}
use Rattle.std.proofs.lemmas.Bool.Decides.{eqb_tells}
use Rattle.std.proofs.lemmas.List.{length-set, get_or-set_same, get_or-set_other}
use Rattle.blk_base.specs.Sectors.{sector, zero_block}
use Rattle.blk_base.specs.declared.place.Pbn.{Pbn}
use Rattle.disk_model.specs.declared.call.Call.{Call}
use Rattle.disk_model.specs.declared.call.Call.TheVariants.{Read, Write, Flush}
use Rattle.disk_model.specs.Images.{OneOf, IsMixOf, IsImage, HasOneImage}
use Rattle.disk_model.specs.Log.{Blocks, block_at, settled, contents, Misses}
use Rattle.disk_model.proofs.ContentLaws.{contents_some, one_of_weaker}
use Rattle.disk_model.proofs.ImageLaws.{settled_are_contents, kept, block_of_image}

-- A device with whole blocks and an empty log has the image that it opened with.
pub one_image-opening : (opening : Blocks) → ((b : ℕ) → b < length opening → length (block_at opening b) ≡ 4096) → HasOneImage opening [] opening
one_image-opening opening whole = record { size = refl; whole = whole; only = λ b below. (refl, tt) }

-- Nothing is pending after a call that writes no block.
pub one_image-kept : (opening : Blocks) (log : List Call) (image : Blocks) (call : Call) → ((b : ℕ) → Misses call b)
    → HasOneImage opening log image → HasOneImage opening (call ∷ log) image
one_image-kept opening log image call misses one = record {
  size = one.size;
  whole = one.whole;
  only = λ b below. kept (λ content. content ≡ block_at image b) opening log call b (misses b) (one.only b below);
}

-- Once a flush succeeds after calls that settle each block, nothing is pending.
pub one_image-flush : (opening : Blocks) (log : List Call) (image : Blocks) → length image ≡ length opening
    → ((b : ℕ) → b < length opening → length (block_at image b) ≡ 4096)
    → ((b : ℕ) → b < length opening → AllByRecursion (λ content. content ≡ block_at image b) (settled opening log b)) → HasOneImage opening (Flush true ∷ log) image
one_image-flush opening log image size whole settles = record { size = size; whole = whole; only = settles }

-- One write and a flush where nothing is pending: nothing is pending again.
pub one_image-write_flush : (opening : Blocks) (log : List Call) (image : Blocks) (at : Pbn) (bytes : List ℕ) → at.0 < length opening → length bytes ≡ 4096
    → HasOneImage opening log image → HasOneImage opening (Flush true ∷ Write at bytes true ∷ log) (set image at.0 bytes)
one_image-write_flush opening log image at bytes here size one =
    let inside : at.0 < length image = subst (λ n. at.0 < n) (sym one.size) here in
    one_image-flush opening (Write at bytes true ∷ log) (set image at.0 bytes) (length-set image at.0 bytes ∙ one.size)
    (λ b below. elim (eqb_tells at.0 b) [
      | inl same ↦ rw (← same.1, get_or-set_same image at.0 bytes zero_block inside) size
      | inr other ↦ rw (get_or-set_other image at.0 b bytes zero_block (λ e. other.1 (sym e))) (one.whole b below)
    ])
    (λ b below. elim (eqb_tells at.0 b) [
      | inl same ↦ rw (same.0, ← same.1, get_or-set_same image at.0 bytes zero_block inside) (refl, tt)
      | inr other ↦ rw (other.0, get_or-set_other image at.0 b bytes zero_block (λ e. other.1 (sym e)))
          (settled_are_contents (λ content. content ≡ block_at image b) opening log b (one.only b below))
    ])

-- lists of the same blocks
same_blocks : (x y : Blocks) → length x ≡ length y → ((b : ℕ) → b < length y → block_at x b ≡ block_at y b) → x ≡ y
same_blocks [] [] size same = refl
same_blocks [] (c ∷ y) size same = absurd (omega arith)
same_blocks (a ∷ x) [] size same = absurd (omega arith)
same_blocks (a ∷ x) (c ∷ y) size same =
    let first : a ≡ c = same 0 (omega arith) in
    let rest : x ≡ y = same_blocks x y (omega arith) (λ b below. same (suc b) (omega arith)) in
    rw (first, rest) refl

-- Where nothing is pending, a stop leaves the one image.
pub one_image-unique : (opening : Blocks) (log : List Call) (image other : Blocks) → HasOneImage opening log image → IsImage opening log other → other ≡ image
one_image-unique opening log image other one is =
    same_blocks other image (is.size ∙ sym one.size)
    (λ b below. let here : b < length opening = subst (λ n. b < n) one.size below in block_of_image opening log other b (block_at image b) here (one.whole b here) (one.only b here) is)

-- where all contents of a block are the same, that block is a mix of them
pub mix_of_one : (opening : Blocks) (log : List Call) (block : List ℕ) (b : ℕ) → AllByRecursion (λ content. content ≡ block) (contents opening log b)
    → IsMixOf (contents opening log b) block
mix_of_one opening log block b only i small =
    one_of_weaker (λ content. content ≡ block) (λ content. sector i block ≡ sector i content) (contents opening log b)
    (λ content same. sym (ap (sector i) same)) (contents_some (λ content. content ≡ block) opening log b only)

-- Where nothing is pending, the one image is an image.
pub one_image-is_image : (opening : Blocks) (log : List Call) (image : Blocks) → HasOneImage opening log image → IsImage opening log image
one_image-is_image opening log image one = record {
  size = one.size;
  whole = one.whole;
  sectors = λ b below i small. mix_of_one opening log (block_at image b) b (one.only b below) i small;
}

-- Where nothing is pending, the log may be taken to begin there: first what the later calls settle ..
one_of_if : (Q : List ℕ → Type 0) (here : Bool) (bytes : List ℕ) (xs ys us vs : List (List ℕ)) → (OneOf Q xs → OneOf Q us) → (OneOf Q ys → OneOf Q vs)
    → OneOf Q (if here then bytes ∷ xs else ys) → OneOf Q (if here then bytes ∷ us else vs)
one_of_if Q true bytes xs ys us vs f g (inl here) = inl here
one_of_if Q true bytes xs ys us vs f g (inr later) = inr (f later)
one_of_if Q false bytes xs ys us vs f g one = g one

one_of_same : (Q : List ℕ → Type 0) (value : List ℕ) (options : List (List ℕ)) → AllByRecursion (λ content. content ≡ value) options → OneOf Q options → OneOf Q (value ∷ [])
one_of_same Q value [] all one = absurd one
one_of_same Q value (content ∷ others) all (inl here) = inl (subst Q all.0 here)
one_of_same Q value (content ∷ others) all (inr later) = one_of_same Q value others all.1 later

module _ (Q : List ℕ → Type 0) (opening : Blocks) (log : List Call) (image : Blocks) (b : ℕ)
    (only : AllByRecursion (λ content. content ≡ block_at image b) (contents opening log b)) where
  pub settled_from : (later : List Call) → OneOf Q (settled opening (later ++ log) b) → OneOf Q (settled image later b)
  settled_from [] one = one_of_same Q (block_at image b) (settled opening log b) (settled_are_contents (λ content. content ≡ block_at image b) opening log b only) one
  settled_from (Read at bytes ok ∷ later) one = settled_from later one
  settled_from (Flush ok ∷ later) one = settled_from later one
  settled_from (Write at bytes true ∷ later) one = one_of_if Q (at.0 == b) bytes [] _ [] _ (λ none. none) (settled_from later) one
  settled_from (Write at bytes false ∷ later) one = one_of_if Q (at.0 == b) bytes _ _ _ _ (settled_from later) (settled_from later) one

  -- .. and then what a stop after them may leave.
  pub contents_from : (later : List Call) → OneOf Q (contents opening (later ++ log) b) → OneOf Q (contents image later b)
  contents_from [] one = one_of_same Q (block_at image b) (contents opening log b) only one
  contents_from (Read at bytes ok ∷ later) one = contents_from later one
  contents_from (Flush true ∷ later) one = settled_from later one
  contents_from (Flush false ∷ later) one = contents_from later one
  contents_from (Write at bytes ok ∷ later) one = one_of_if Q (at.0 == b) bytes _ _ _ _ (contents_from later) (contents_from later) one

-- Each image after the later calls is one of a device that opened with the one image.
pub one_image-later : (opening : Blocks) (log later : List Call) (image other : Blocks) → HasOneImage opening log image
    → IsImage opening (later ++ log) other → IsImage image later other
one_image-later opening log later image other one is = record {
  size = is.size ∙ sym one.size;
  whole = λ b below. is.whole b (subst (λ n. b < n) one.size below);
  sectors = λ b below i small. let here : b < length opening = subst (λ n. b < n) one.size below in
      contents_from (λ content. sector i (block_at other b) ≡ sector i content) opening log image b (one.only b here) later (is.sectors b here i small);
}
