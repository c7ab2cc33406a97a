-- A picked image is one that a stop may leave.
use Rattle.std.proofs.Common.{ℕ, suc, ◌≡◌, ◌+◌, ◌==◌, Bool, true, false, if◌then◌else◌, List, [], ◌∷◌, refl, ◌∙◌, ap, inl, inr}
use Rattle.std.proofs.lemmas.Bool.Decides.{eqb_tells}
use Rattle.blk_base.specs.Sectors.{sector}
use Rattle.disk_model.specs.Numbers.{state_after}
use Rattle.disk_model.specs.declared.call.Call.{Call}
use Rattle.disk_model.specs.declared.call.Call.TheVariants.{Read, Write, Flush}
use Rattle.disk_model.specs.Images.{IsImage, OneOf}
use Rattle.disk_model.specs.Log.{Blocks, block_at, contents, settled}
use Rattle.disk_model.specs.Picks.{IsPicked, choice, content_of, numbers_before, pending, written}

written_is_settled : (opening : Blocks) (log : List Call) (b : ℕ) → OneOf (λ content. written (block_at opening b) log b ≡ content) (settled opening log b)
written_is_settled opening [] b = inl refl
written_is_settled opening (Read _ _ _ ∷ older) b = written_is_settled opening older b
written_is_settled opening (Flush _ ∷ older) b = written_is_settled opening older b
written_is_settled opening (Write at bytes true ∷ older) b = elim (eqb_tells at.0 b) [
  | inl here ↦ rw (here.0) (inl refl)
  | inr other ↦ rw (other.0) (written_is_settled opening older b)
]
written_is_settled opening (Write at bytes false ∷ older) b = elim (eqb_tells at.0 b) [
  | inl here ↦ rw (here.0) (inr (written_is_settled opening older b))
  | inr other ↦ rw (other.0) (written_is_settled opening older b)
]

chosen : (here same : Bool) (bytes content : List ℕ) (options : List (List ℕ)) → OneOf (λ option. content ≡ option) options
    → OneOf (λ option. (if here then (if same then bytes else content) else content) ≡ option) (if here then bytes ∷ options else options)
chosen true true bytes content options is = inl refl
chosen true false bytes content options is = inr is
chosen false same bytes content options is = is

-- a content with any number is one of those that a stop may leave
content_may_stand : (opening : Blocks) (log : List Call) (b k : ℕ) → OneOf (λ content. content_of (block_at opening b) log b k ≡ content) (contents opening log b)
content_may_stand opening [] b k = inl refl
content_may_stand opening (Read _ _ _ ∷ older) b k = content_may_stand opening older b k
content_may_stand opening (Flush true ∷ older) b k = written_is_settled opening older b
content_may_stand opening (Flush false ∷ older) b k = content_may_stand opening older b k
content_may_stand opening (Write at bytes ok ∷ older) b k =
    chosen (at.0 == b) (pending older b + 1 == k) bytes (content_of (block_at opening b) older b k) (contents opening older b) (content_may_stand opening older b k)

sector_of_one : (options : List (List ℕ)) (block content : List ℕ) (i : ℕ) → sector i block ≡ sector i content → OneOf (λ option. content ≡ option) options
    → OneOf (λ option. sector i block ≡ sector i option) options
sector_of_one [] block content i same none = none
sector_of_one (option ∷ others) block content i same (inl is) = inl (same ∙ ap (sector i) is)
sector_of_one (option ∷ others) block content i same (inr later) = inr (sector_of_one others block content i same later)

pub picked_may_stand : (opening : Blocks) (log : List Call) (number : ℕ) (image : Blocks) → IsPicked opening log number image → IsImage opening log image
picked_may_stand opening log number image picked = record {
  size = picked.size;
  whole = picked.whole;
  sectors = λ b inside i below.
      sector_of_one (contents opening log b) (block_at image b)
      (content_of (block_at opening b) log b (choice number (pending log b) (state_after number (suc (numbers_before log b + i))))) i
      (picked.sectors b i inside below) (content_may_stand opening log b (choice number (pending log b) (state_after number (suc (numbers_before log b + i)))));
}
