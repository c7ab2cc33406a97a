-- What calls leave of an image once they are settled, if each of their writes landed.
use Rattle.std.proofs.Common.{ℕ, ◌≡◌, ◌<◌, ◌++◌, true, false, List, [], ◌∷◌, length, refl, sym, ◌∙◌, subst, inl, inr, set}
use Rattle.std.specs.List.{AllByRecursion}
use Rattle.std.proofs.lemmas.Bool.Decides.{eqb_tells}
use Rattle.std.proofs.lemmas.List.{get_or-set_other, get_or-set_same, length-set}
use Rattle.blk_base.specs.Sectors.{sector, zero_block}
use Rattle.disk_model.specs.declared.call.Call.{Call}
use Rattle.disk_model.specs.declared.call.Call.TheVariants.{Read, Write, Flush}
use Rattle.disk_model.specs.Images.{IsImage, OneOf}
use Rattle.disk_model.specs.Log.{Blocks, block_at, settled}
use Rattle.vdo_cli.specs.Onward.{HasLanded}

-- these blocks once the calls have written them
abbrev pub written_by : List Call → Blocks → Blocks
written_by [] image = image
written_by (Write at bytes ok ∷ older) image = set (written_by older image) at.0 bytes
written_by (Read at bytes ok ∷ older) image = written_by older image
written_by (Flush ok ∷ older) image = written_by older image

pub written_size : (calls : List Call) (image : Blocks) → length (written_by calls image) ≡ length image
written_size [] image = refl
written_size (Write at bytes ok ∷ older) image = length-set (written_by older image) at.0 bytes ∙ written_size older image
written_size (Read at bytes ok ∷ older) image = written_size older image
written_size (Flush ok ∷ older) image = written_size older image

pub written_whole : (calls : List Call) (image : Blocks) (b : ℕ) → b < length image → AllByRecursion HasLanded calls → length (block_at image b) ≡ 4096
    → length (block_at (written_by calls image) b) ≡ 4096
written_whole [] image b below landed whole = whole
written_whole (Read at bytes ok ∷ older) image b below landed whole = written_whole older image b below landed.1 whole
written_whole (Flush ok ∷ older) image b below landed whole = written_whole older image b below landed.1 whole
written_whole (Write at bytes false ∷ older) image b below landed whole = absurd landed.0
written_whole (Write at bytes true ∷ older) image b below landed whole = elim (eqb_tells at.0 b) [
  | inl same ↦
      let inside : at.0 < length (written_by older image) = subst (λ (n : ℕ). at.0 < n) (sym (written_size older image)) (rw same.1 below) in
      rw (← same.1, get_or-set_same (written_by older image) at.0 bytes zero_block inside) landed.0
  | inr other ↦ rw (get_or-set_other (written_by older image) at.0 b bytes zero_block (λ e. other.1 (sym e))) (written_whole older image b below landed.1 whole)
]

-- each sector is of what is settled
pub written_sector : (opening : Blocks) (log calls : List Call) (image : Blocks) (b i : ℕ) → b < length image → AllByRecursion HasLanded calls
    → OneOf (λ (content : List ℕ). sector i (block_at image b) ≡ sector i content) (settled opening log b)
    → OneOf (λ (content : List ℕ). sector i (block_at (written_by calls image) b) ≡ sector i content) (settled opening (calls ++ log) b)
written_sector opening log [] image b i below landed one = one
written_sector opening log (Read at bytes ok ∷ older) image b i below landed one = written_sector opening log older image b i below landed.1 one
written_sector opening log (Flush ok ∷ older) image b i below landed one = written_sector opening log older image b i below landed.1 one
written_sector opening log (Write at bytes false ∷ older) image b i below landed one = absurd landed.0
written_sector opening log (Write at bytes true ∷ older) image b i below landed one = elim (eqb_tells at.0 b) [
  | inl same ↦
      let inside : at.0 < length (written_by older image) = subst (λ (n : ℕ). at.0 < n) (sym (written_size older image)) (rw same.1 below) in
      rw (same.0, ← same.1, get_or-set_same (written_by older image) at.0 bytes zero_block inside) (inl refl)
  | inr other ↦ rw (other.0, get_or-set_other (written_by older image) at.0 b bytes zero_block (λ e. other.1 (sym e))) (written_sector opening log older image b i below landed.1 one)
]

-- and so is each block, where one alone was settled before
pub written_block : (opening : Blocks) (log calls : List Call) (image : Blocks) (b : ℕ) → b < length image → AllByRecursion HasLanded calls
    → AllByRecursion (λ (content : List ℕ). content ≡ block_at image b) (settled opening log b)
    → AllByRecursion (λ (content : List ℕ). content ≡ block_at (written_by calls image) b) (settled opening (calls ++ log) b)
written_block opening log [] image b below landed all = all
written_block opening log (Read at bytes ok ∷ older) image b below landed all = written_block opening log older image b below landed.1 all
written_block opening log (Flush ok ∷ older) image b below landed all = written_block opening log older image b below landed.1 all
written_block opening log (Write at bytes false ∷ older) image b below landed all = absurd landed.0
written_block opening log (Write at bytes true ∷ older) image b below landed all = elim (eqb_tells at.0 b) [
  | inl same ↦
      let inside : at.0 < length (written_by older image) = subst (λ (n : ℕ). at.0 < n) (sym (written_size older image)) (rw same.1 below) in
      rw (same.0, ← same.1, get_or-set_same (written_by older image) at.0 bytes zero_block inside) (refl, tt)
  | inr other ↦ rw (other.0, get_or-set_other (written_by older image) at.0 b bytes zero_block (λ e. other.1 (sym e))) (written_block opening log older image b below landed.1 all)
]

pub written_image : (opening : Blocks) (log calls : List Call) (image : Blocks) → AllByRecursion HasLanded calls → IsImage opening (Flush true ∷ log) image
    → IsImage opening (Flush true ∷ (calls ++ log)) (written_by calls image)
written_image opening log calls image landed is = record {
  size = written_size calls image ∙ is.size;
  whole = λ b below. let inside : b < length image = subst (λ (n : ℕ). b < n) (sym is.size) below in written_whole calls image b inside landed (is.whole b below);
  sectors = λ b below i small.
      let inside : b < length image = subst (λ (n : ℕ). b < n) (sym is.size) below in
      written_sector opening log calls image b i inside landed (is.sectors b below i small);
}
