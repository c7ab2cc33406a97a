-- What a sector of reference counters says, byte by byte.
use Rattle.std.proofs.Common.{ℕ, ◌≡◌, ◌+◌, ◌-◌, ◌/◌, ◌%◌, ◌<◌, ◌^◌, List, [], length, get_or, refl, sym, ◌∙◌, ap, ap₂, arith}
use Rattle.std.proofs.Math.Seq.{get_or-append_right}
use Rattle.std.proofs.lemmas.List.{get_or_default}
use Rattle.blk_base.specs.Sectors.{sector, zero_block}
use Rattle.byte_fields.specs.Fields.{le, number_at}
use Rattle.byte_fields.proofs.FieldLaws.{length-le, number_behind}
use Rattle.byte_fields.proofs.ByteLaws.{byte_at}
use Rattle.disk_model.specs.Log.{Blocks}
use Rattle.slab_codec.specs.Reference.{reference_sector_bytes}
use Rattle.slab_codec.specs.declared.forms.ReferenceSector.{ReferenceSector}

pub commit_said : (bytes : List ℕ) (s : ReferenceSector) → s.commit.0 < 2 ^ 64 → bytes ≡ reference_sector_bytes s → number_at 8 0 bytes ≡ s.commit.0
unfolding reference_sector_bytes
commit_said bytes s fits is = number_behind 8 s.commit.0 0 [] s.counters bytes is refl (omega (arith, fits))

pub counter_said : (bytes : List ℕ) (s : ReferenceSector) (k : ℕ) → bytes ≡ reference_sector_bytes s → number_at 1 (8 + k) bytes ≡ get_or s.counters k 0
unfolding reference_sector_bytes
counter_said bytes s k is =
    let front = length-le 8 s.commit.0 in
    let none : 8 + k - length (le 8 s.commit.0) ≡ k = omega (arith, front) in
    byte_at (8 + k) bytes ∙ ap (λ (b : List ℕ). get_or b (8 + k) 0) is
    ∙ get_or-append_right (le 8 s.commit.0) s.counters (8 + k) 0 (omega (arith, front))
    ∙ ap (λ (n : ℕ). get_or s.counters n 0) none

-- the n-th sector stands in this block
pub sector_here : (f : List ℕ → ℕ) (read : Blocks) (n index number : ℕ) (block : List ℕ) → index ≡ n / 8 → number ≡ n % 8 → index < length read → block ≡ get_or read index block
    → f (sector (n % 8) (get_or read (n / 8) zero_block)) ≡ f (sector number block)
sector_here f read n index number block place part inside is =
    ap₂ (λ (i m : ℕ). f (sector m (get_or read i zero_block))) (sym place) (sym part)
    ∙ ap (λ (b : List ℕ). f (sector number b)) (get_or_default read index zero_block block inside ∙ sym is)
