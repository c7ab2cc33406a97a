-- Zeros hold nothing: no sector of a journal is valid there, and no counter is above 0.
use Rattle.std.proofs.Common.{ℕ, zero, suc, ◌≡◌, ◌<◌, List, length, replicate, refl, ◌∙◌, ap, lit≤, arith}
use Rattle.blk_base.specs.Sectors.{sector, zero_block}
use Rattle.blk_base.specs.declared.journal_entry.Entry.{Entry}
use Rattle.byte_fields.specs.Fields.{le, number_at}
use Rattle.journal_codec.specs.Grammar.{IsSector}
use Rattle.journal_codec.proofs.ReadLaws.{fields_of}
use Rattle.slab_codec.specs.Grammar.{IsSlabSector}
use Rattle.slab_codec.specs.Lengths.{length-head}
use Rattle.slab_codec.specs.BlockBytes.{entry_bytes, head_bytes}
use Rattle.slab_codec.specs.declared.forms.SlabEntry.{SlabEntry}
use Rattle.sector_records.proofs.SectorLaws.{sector-number}

-- each of eight
pub of_eight : (P : ℕ → Type 0) → P 0 → P 1 → P 2 → P 3 → P 4 → P 5 → P 6 → P 7 → (k : ℕ) → k < 8 → P k
of_eight P p0 p1 p2 p3 p4 p5 p6 p7 zero below = p0
of_eight P p0 p1 p2 p3 p4 p5 p6 p7 (suc zero) below = p1
of_eight P p0 p1 p2 p3 p4 p5 p6 p7 (suc (suc zero)) below = p2
of_eight P p0 p1 p2 p3 p4 p5 p6 p7 (suc (suc (suc zero))) below = p3
of_eight P p0 p1 p2 p3 p4 p5 p6 p7 (suc (suc (suc (suc zero)))) below = p4
of_eight P p0 p1 p2 p3 p4 p5 p6 p7 (suc (suc (suc (suc (suc zero))))) below = p5
of_eight P p0 p1 p2 p3 p4 p5 p6 p7 (suc (suc (suc (suc (suc (suc zero)))))) below = p6
of_eight P p0 p1 p2 p3 p4 p5 p6 p7 (suc (suc (suc (suc (suc (suc (suc zero))))))) below = p7
of_eight P p0 p1 p2 p3 p4 p5 p6 p7 (suc (suc (suc (suc (suc (suc (suc (suc k)))))))) below = absurd (omega (arith, below))

pub zero_sector : (i : ℕ) → i < 8 → sector i zero_block ≡ replicate 512 0
unfolding zero_block
zero_sector i below = of_eight (λ k. sector k (replicate 4096 0) ≡ replicate 512 0) refl refl refl refl refl refl refl refl i below

zero_sequence : number_at 8 8 (replicate 512 0) ≡ 0
unfolding number_at
zero_sequence = refl

-- no valid sector of a recovery journal has the sequence 0
pub no_journal_sector : (nonce i s h : ℕ) (entries : List Entry) → i < 8 → IsSector nonce i (sector i zero_block) s h entries → ⊥
no_journal_sector nonce i s h entries below is =
    let said = (fields_of nonce i (sector i zero_block) s h entries is).sequence in
    let none = ap (number_at 8 8) (zero_sector i below) ∙ zero_sequence in
    let named = is.named.0 in
    omega (arith, none, said, named)

-- and one of a slab's journal has a letter at byte 24
letter_read : (nonce sequence slab number count : ℕ) → number_at 1 24 (head_bytes nonce sequence slab number count) ≡ 86
unfolding head_bytes le number_at
letter_read nonce sequence slab number count = refl

no_letter : number_at 1 24 (replicate 512 0) ≡ 0
unfolding number_at
no_letter = refl

pub no_slab_sector : (nonce slab slab_blocks i s : ℕ) (entries : List SlabEntry) → i < 8 → IsSlabSector nonce slab slab_blocks i (sector i zero_block) s entries → ⊥
no_slab_sector nonce slab slab_blocks i s entries below is =
    let none = ap (number_at 1 24) (zero_sector i below) ∙ no_letter in
    let size = length-head nonce s slab i (length entries) in
    let said = ap (number_at 1 24) is.spelled
    ∙ sector-number entry_bytes (head_bytes nonce s slab i (length entries)) entries 1 24 size (lit≤ tt)
    ∙ letter_read nonce s slab i (length entries) in
    omega (arith, none, said)

zero_number : number_at 8 0 (replicate 512 0) ≡ 0
unfolding number_at
zero_number = refl

-- a commit point there is 0
pub no_commit : (i : ℕ) → i < 8 → number_at 8 0 (sector i zero_block) ≡ 0
no_commit i below = ap (number_at 8 0) (zero_sector i below) ∙ zero_number
