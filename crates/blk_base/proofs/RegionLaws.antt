-- Each block of an image is one place.
use Rattle.std.proofs.Common.{ℕ, ◌≡◌, ◌+◌, ◌*◌, ◌/◌, ◌%◌, ◌-◌, ◌<◌, ◌≤◌, ◌⊎◌, inl, inr, ap, ap₂, ◌∙◌, arith}
use Rattle.std.proofs.lemmas.Nat.{same_from_place, mul-add-lt, mod_below, div_below, div-add-mod'}
use Rattle.std.proofs.lemmas.Bool.{cases_lt}
use Rattle.std.proofs.Math.Nat.{mul-zero}
use Rattle.blk_base.specs.declared.geometry.Geometry.{Geometry}
use Rattle.blk_base.specs.Regions.{Place, Superblock, JournalSlot, Root, IndexBlock, DataBlock, ReferenceBlock, SlabJournalSlot, IsPlace, IsDataBlock, block_of, needed_blocks, references_of, slab_stride_of, first_index_of, first_slab_of}

-- two places of slabs that stand at one block
same_place : (g : Geometry) (slab within slab' within' : ℕ) → within < slab_stride_of g → within' < slab_stride_of g
    → first_slab_of g + slab * slab_stride_of g + within ≡ first_slab_of g + slab' * slab_stride_of g + within' → (slab ≡ slab') × (within ≡ within')
same_place g slab within slab' within' below below' same =
    same_from_place slab within slab' within' (slab_stride_of g) below below' (omega arith)

pub apart : (g : Geometry) (p q : Place) → IsPlace g p → IsPlace g q → block_of g p ≡ block_of g q → p ≡ q
apart g Superblock Superblock is is' same = cc
apart g (JournalSlot s) (JournalSlot s') is is' same = ap JournalSlot (omega arith)
apart g (Root t) (Root t') is is' same = ap Root (omega arith)
apart g (IndexBlock i) (IndexBlock i') is is' same = ap IndexBlock (omega arith)
apart g (DataBlock slab offset) (DataBlock slab' offset') is is' same =
    let e = same_place g slab offset slab' offset' (omega arith) (omega arith) same in ap₂ DataBlock e.0 e.1
apart g (DataBlock slab offset) (ReferenceBlock slab' i) is is' same =
    let e = same_place g slab offset slab' (g.slab_blocks + i) (omega arith) (omega arith) (omega arith) in absurd (omega arith)
apart g (DataBlock slab offset) (SlabJournalSlot slab' s) is is' same =
    let e = same_place g slab offset slab' (g.slab_blocks + references_of g + s) (omega arith) (omega arith) (omega arith) in absurd (omega arith)
apart g (ReferenceBlock slab i) (DataBlock slab' offset) is is' same =
    let e = same_place g slab (g.slab_blocks + i) slab' offset (omega arith) (omega arith) (omega arith) in absurd (omega arith)
apart g (ReferenceBlock slab i) (ReferenceBlock slab' i') is is' same =
    let e = same_place g slab (g.slab_blocks + i) slab' (g.slab_blocks + i') (omega arith) (omega arith) (omega arith) in ap₂ ReferenceBlock e.0 (omega arith)
apart g (ReferenceBlock slab i) (SlabJournalSlot slab' s) is is' same =
    let e = same_place g slab (g.slab_blocks + i) slab' (g.slab_blocks + references_of g + s) (omega arith) (omega arith) (omega arith) in absurd (omega arith)
apart g (SlabJournalSlot slab s) (DataBlock slab' offset) is is' same =
    let e = same_place g slab (g.slab_blocks + references_of g + s) slab' offset (omega arith) (omega arith) (omega arith) in absurd (omega arith)
apart g (SlabJournalSlot slab s) (ReferenceBlock slab' i) is is' same =
    let e = same_place g slab (g.slab_blocks + references_of g + s) slab' (g.slab_blocks + i) (omega arith) (omega arith) (omega arith) in absurd (omega arith)
apart g (SlabJournalSlot slab s) (SlabJournalSlot slab' s') is is' same =
    let e = same_place g slab (g.slab_blocks + references_of g + s) slab' (g.slab_blocks + references_of g + s') (omega arith) (omega arith) (omega arith) in ap₂ SlabJournalSlot e.0 (omega arith)
apart g _ _ is is' same = absurd (omega arith)

pub inside : (g : Geometry) (p : Place) → IsPlace g p → block_of g p < needed_blocks g
inside g (DataBlock slab offset) is = omega (arith, mul-add-lt slab (slab_stride_of g) offset g.slabs is.0 (omega arith))
inside g (ReferenceBlock slab i) is = omega (arith, mul-add-lt slab (slab_stride_of g) (g.slab_blocks + i) g.slabs is.0 (omega arith))
inside g (SlabJournalSlot slab s) is = omega (arith, mul-add-lt slab (slab_stride_of g) (g.slab_blocks + references_of g + s) g.slabs is.0 (omega arith))
inside g _ is = omega arith

-- a data block stands behind the index, and inside the image
pub data_block_high : (g : Geometry) (b : ℕ) → IsDataBlock g b → first_slab_of g ≤ b
data_block_high g b is = omega (arith, is.stands)

pub data_block_inside : (g : Geometry) (b : ℕ) → IsDataBlock g b → b < needed_blocks g
data_block_inside g b is = omega (arith, is.stands, inside g (DataBlock is.slab is.offset) is.inside)

-- a number is below another, or not
split : (m n : ℕ) → (m < n) ⊎ (n ≤ m)
split m n = cases_lt m n

-- the place in a slab of the n-th block behind the first slab's start
in_slab : (g : Geometry) (n : ℕ) → n < g.slabs * slab_stride_of g → 0 < slab_stride_of g
    → (p : Place) × IsPlace g p × (block_of g p ≡ first_slab_of g + n)
in_slab g n below some =
    let t = slab_stride_of g in
    let slab = n / t in
    let within = n % t in
    let whole : slab * t + within ≡ n = div-add-mod' n t in
    let slab_in : slab < g.slabs = div_below n t g.slabs some below in
    let within_in : within < t = mod_below n t some in
    elim (split within g.slab_blocks) [
      | inl data_in ↦ (DataBlock slab within, (slab_in, data_in), omega arith)
      | inr past ↦ elim (split within (g.slab_blocks + references_of g)) [
        | inl reference_in ↦ (ReferenceBlock slab (within - g.slab_blocks), (slab_in, omega arith), omega arith)
        | inr past_both ↦ (SlabJournalSlot slab (within - (g.slab_blocks + references_of g)), (slab_in, omega arith), omega arith)
      ]
    ]

pub filled : (g : Geometry) (b : ℕ) → b < needed_blocks g → (p : Place) × IsPlace g p × (block_of g p ≡ b)
filled g b below = elim (split b 1) [
  | inl first ↦ (Superblock, tt, omega arith)
  | inr past_super ↦ elim (split b (1 + g.journal)) [
    | inl in_journal ↦ (JournalSlot (b - 1), omega arith, omega arith)
    | inr past_journal ↦ elim (split b (first_index_of g)) [
      | inl in_roots ↦ (Root (b - (1 + g.journal)), omega arith, omega arith)
      | inr past_roots ↦ elim (split b (first_slab_of g)) [
        | inl in_index ↦ (IndexBlock (b - (first_index_of g)), omega arith, omega arith)
        | inr past_index ↦
            let n = b - first_slab_of g in
            let p = in_slab g n (omega arith) (some_stride g n (omega arith)) in
            (p.0, p.1, p.2 ∙ omega arith)
      ]
    ]
  ]
]
  where
    some_stride : (g : Geometry) (n : ℕ) → n < g.slabs * slab_stride_of g → 0 < slab_stride_of g
    some_stride g n below = elim (split 0 (slab_stride_of g)) [
      | inl some ↦ some
      | inr none ↦
          let zero_stride : slab_stride_of g ≡ 0 = omega arith in
          absurd (omega (arith, ap (λ (t : ℕ). g.slabs * t) zero_stride, mul-zero g.slabs))
    ]
