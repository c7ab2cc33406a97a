-- What the runs of a page accept and refuse.
use Rattle.std.specs.Prelude.{ℕ, ◌≡◌, List, [], ◌∷◌, ◌++◌, replicate, get_or, slice_index_or, refl}
use Rattle.std.proofs.Common.{sym, ◌∙◌, ap, arith}
use Rattle.std.proofs.lemmas.List.{get_or-replicate}
use Rattle.blk_base.specs.declared.place.Mapping.{Mapping}
use Rattle.blk_base.specs.declared.place.Mapping.TheVariants.{Unmapped, Zero}
use Rattle.byte_fields.specs.Fields.{le}
use Rattle.byte_fields.specs.Mappings.{mapping_bytes}
use Rattle.page_codec.specs.declared.forms.PageHead.{PageHead}
use Rattle.page_codec.specs.Grammar.{slot_bytes}
use Rattle.page_codec.specs.Runs.{AreReadTo, HasZeros}
use Rattle.page_codec.proofs.RunLaws.{none_read}

-- the 140 bytes behind the head
a_run_of_zeros : HasZeros 0 (replicate 176 0)
a_run_of_zeros = refl

-- the last of them isn't zero
a_last_byte : HasZeros 0 (replicate 175 0 ++ 1 ∷ []) → ⊥
a_last_byte zeros =
    let last : ◌≡◌ {A = ℕ} 1 0 = ap (λ (bytes : List ℕ). get_or bytes 139 0) zeros in
    omega (arith, last)

-- nothing is read
nothing_read : (head : PageHead) (block : List ℕ) → AreReadTo head block 0 (replicate 812 Unmapped)
nothing_read head block = none_read head block (replicate 812 Unmapped) refl

-- no slot is there
no_slot : (head : PageHead) (block : List ℕ) → AreReadTo head block 0 [] → ⊥
no_slot head block read =
    let size = read.size in
    omega (arith, size)

-- the first slot is read, and says something else
another_front : (head : PageHead) (block : List ℕ) → slot_bytes 0 block ≡ 1 ∷ 0 ∷ 0 ∷ 0 ∷ 0 ∷ [] → AreReadTo head block 1 (replicate 812 Unmapped) → ⊥
unfolding mapping_bytes le
another_front head block is read =
    let first : slice_index_or (replicate 812 Unmapped) 0 Unmapped ≡ Unmapped = get_or-replicate 812 0 Unmapped Unmapped (omega arith) in
    let zeros : 1 ∷ 0 ∷ 0 ∷ 0 ∷ 0 ∷ [] ≡ mapping_bytes Unmapped = sym is ∙ (read.front 0 (omega arith)).spelled ∙ ap mapping_bytes first in
    let byte : ◌≡◌ {A = ℕ} 1 0 = ap (λ (bytes : List ℕ). get_or bytes 0 0) zeros in
    omega (arith, byte)

-- a slot that isn't read yet says something
a_mapped_rest : (head : PageHead) (block : List ℕ) → AreReadTo head block 0 (Zero ∷ replicate 811 Unmapped) → ⊥
a_mapped_rest head block read =
    let first : ◌≡◌ {A = Mapping} Zero Unmapped = read.rest 0 (omega arith) in
    absurd (cc first)
