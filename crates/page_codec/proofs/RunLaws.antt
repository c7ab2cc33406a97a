-- Runs of slots: what zeros say, and how far a page is read after each.
use Rattle.std.specs.Prelude.{ℕ, ◌≡◌, ◌+◌, ◌-◌, ◌*◌, ◌<◌, ◌≤◌, List, length, take, drop, replicate, slice_index_or, slice_set, refl}
use Rattle.std.proofs.Common.{Result, Ok, Err, IfErr, IsErrAnd, sym, ◌∙◌, ap, subst, arith, inl, inr, length-drop}
use Rattle.std.proofs.lemmas.Bool.{cases_lt}
use Rattle.std.proofs.lemmas.Bool.Decides.{eqb_tells}
use Rattle.std.proofs.lemmas.List.{drop-drop, drop-replicate, drop-take, get_or-replicate, get_or-set_other, get_or-set_same, get_or_past, length-replicate, length-set, length-take-le, take-replicate, take-take}
use Rattle.blk_base.specs.declared.place.Mapping.{Mapping}
use Rattle.blk_base.specs.declared.place.Mapping.TheVariants.{Unmapped}
use Rattle.byte_fields.specs.Fields.{le}
use Rattle.byte_fields.specs.Mappings.{mapping_bytes}
use Rattle.page_codec.specs.declared.fault.PageFault.{PageFault}
use Rattle.page_codec.specs.declared.forms.PageHead.{PageHead}
use Rattle.page_codec.specs.Grammar.{HasHead, IsPage, IsSlot}
use Rattle.page_codec.specs.Runs.{AreReadTo, HasZeros}
use Rattle.page_codec.proofs.ReadLaws.{page}

-- a fault that is passed on
pub passed_on : {T : Type 0} (r : Result T PageFault) (P : PageFault → Type 0) (fault : PageFault) → IsErrAnd r (λ e. e ≡ fault) → P fault → IfErr r P
passed_on (Ok x) P fault is why = tt
passed_on (Err e) P fault is why = subst P (sym is) why

-- five zeros spell that a slot is unmapped
pub zeros_unmapped : replicate 5 0 ≡ mapping_bytes Unmapped
unfolding mapping_bytes le
zeros_unmapped = refl

-- five bytes within zeros are zeros
part_of_zeros : (xs : List ℕ) (size at : ℕ) → at + 5 ≤ size → take size xs ≡ replicate size 0 → take 5 (drop at xs) ≡ replicate 5 0
part_of_zeros xs size at inside zeros =
    let five : at + 5 - at ≡ 5 = omega arith in
    sym (drop-take at 5 xs) ∙ ap (drop at) (sym (take-take (at + 5) size xs inside) ∙ ap (take (at + 5)) zeros ∙ take-replicate (at + 5) size 0 inside)
    ∙ drop-replicate at (at + 5) 0 ∙ ap (λ (n : ℕ). replicate n 0) five

-- the slots of a run of zeros are unmapped
pub zeros_slot : (head : PageHead) (block : List ℕ) (run slot : ℕ) → HasHead head block → HasZeros run block → 28 * run ≤ slot → slot < 28 * (run + 1) → IsSlot head block slot Unmapped
zeros_slot head block run slot headed zeros behind before =
    let at : ℕ = 5 * (slot - 28 * run) in
    let place : 36 + 140 * run + 5 * (slot - 28 * run) ≡ 36 + 5 * slot = omega (arith, behind) in
    let inside : 5 * (slot - 28 * run) + 5 ≤ 140 = omega (arith, behind, before) in
    record {
      headed = headed;
      spelled = ap (λ (n : ℕ). take 5 (drop n block)) (sym place) ∙ ap (take 5) (sym (drop-drop (5 * (slot - 28 * run)) (36 + 140 * run) block))
          ∙ part_of_zeros (drop (36 + 140 * run) block) 140 (5 * (slot - 28 * run)) inside zeros ∙ zeros_unmapped;
      held = tt;
    }

-- a slot of a page without mappings, or past its end
unmapped : (i : ℕ) → slice_index_or (replicate 812 Unmapped) i Unmapped ≡ Unmapped
unmapped i = elim (cases_lt i 812) [
  | inl below ↦ get_or-replicate 812 i Unmapped Unmapped below
  | inr past ↦ (
      let long = length-replicate 812 Unmapped in
      get_or_past (replicate 812 Unmapped) i Unmapped (omega (arith, past, long))
      )
]

-- a page whose slots are all zeros has no mapping
pub zeros_page : (head : PageHead) (block : List ℕ) (mappings : List Mapping) → length block ≡ 4096 → HasHead head block
    → take (length block - 36) (drop 36 block) ≡ replicate (length (take (length block - 36) (drop 36 block))) 0 → mappings ≡ replicate 812 Unmapped → IsPage head block mappings
zeros_page head block mappings size headed zeros is =
    let many : length block - 36 ≡ 4060 = omega (arith, size) in
    let long : length (drop 36 block) ≡ 4060 = length-drop 36 block ∙ many in
    let taken : length (take 4060 (drop 36 block)) ≡ 4060 = length-take-le 4060 (drop 36 block) (omega (arith, long)) in
    let all : take 4060 (drop 36 block) ≡ replicate 4060 0 =
    subst (λ (n : ℕ). take n (drop 36 block) ≡ replicate (length (take n (drop 36 block))) 0) many zeros ∙ ap (λ (n : ℕ). replicate n 0) taken in
    page head block mappings size (ap length is ∙ length-replicate 812 Unmapped) (λ slot below.
    subst (λ (m : Mapping). IsSlot head block slot m) (sym (ap (λ (ms : List Mapping). slice_index_or ms slot Unmapped) is ∙ unmapped slot))
    (record {
      headed = headed;
      spelled = ap (take 5) (sym (drop-drop (5 * slot) 36 block)) ∙ part_of_zeros (drop 36 block) 4060 (5 * slot) (omega (arith, below)) all ∙ zeros_unmapped;
      held = tt;
    }))

-- nothing is read at first
pub none_read : (head : PageHead) (block : List ℕ) (mappings : List Mapping) → mappings ≡ replicate 812 Unmapped → AreReadTo head block 0 mappings
none_read head block mappings is = record {
  size = ap length is ∙ length-replicate 812 Unmapped;
  front = λ i below. absurd (omega (arith, below));
  rest = λ i behind. ap (λ (ms : List Mapping). slice_index_or ms i Unmapped) is ∙ unmapped i;
}

-- a run of zeros is read by passing over it
pub zeros_read : (head : PageHead) (block : List ℕ) (mappings : List Mapping) (run : ℕ) → HasHead head block → HasZeros run block → AreReadTo head block (28 * run) mappings
    → AreReadTo head block (28 * (run + 1)) mappings
zeros_read head block mappings run headed zeros read = record {
  size = read.size;
  front = λ i below. elim (cases_lt i (28 * run)) [
    | inl early ↦ read.front i early
    | inr late ↦ (
        let behind : 28 * run ≤ i = omega (arith, late) in
        subst (λ (m : Mapping). IsSlot head block i m) (sym (read.rest i behind)) (zeros_slot head block run i headed zeros behind below)
        )
  ];
  rest = λ i behind. read.rest i (omega (arith, behind));
}

-- a slot more is read
pub slot_read : (head : PageHead) (block : List ℕ) (mappings : List Mapping) (slot : ℕ) (m : Mapping) → slot < 812 → IsSlot head block slot m → AreReadTo head block slot mappings
    → AreReadTo head block (slot + 1) (slice_set mappings slot m)
slot_read head block mappings slot m inside is read =
    let long = read.size in
    record {
      size = length-set mappings slot m ∙ long;
      front = λ i below. elim (eqb_tells i slot) [
        | inl same ↦ subst (λ (n : ℕ). IsSlot head block n (slice_index_or (slice_set mappings slot m) n Unmapped)) (sym same.1)
            (subst (λ (at : Mapping). IsSlot head block slot at) (sym (get_or-set_same mappings slot m Unmapped (omega (arith, inside, long)))) is)
        | inr other ↦ (
            let apart = other.1 in
            subst (λ (at : Mapping). IsSlot head block i at) (sym (get_or-set_other mappings slot i m Unmapped apart)) (read.front i (omega (arith, below, apart)))
            )
      ];
      rest = λ i behind. get_or-set_other mappings slot i m Unmapped (λ same. omega (arith, same, behind)) ∙ read.rest i (omega (arith, behind));
    }
