-- A block whose slots are all zeros: each says what the first one does.
use Rattle.std.specs.Prelude.{ℕ, ◌≡◌, ◌-◌, ◌*◌, ◌<◌, ◌↔◌, List, length, take, drop, replicate, slice_index_or}
use Rattle.std.proofs.Common.{Result, Ok, Err, IfOk, sym, ◌∙◌, ap, subst, arith, length-drop}
use Rattle.std.proofs.lemmas.List.{drop-drop, drop-replicate, get_or-replicate, length-replicate, take-replicate, take_rest}
use Rattle.blk_base.specs.declared.place.Mapping.{Mapping}
use Rattle.blk_base.specs.declared.place.Mapping.TheVariants.{Unmapped}
use Rattle.page_codec.specs.declared.fault.PageFault.{PageFault}
use Rattle.page_codec.specs.declared.forms.PageHead.{PageHead}
use Rattle.page_codec.specs.Grammar.{IsPage, IsSlot, slot_bytes}
use Rattle.page_codec.proofs.ReadLaws.{page}

-- the bytes behind the head are zeros
abbrev HasZeroSlots : List ℕ → Type 0
HasZeroSlots block = drop 36 block ≡ replicate 4060 0

-- they are the bytes to the end of the block
pub zeros_behind : (block : List ℕ) → length block ≡ 4096
    → (take (length block - 36) (drop 36 block) ≡ replicate (length (take (length block - 36) (drop 36 block))) 0) ↔ HasZeroSlots block
zeros_behind block size =
    let long : length (drop 36 block) ≡ 4060 = simp length-drop (omega (arith, size)) in
    let rest = take_rest block 36 in
    let many : replicate (length (take (length block - 36) (drop 36 block))) 0 ≡ replicate 4060 0 = ap (λ (n : ℕ). replicate n 0) (ap length rest ∙ long) in (
      λ zeros. sym rest ∙ zeros ∙ many,
      λ zeros. rest ∙ zeros ∙ sym many,
    )

-- the bytes of a slot
zero_slot : (block : List ℕ) (slot : ℕ) → HasZeroSlots block → slot < 812 → slot_bytes slot block ≡ replicate 5 0
zero_slot block slot zeros inside =
    ap (take 5) (sym (drop-drop (5 * slot) 36 block) ∙ ap (drop (5 * slot)) zeros ∙ drop-replicate (5 * slot) 4060 0)
    ∙ take-replicate 5 (4060 - 5 * slot) 0 (omega (arith, inside))

-- what the first slot says is what the page says
pub first_says : (head : PageHead) (block : List ℕ) (m : Mapping) → length block ≡ 4096 → HasZeroSlots block → IsSlot head block 0 m → IsPage head block (replicate 812 m)
first_says head block m size zeros first =
    page head block (replicate 812 m) size (length-replicate 812 m) (λ slot inside.
    subst (λ (at : Mapping). IsSlot head block slot at) (sym (get_or-replicate 812 slot m Unmapped inside))
    (record {
      headed = first.headed;
      spelled = zero_slot block slot zeros inside ∙ sym (zero_slot block 0 zeros (omega arith)) ∙ first.spelled;
      held = first.held;
    }))

-- and so is what it says of any slot
pub first_read : (head : PageHead) (block : List ℕ) (slot : ℕ) (r : Result Mapping PageFault) → length block ≡ 4096 → HasZeroSlots block → slot < 812
    → IfOk r (λ m. IsSlot head block 0 m) → IfOk r (λ m. (ms : List Mapping) × IsPage head block ms × (m ≡ slice_index_or ms slot Unmapped))
first_read head block slot (Ok m) size zeros inside first = (replicate 812 m, first_says head block m size zeros first, sym (get_or-replicate 812 slot m Unmapped inside))
first_read head block slot (Err fault) size zeros inside first = tt
