-- What a stop within the write of a page leaves of it.
use Rattle.std.specs.Prelude.{ℕ, ◌≡◌, ◌⊎◌, ◌<◌, ◌≤◌, ◌+◌, ◌-◌, ◌*◌, ◌/◌, List, [], ◌∷◌, ◌++◌, take, drop, refl}
use Rattle.std.proofs.Common.{sym, ◌∙◌, ap, ap₂, arith, inl, inr}
use Rattle.std.proofs.lemmas.Bool.{cases_lt}
use Rattle.std.proofs.Math.Seq.{take-add}
use Rattle.std.proofs.lemmas.List.{drop-drop, drop-take, take-take}
use Rattle.blk_base.specs.declared.place.Mapping.{Mapping}
use Rattle.blk_base.specs.Sectors.{sector}
use Rattle.byte_fields.specs.Fields.{number_at}
use Rattle.byte_fields.proofs.FieldLaws.{number_at-drop}
use Rattle.page_codec.specs.declared.forms.PageHead.{PageHead}
use Rattle.page_codec.specs.declared.fault.PageFault.{PageFault}
use Rattle.page_codec.specs.declared.fault.PageFault.TheVariants.{Header, Compressed, OutOfRange}
use Rattle.page_codec.specs.Grammar.{HasHead, IsSlot, IsSlotFault, IsTorn, IsFrom, slot_bytes}

-- bytes within the first w
within : (w off : ℕ) (xs : List ℕ) → off + 5 ≤ w → take 5 (drop off (take w xs)) ≡ take 5 (drop off xs)
within w off xs le =
    let m = w - off in
    let whole : w ≡ off + m = omega arith in
    ap (λ (n : ℕ). take 5 (drop off (take n xs))) whole ∙ ap (take 5) (drop-take off m xs) ∙ take-take 5 m (drop off xs) (omega arith)

-- two sectors
two : (i : ℕ) (block : List ℕ) → take 1024 (drop (512 * i) block) ≡ sector i block ++ sector (i + 1) block
two i block =
    let place : 512 * i + 512 ≡ 512 * (i + 1) = omega arith in
    take-add 512 512 (drop (512 * i) block)
    ∙ ap (λ b. sector i block ++ take 512 b) (drop-drop 512 (512 * i) block ∙ ap (λ (n : ℕ). drop n block) place)

-- a slot in one sector
in_one : (i slot : ℕ) (block : List ℕ) → 512 * i ≤ 36 + 5 * slot → 41 + 5 * slot ≤ 512 * (i + 1)
    → slot_bytes slot block ≡ take 5 (drop (36 + 5 * slot - 512 * i) (sector i block))
in_one i slot block low high =
    let off = 36 + 5 * slot - 512 * i in
    let place : 36 + 5 * slot ≡ 512 * i + off = omega arith in
    ap (λ (n : ℕ). take 5 (drop n block)) place ∙ ap (take 5) (sym (drop-drop off (512 * i) block)) ∙ sym (within 512 off (drop (512 * i) block) (omega arith))

-- a slot in two sectors
in_two : (i slot : ℕ) (block : List ℕ) → 512 * i ≤ 36 + 5 * slot → 41 + 5 * slot ≤ 512 * (i + 2)
    → slot_bytes slot block ≡ take 5 (drop (36 + 5 * slot - 512 * i) (sector i block ++ sector (i + 1) block))
in_two i slot block low high =
    let off = 36 + 5 * slot - 512 * i in
    let place : 36 + 5 * slot ≡ 512 * i + off = omega arith in
    ap (λ (n : ℕ). take 5 (drop n block)) place ∙ ap (take 5) (sym (drop-drop off (512 * i) block)) ∙ sym (within 1024 off (drop (512 * i) block) (omega arith))
    ∙ ap (λ b. take 5 (drop off b)) (two i block)

-- a slot whose bytes are all from one page
pub same_slot : (page block : List ℕ) (slot : ℕ) → IsFrom page block slot → slot_bytes slot block ≡ slot_bytes slot page
same_slot page block slot from =
    let i = (36 + 5 * slot) / 512 in
    let low : 512 * i ≤ 36 + 5 * slot = omega arith in
    let high : 36 + 5 * slot < 512 * (i + 1) = omega arith in
    let off = 36 + 5 * slot - 512 * i in
    let first : sector i block ≡ sector i page = from i (omega (arith, low)) high in
    elim (cases_lt (512 * (i + 1)) (41 + 5 * slot)) [
      | inl crosses ↦
          let second : sector (i + 1) block ≡ sector (i + 1) page = from (i + 1) crosses (omega (arith, high)) in
          in_two i slot block low (omega (arith, high)) ∙ ap₂ (λ a b. take 5 (drop off (a ++ b))) first second ∙ sym (in_two i slot page low (omega (arith, high)))
      | inr lies ↦ in_one i slot block low lies ∙ ap (λ a. take 5 (drop off a)) first ∙ sym (in_one i slot page low lies)
    ]

-- the head of a mixture
pub torn_head : (head : PageHead) (old new block : List ℕ) → HasHead head old → HasHead head new → IsTorn old new block → HasHead head block
torn_head head old new block before after torn =
    let front : (b : List ℕ) → take 36 (sector 0 b) ≡ take 36 b = λ b. take-take 36 512 b (omega arith) in
    elim (torn 0 (omega arith)) [
      | inl same ↦ sym (front block) ∙ ap (take 36) same ∙ front old ∙ before
      | inr same ↦ sym (front block) ∙ ap (take 36) same ∙ front new ∙ after
    ]

pub same_slot_says : (head : PageHead) (page block : List ℕ) (slot : ℕ) (m : Mapping) → HasHead head block → slot_bytes slot block ≡ slot_bytes slot page
    → IsSlot head page slot m → IsSlot head block slot m
same_slot_says head page block slot m headed same is = record {
  headed = headed;
  spelled = same ∙ is.spelled;
  held = is.held;
}

front : (xs : List ℕ) → number_at 1 0 xs ≡ number_at 1 0 (take 5 xs)
unfolding number_at
front [] = refl
front (x ∷ xs) = refl

-- the first byte of a slot
state_of_slot : (slot : ℕ) (block page : List ℕ) → slot_bytes slot block ≡ slot_bytes slot page → number_at 1 (36 + 5 * slot) block ≡ number_at 1 (36 + 5 * slot) page
state_of_slot slot block page same = first block ∙ ap (number_at 1 0) same ∙ sym (first page)
  where
    first : (b : List ℕ) → number_at 1 (36 + 5 * slot) b ≡ number_at 1 0 (slot_bytes slot b)
    first b =
        let here : 36 + 5 * slot ≡ 36 + 5 * slot + 0 = omega arith in
        ap (λ (n : ℕ). number_at 1 n b) here ∙ sym (number_at-drop 1 0 (36 + 5 * slot) b) ∙ front (drop (36 + 5 * slot) b)

pub same_slot_fails : (head : PageHead) (page block : List ℕ) (slot : ℕ) (fault : PageFault) → HasHead head page → HasHead head block → slot_bytes slot block ≡ slot_bytes slot page
    → IsSlotFault head page slot fault → IsSlotFault head block slot fault
same_slot_fails head page block slot Header headed headed' same fails = absurd (fails headed)
same_slot_fails head page block slot (Compressed n) headed headed' same fails =
    let state = state_of_slot slot block page same in
    let high = fails.2 in
    (headed', fails.1, omega (arith, state, high))
same_slot_fails head page block slot (OutOfRange n) headed headed' same fails =
    let state = state_of_slot slot block page same in
    let low = fails.2 in
    (headed', fails.1, omega (arith, state, low), λ m is. fails.3 m (same_slot_says head block page slot m headed (sym same) is))

pub torn_slot : (head : PageHead) (old new block page : List ℕ) (slot : ℕ) → HasHead head old → HasHead head new → IsTorn old new block
    → (page ≡ old) ⊎ (page ≡ new) → slot < 812 → IsFrom page block slot
    → ((m : Mapping) → IsSlot head page slot m → IsSlot head block slot m)
    × ((fault : PageFault) → IsSlotFault head page slot fault → IsSlotFault head block slot fault)
torn_slot head old new block page slot before after torn one lt from =
    let headed = torn_head head old new block before after torn in
    let headed_page : HasHead head page = elim one [ inl is ↦ ap (take 36) is ∙ before | inr is ↦ ap (take 36) is ∙ after ] in
    let same = same_slot page block slot from in
    (λ m is. same_slot_says head page block slot m headed same is, λ fault fails. same_slot_fails head page block slot fault headed_page headed same fails)
