-- The fields of a slot, as they are read, and that a page and a slot have one reading.
use Rattle.std.specs.Prelude.{ℕ, ◌≡◌, ◌<◌, ◌+◌, ◌*◌, List, length, take, slice_index_or, Result, Ok, Err, IfErr, OnErr, refl}
use Rattle.std.proofs.Common.{sym, ◌∙◌, ap, subst, arith, inl, inr}
use Rattle.std.proofs.lemmas.Bool.{cases_lt}
use Rattle.std.proofs.lemmas.List.{ext_get_or}
use Rattle.std.proofs.lemmas.List.Elements.{All-get_or, All-from_get_or}
use Rattle.blk_base.specs.declared.place.Mapping.{Mapping}
use Rattle.blk_base.specs.declared.place.Mapping.TheVariants.{Unmapped, Zero, At}
use Rattle.page_codec.specs.declared.forms.PageHead.{PageHead}
use Rattle.page_codec.specs.declared.fault.PageFault.{PageFault}
use Rattle.page_codec.specs.declared.fault.PageFault.TheVariants.{Header, Compressed, OutOfRange}
use Rattle.byte_fields.specs.Mappings.{mapping_bytes}
use Rattle.byte_fields.specs.Mappings as form
use Rattle.byte_fields.proofs.MappingLaws.{state_small, state_at, one_mapping as one_spelling}
use Rattle.blk_base.proofs.RegionLaws.{data_block_high}
use Rattle.page_codec.specs.Grammar.{HoldsMapping, IsPage, IsSlot, IsSlotFault, IsPageFault, slot_bytes}
use Rattle.page_codec.proofs.SpellingLaws.{head_of_page, slot_of_page, page_by_slots}

-- what a page can hold, 5 bytes can
pub page_holds : (head : PageHead) (m : Mapping) → HoldsMapping head.geometry head.page.level m → form.HoldsMapping m
page_holds head Unmapped held = tt
page_holds head Zero held = tt
page_holds head (At block) held = (let high = data_block_high head.geometry block.0 held.0 in omega (arith, high), held.1)

-- a slot says one mapping
pub one_mapping : (head : PageHead) (block : List ℕ) (slot : ℕ) (m m' : Mapping) → IsSlot head block slot m → IsSlot head block slot m' → m ≡ m'
one_mapping head block slot m m' is is' =
    let at = 36 + 5 * slot in
    one_spelling at block m m' (page_holds head m is.held) (page_holds head m' is'.held) is.spelled is'.spelled

-- or has a fault
pub no_slot_fault : (head : PageHead) (block : List ℕ) (slot : ℕ) (m : Mapping) (fault : PageFault)
    → IsSlot head block slot m → IsSlotFault head block slot fault → ⊥
no_slot_fault head block slot m Header is fails = fails is.headed
no_slot_fault head block slot m (Compressed named) is fails =
    let state = state_at (36 + 5 * slot) block m is.spelled in
    let small = state_small m in
    let high = fails.2 in
    omega (arith, state, small, high)
no_slot_fault head block slot m (OutOfRange named) is fails = fails.3 m is

pub slot_outside : (head : PageHead) (block : List ℕ) (slot : ℕ) (r : Result Mapping PageFault) → IfErr r (λ fault. IsSlotFault head block slot fault)
    → OnErr r ((m : Mapping) → IsSlot head block slot m → ⊥)
slot_outside head block slot (Ok m) fails = tt
slot_outside head block slot (Err fault) fails = λ m is. no_slot_fault head block slot m fault is fails

-- pages and slots

pub page_fault : (head : PageHead) (block : List ℕ) (ms : List Mapping) (slot : ℕ) (fault : PageFault) → slot < 812
    → ((i : ℕ) → i < slot → IsSlot head block i (slice_index_or ms i Unmapped)) → IsSlotFault head block slot fault → IsPageFault head block fault
page_fault head block ms slot fault lt before of_slot = record {
  slot = slot;
  inside = lt;
  before = λ i below. (slice_index_or ms i Unmapped, before i below);
  of_slot = of_slot;
}

pub slots : (head : PageHead) (block : List ℕ) (ms : List Mapping) (slot : ℕ) → IsPage head block ms → slot < 812
    → IsSlot head block slot (slice_index_or ms slot Unmapped)
slots head block ms slot is lt =
    let count = is.held.count in
    record {
      headed = ap (take 36) is.spelled ∙ head_of_page head ms;
      spelled = ap (slot_bytes slot) is.spelled ∙ slot_of_page head ms slot (omega (arith, count));
      held = All-get_or (HoldsMapping head.geometry head.page.level) ms slot Unmapped (omega (arith, count)) is.held.each;
    }

pub page : (head : PageHead) (block : List ℕ) (ms : List Mapping) → length block ≡ 4096 → length ms ≡ 812
    → ((slot : ℕ) → slot < 812 → IsSlot head block slot (slice_index_or ms slot Unmapped)) → IsPage head block ms
page head block ms size count each =
    record {
      spelled = page_by_slots head block ms size count (each 0 (omega arith)).headed (λ slot lt. (each slot lt).spelled);
      held = record {
        count = count;
        each = All-from_get_or (HoldsMapping head.geometry head.page.level) ms Unmapped (λ i lt. (each i (omega (arith, count))).held);
      };
    }

-- a block is one page
pub one_page : (head : PageHead) (block : List ℕ) (ms ms' : List Mapping) → IsPage head block ms → IsPage head block ms' → ms ≡ ms'
one_page head block ms ms' is is' =
    let count = is.held.count in
    ext_get_or Unmapped ms ms' (is.held.count ∙ sym is'.held.count)
    (λ i lt. let below : i < 812 = omega (arith, count) in
    one_mapping head block i (slice_index_or ms i Unmapped) (slice_index_or ms' i Unmapped) (slots head block ms i is below) (slots head block ms' i is' below))

-- or has a fault
pub no_page_fault : (head : PageHead) (block : List ℕ) (ms : List Mapping) (fault : PageFault) → IsPage head block ms → IsPageFault head block fault → ⊥
no_page_fault head block ms fault is fails =
    no_slot_fault head block fails.slot (slice_index_or ms fails.slot Unmapped) fault (slots head block ms fails.slot is fails.inside) fails.of_slot

one_slot_fault : (head : PageHead) (block : List ℕ) (slot : ℕ) (f f' : PageFault) → IsSlotFault head block slot f → IsSlotFault head block slot f' → f ≡ f'
one_slot_fault head block slot Header Header is is' = refl
one_slot_fault head block slot Header (Compressed n) is is' = absurd (is is'.0)
one_slot_fault head block slot Header (OutOfRange n) is is' = absurd (is is'.0)
one_slot_fault head block slot (Compressed n) Header is is' = absurd (is' is.0)
one_slot_fault head block slot (Compressed n) (Compressed n') is is' = ap Compressed (is.1 ∙ sym is'.1)
one_slot_fault head block slot (Compressed n) (OutOfRange n') is is' = let high = is.2 in let low = is'.2 in absurd (omega (arith, high, low))
one_slot_fault head block slot (OutOfRange n) Header is is' = absurd (is' is.0)
one_slot_fault head block slot (OutOfRange n) (Compressed n') is is' = let low = is.2 in let high = is'.2 in absurd (omega (arith, high, low))
one_slot_fault head block slot (OutOfRange n) (OutOfRange n') is is' = ap OutOfRange (is.1 ∙ sym is'.1)

-- and that is one
pub one_fault : (head : PageHead) (block : List ℕ) (f f' : PageFault) → IsPageFault head block f → IsPageFault head block f' → f ≡ f'
one_fault head block f f' is is' = elim (cases_lt is.slot is'.slot) [
  | inl below ↦ let good = is'.before is.slot below in absurd (no_slot_fault head block is.slot good.0 f good.1 is.of_slot)
  | inr not_below ↦ elim (cases_lt is'.slot is.slot) [
    | inl above ↦ let good = is.before is'.slot above in absurd (no_slot_fault head block is'.slot good.0 f' good.1 is'.of_slot)
    | inr not_above ↦
        let same : is'.slot ≡ is.slot = omega (arith, not_below, not_above) in
        one_slot_fault head block is.slot f f' is.of_slot (subst (λ (n : ℕ). IsSlotFault head block n f') same is'.of_slot)
  ]
]
