-- Faults: for each clause one that it accepts, and one that it refuses.
use Rattle.std.proofs.Common.{ℕ, zero, suc, ◌≡◌, ◌+◌, ◌*◌, ◌<◌, ◌≤◌, List, [], ◌∷◌, ◌++◌, replicate, get_or, Some, IsNone, Ok, Err, refl, sym, subst, inl, inr, arith}
use Rattle.blk_base.specs.declared.place.Pbn.{Pbn}
use Rattle.slab_codec.specs.Grammar.{IsSlabSector}
use Rattle.slab_codec.specs.declared.forms.SlabEntry.{SlabEntry}
use Rattle.image_model.specs.Sound.{IsDataPlace}
use Rattle.image_model.proofs.MapLaws.{page_in_range}
use Rattle.blk_base.specs.Sectors.{sector, zero_block}
use Rattle.blk_base.specs.declared.layout.DataPlace.{DataPlace}
use Rattle.blk_base.specs.declared.place.Mapping.TheVariants.{Unmapped}
use Rattle.blk_base.specs.declared.place.PageId.{PageId}
use Rattle.byte_fields.specs.Fields.{le, number_at}
use Rattle.byte_fields.specs.Mappings.{mapping_bytes}
use Rattle.page_codec.specs.Grammar.{HasHead, IsSlot, slot_bytes, state_in}
use Rattle.page_codec.specs.PageBytes.{head_bytes}
use Rattle.page_codec.specs.declared.fault.PageFault.TheVariants.{Header, Compressed}
use Rattle.image_model.specs.Counts.{IsUpdate, Stores, block_of_data, commit_of, counter_of}
use Rattle.image_model.specs.Faults.{HasFault, IsPageFault, IsCountFault}
use Rattle.image_model.specs.Maps.{Image, IsGoodPage, IsReadable, head_of, page_at, put_last}
use Rattle.image_model.specs.Pages.{IsAhead}
use Rattle.image_model.proofs.CountLaws.{none_in_nothing, one_stored}
use Rattle.image_model.proofs.Example.{small}
use Rattle.image_model.proofs.MapExample.{with_root, logged}
use Rattle.model_rows.proofs.images.MapRows.{bad_slot, bad_slots}
use Rattle.image_model.proofs.ZeroLaws.{no_slab_sector, of_eight}
use Rattle.blk_base.specs.declared.journal_entry.Entry.TheVariants.{NewPage}
use Rattle.blk_base.specs.Forms.{page, pbn}
use Rattle.blk_base.proofs.Example.{place, root}
use Rattle.image_model.proofs.FaultExample.{zeros_unheaded, nothing}

-- A page with the state 2 in slot 3.
headed : HasHead (head_of (with_root bad_slot []) root (pbn 9)) bad_slot
unfolding head_bytes le
headed = refl

two : 2 ≤ state_in 3 bad_slot
unfolding head_bytes number_at le
two = omega arith

abbrev IsBlank : ℕ → Type 0
IsBlank slot = IsSlot (head_of (with_root bad_slot []) root (pbn 9)) bad_slot slot Unmapped

blank_slot : (slot : ℕ) → slot_bytes slot bad_slot ≡ mapping_bytes Unmapped → IsBlank slot
blank_slot slot spelled = record { headed = headed; spelled = spelled; held = tt }

blank_bytes : (slot_bytes 0 bad_slot ≡ mapping_bytes Unmapped) × (slot_bytes 1 bad_slot ≡ mapping_bytes Unmapped) × (slot_bytes 2 bad_slot ≡ mapping_bytes Unmapped)
unfolding head_bytes le mapping_bytes
blank_bytes = (refl, refl, refl)

slots_before : (i : ℕ) → i < 3 → IsReadable (with_root bad_slot []) root (pbn 9) i
slots_before zero below = inr (Unmapped, blank_slot 0 blank_bytes.0)
slots_before (suc zero) below = inr (Unmapped, blank_slot 1 blank_bytes.1)
slots_before (suc (suc zero)) below = inr (Unmapped, blank_slot 2 blank_bytes.2)
slots_before (suc (suc (suc i))) below = absurd (omega (arith, below))

fault_is : HasFault (with_root bad_slot []) root (pbn 9) (Compressed 3)
fault_is = record {
  slot = 3;
  inside = omega arith;
  before = slots_before;
  own = inr refl;
  of_slot = (headed, refl, two);
}

-- before: the least slot that can't be read is named
fault_is_least : HasFault (with_root bad_slot []) root (pbn 9) (Compressed 4) → ⊥
fault_is_least has = bad_slots (has.before 3 (let named = has.of_slot.1 in omega (arith, named)))

-- own: a slot that the window replaces isn't looked at
fault_is_own : HasFault (with_root bad_slot (logged (NewPage (page 0 0 3) (pbn 86)) ∷ [])) root (pbn 9) (Compressed 3) → ⊥
fault_is_own has = elim has.own [
  | inl header ↦ absurd (cc header)
  | inr none ↦ absurd (let here : has.slot ≡ 3 = sym has.of_slot.1 in
      let none_here = subst (λ (n : ℕ). IsNone (put_last (logged (NewPage (page 0 0 3) (pbn 86)) ∷ []) root n)) here none in cc none_here)
]

-- of_slot: a page that begins as it should has no fault of its header
fault_of_header : HasFault (with_root bad_slot []) root (pbn 9) Header → ⊥
fault_of_header has = has.of_slot headed

none_ahead : (other : PageId) (at : Pbn) → IsAhead other root → page_at nothing other ≡ Some at → ⊥
none_ahead other at (inl tree) there = omega (arith, tree)
none_ahead other at (inr (inl up)) there = let level = up.1 in let below = (page_in_range nothing other at there).1 in omega (arith, level, below)
none_ahead other at (inr (inr left)) there = let index = left.2 in omega (arith, index)

first_is : IsPageFault nothing (pbn 9) Header
first_is = record {
  page = root;
  there = refl;
  has = record { slot = 0; inside = omega arith; before = λ i below. absurd (omega (arith, below)); own = inl refl; of_slot = zeros_unheaded };
  first = λ other at ahead there. absurd (none_ahead other at ahead there);
}

-- first: the root of tree 1 has the same fault, and is behind it
second_is_behind : ((other : PageId) (at : Pbn) → IsAhead other (page 1 1 0) → page_at nothing other ≡ Some at → IsGoodPage nothing other at) → ⊥
second_is_behind first = zeros_unheaded (first root (pbn 9) (inl (omega arith)) refl).headed

-- there: a page that isn't linked is none of the image
unlinked_is_none : page_at nothing (page 0 0 0) ≡ Some (pbn 85) → ⊥
unfolding zero_block number_at
unlinked_is_none there = absurd (cc there)

-- The count of a block leaves its range: those of 85 and 86 are past the limit, at their commit point.
abbrev overfull : Image
overfull = record { geometry = small; blocks = replicate 149 zero_block ++ (0 ∷ 4 ∷ 0 ∷ 0 ∷ 0 ∷ 0 ∷ 0 ∷ 0 ∷ 255 ∷ 255 ∷ []) ∷ []; window = [] }

no_update : (at : DataPlace) (point : ℕ) → at.slab ≡ 0 → IsUpdate overfull at point → ⊥
no_update at point slab (inl in_slab) =
    of_eight (λ k. (number s : ℕ) (entries : List SlabEntry) → k < 4 → number < 8
    → IsSlabSector 1 0 64 number (sector number (get_or overfull.blocks (150 + k) zero_block)) s entries → ⊥)
    (λ number s entries inside below is. no_slab_sector 1 0 64 number s entries below is) (λ number s entries inside below is. no_slab_sector 1 0 64 number s entries below is)
    (λ number s entries inside below is. no_slab_sector 1 0 64 number s entries below is) (λ number s entries inside below is. no_slab_sector 1 0 64 number s entries below is)
    (λ number s entries inside below is. omega (arith, inside)) (λ number s entries inside below is. omega (arith, inside))
    (λ number s entries inside below is. omega (arith, inside)) (λ number s entries inside below is. omega (arith, inside))
    in_slab.slot (let inside = in_slab.inside.0 in omega (arith, inside)) in_slab.number in_slab.sequence in_slab.entries in_slab.inside.0 in_slab.inside.1
    (subst (λ (n : ℕ). IsSlabSector 1 n 64 in_slab.number (sector in_slab.number (get_or overfull.blocks (85 + n * 69 + 64 + 1 + in_slab.slot) zero_block)) in_slab.sequence in_slab.entries) slab in_slab.valid)
no_update at point slab (inr in_window) = none_in_nothing in_window.0 in_window.1

stores_past : (offset : ℕ) → counter_of overfull (place offset) ≡ 255 → Stores overfull (place offset) (Err (commit_of overfull (place offset)))
stores_past offset counter = record {
  points = [];
  updates = record { rising = tt; each = λ point. ((λ has. absurd (none_in_nothing point has)), (λ is. absurd (no_update (place offset) point refl is.1))) };
  counted = rw counter refl;
}

counters_are : (counter_of overfull (place 0) ≡ 255) × (counter_of overfull (place 1) ≡ 255) × (commit_of overfull (place 0) ≡ 1024)
unfolding number_at
counters_are = (refl, refl, refl)

count_fault_is : IsCountFault overfull (pbn 85) 1024
count_fault_is = record {
  place = place 0;
  inside = (omega arith, omega arith);
  stands = refl;
  leaves = subst (λ (n : ℕ). Stores overfull (place 0) (Err n)) counters_are.2 (stores_past 0 counters_are.0);
  first = λ other inside below. absurd (omega (arith, below));
}

-- first: 86 isn't the least
count_fault_is_least : ((other : DataPlace) → IsDataPlace small other → (block_of_data small other).0 < 86 → (count : ℕ) × Stores overfull other (Ok count)) → ⊥
count_fault_is_least first =
    let good = first (place 0) (omega arith, omega arith) (omega arith) in
    let same = one_stored overfull (place 0) (Ok good.0) (Err (commit_of overfull (place 0))) good.1 (stores_past 0 counters_are.0) in
    absurd (cc same)
