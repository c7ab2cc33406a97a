-- Mappings that are put into the slots of a page's block.
use Rattle.std.proofs.Common.{ℕ, ◌≡◌, ◌+◌, ◌-◌, ◌*◌, ◌<◌, ◌≤◌, ◌++◌, List, [], length, take, drop, true, false, Option, Some, None, IsSome, refl, sym, ◌∙◌, ap, subst, inl, inr, arith, length-append, length-take-le, length-take, length-drop}
use Rattle.std.proofs.lemmas.Bool.{cases_lt}
use Rattle.std.proofs.lemmas.List.{drop_at, drop-take, take-take, take_at}
use Rattle.std.specs.Map.Iter.{TakesFirst}
use Rattle.std.specs.Prelude.{is_some}
use Rattle.blk_base.specs.declared.place.Mapping.{Mapping}
use Rattle.blk_base.specs.declared.place.PageId.{PageId}
use Rattle.blk_base.specs.declared.sizes.TheConstants.{PAGE_SLOTS}
use Rattle.byte_fields.proofs.MappingLaws.{length-mapping}
use Rattle.byte_fields.specs.Mappings.{mapping_bytes}
use Rattle.page_codec.specs.Grammar.{slot_bytes}
use Rattle.replay_map.specs.declared.changes.SlotId.{SlotId}
use Rattle.replay_map.proofs.PutLaws.{AreOwn, ArePutBut}
use Rattle.replay_map.specs.Changes.{changed}
use Rattle.recovery_blocks.specs.Patches.{HasChange, IsPatched, IsSlotPut}

-- some of the first w bytes
within : (w off n : ℕ) (xs : List ℕ) → off + n ≤ w → take n (drop off (take w xs)) ≡ take n (drop off xs)
within w off n xs le =
    let m = w - off in
    let whole : w ≡ off + m = omega (arith, le) in
    ap (λ (k : ℕ). take n (drop off (take k xs))) whole ∙ ap (take n) (drop-take off m xs) ∙ take-take n m (drop off xs) (omega (arith, le, whole))

module _ (at : ℕ) (mapping : Mapping) (old new : List ℕ) (room : at + 5 ≤ length old) (front : take (at + 5) new ≡ take at old ++ mapping_bytes mapping)
    (rest : (k : ℕ) → at + 5 ≤ k → drop k new ≡ drop k old) where
  front_size : length (take at old) ≡ at
  front_size = length-take-le at old (omega (arith, room))

  put_here : take 5 (drop at new) ≡ mapping_bytes mapping
  put_here =
      sym (drop-take at 5 new) ∙ ap (drop at) front ∙ drop_at (take at old) (mapping_bytes mapping) at front_size

  front_kept : (off n : ℕ) → off + n ≤ at → take n (drop off new) ≡ take n (drop off old)
  front_kept off n before =
      sym (within at off n new before)
      ∙ ap (λ (xs : List ℕ). take n (drop off xs)) (sym (take-take at (at + 5) new (omega arith)) ∙ ap (take at) front ∙ take_at (take at old) (mapping_bytes mapping) at front_size)
      ∙ within at off n old before

  whole_size : length new ≡ length old
  whole_size =
      let behind = ap length (rest (at + 5) (omega arith)) in
      let left = length-drop (at + 5) new in
      let left_too = length-drop (at + 5) old in
      let start = ap length front in
      let joined = length-append (take at old) (mapping_bytes mapping) in
      let five = length-mapping mapping in
      let size = front_size in
      let cut = length-take (at + 5) new in
      omega (arith, behind, left, left_too, start, joined, five, size, cut, room)

pub slot_put : (slot : ℕ) (mapping : Mapping) (old new : List ℕ) (at : ℕ) → at ≡ 36 + 5 * slot → length old ≡ 4096 → slot < 812 → take (at + 5) new ≡ take at old ++ mapping_bytes mapping
    → ((k : ℕ) → at + 5 ≤ k → drop k new ≡ drop k old) → IsSlotPut slot mapping old new
slot_put slot mapping old new at place size below front rest =
    let room : at + 5 ≤ length old = omega (arith, place, size, below) in
    record {
      size = whole_size at mapping old new room front rest;
      head = front_kept at mapping old new room front rest 0 36 (omega (arith, place));
      put = ap (λ (k : ℕ). take 5 (drop k new)) (sym place) ∙ put_here at mapping old new room front rest;
      others = λ other inside differs. elim (cases_lt other slot) [
        | inl before ↦ front_kept at mapping old new room front rest (36 + 5 * other) 5 (omega (arith, place, before))
        | inr not_before ↦
            let behind : slot < other = omega (arith, not_before, differs) in
            ap (take 5) (rest (36 + 5 * other) (omega (arith, place, behind)))
      ];
    }

-- One slot after the other.

pub all_patched : (changes : List (SlotId × Mapping)) (page : PageId) (old new : List ℕ) → length new ≡ length old → take 36 new ≡ take 36 old
    → ArePutBut slot_bytes mapping_bytes changes page [] old new → IsPatched changes page PAGE_SLOTS old new
all_patched changes page old new size head are = record {
  size = size;
  head = head;
  put = λ slot mapping below inside is. are.put slot mapping inside refl is;
  others = λ slot inside left. are.others slot inside (left inside);
}

-- Whether the first of the changes of a page is there.

module _ {A : Type 0} (shows : A → SlotId × Mapping) (changes own left : List (SlotId × Mapping)) (page : PageId) where
  pub some_first : (first : Option A) → TakesFirst shows own first left → AreOwn changes page own → is_some first ≡ true → HasChange changes page
  some_first None taken are is = absurd (cc is)
  some_first (Some one) taken are is =
      let own_first = subst (λ (xs : List (SlotId × Mapping)). AreOwn changes page xs) taken are in
      ((shows one).0.slot, own_first.0.1, subst (λ (o : Option Mapping). IsSome o) (sym own_first.0.2) refl)

  pub none_first : (first : Option A) → TakesFirst shows own first left → ((slot : ℕ) → slot < PAGE_SLOTS → changed own page slot ≡ changed changes page slot)
      → is_some first ≡ false → HasChange changes page → ⊥
  none_first (Some one) taken each is has = absurd (cc is)
  none_first None taken each is (slot, inside, some) =
      let none : changed changes page slot ≡ None = sym (each slot inside) ∙ ap (λ (xs : List (SlotId × Mapping)). changed xs page slot) taken.0 in
      let never = subst (λ (o : Option Mapping). IsSome o) none some in
      absurd (cc never)
