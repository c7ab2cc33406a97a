-- A mapping as 5 bytes, and back.
use Rattle.std.specs.Prelude.{ℕ, ◌≡◌, ◌≢◌, ◌<◌, ◌≤◌, ◌^◌, ◌+◌, List, [], ◌++◌, length, take, drop, slice_index, refl}
use Rattle.std.proofs.Common.{sym, ◌∙◌, ap, arith, length-append, append_assoc}
use Rattle.std.proofs.Math.Seq.{take-add}
use Rattle.std.proofs.lemmas.List.{take-append-drop, drop-drop}
use Rattle.blk_base.specs.declared.place.Mapping.{Mapping}
use Rattle.blk_base.specs.declared.place.Mapping.TheVariants.{Unmapped, Zero, At}
use Rattle.byte_fields.specs.Fields.{le, number_at}
use Rattle.byte_fields.specs.Mappings.{state_of, target_of, mapping_bytes, HoldsMapping}
use Rattle.byte_fields.proofs.FieldLaws.{length-le, number_behind, number_at-drop, le-number_at}

pub length-mapping : (m : Mapping) → length (mapping_bytes m) ≡ 5
unfolding mapping_bytes
length-mapping m = simp (length-append, length-le)

pub state_small : (m : Mapping) → state_of m < 2
state_small Unmapped = omega arith
state_small Zero = omega arith
state_small (At block) = omega arith

pub target_small : (m : Mapping) → HoldsMapping m → target_of m < 2 ^ 32
target_small Unmapped held = omega arith
target_small Zero held = omega arith
target_small (At block) held = held.1

-- the first byte of 5 that spell a mapping
pub state_at : (at : ℕ) (bytes : List ℕ) (m : Mapping) → take 5 (drop at bytes) ≡ mapping_bytes m → number_at 1 at bytes ≡ state_of m
unfolding mapping_bytes
state_at at bytes m spelled =
    let rest = drop 5 (drop at bytes) in
    let here : at ≡ at + 0 = omega arith in
    let small = state_small m in
    let split = sym (take-append-drop 5 (drop at bytes)) ∙ ap (λ f. f ++ rest) spelled ∙ append_assoc (le 1 (state_of m)) (le 4 (target_of m)) rest in
    ap (λ (n : ℕ). number_at 1 n bytes) here ∙ sym (number_at-drop 1 0 at bytes)
    ∙ number_behind 1 (state_of m) 0 [] (le 4 (target_of m) ++ rest) (drop at bytes) split refl (omega (arith, small))

-- and the number behind it
pub target_at : (at : ℕ) (bytes : List ℕ) (m : Mapping) → HoldsMapping m → take 5 (drop at bytes) ≡ mapping_bytes m
    → number_at 4 (at + 1) bytes ≡ target_of m
unfolding mapping_bytes
target_at at bytes m held spelled =
    let rest = drop 5 (drop at bytes) in
    let split = sym (take-append-drop 5 (drop at bytes)) ∙ ap (λ f. f ++ rest) spelled ∙ append_assoc (le 1 (state_of m)) (le 4 (target_of m)) rest in
    sym (number_at-drop 4 1 at bytes)
    ∙ number_behind 4 (target_of m) 1 (le 1 (state_of m)) rest (drop at bytes) split (length-le 1 (state_of m)) (target_small m held)

-- they spell the mapping that has both
pub spelled_by_fields : (at : ℕ) (bytes : List ℕ) (m : Mapping) → at + 5 ≤ length bytes → ((k : ℕ) → slice_index bytes k < 256)
    → state_of m ≡ number_at 1 at bytes → target_of m ≡ number_at 4 (at + 1) bytes → take 5 (drop at bytes) ≡ mapping_bytes m
unfolding mapping_bytes
spelled_by_fields at bytes m fits small state target =
    take-add 1 4 (drop at bytes)
    ∙ ap (λ f. f ++ take 4 (drop 1 (drop at bytes))) (sym (le-number_at 1 at bytes (omega arith) small) ∙ ap (le 1) (sym state))
    ∙ ap (λ b. le 1 (state_of m) ++ b) (ap (take 4) (drop-drop 1 at bytes) ∙ sym (le-number_at 4 (at + 1) bytes (omega arith) small) ∙ ap (le 4) (sym target))

-- a mapping is its state and its block
pub same_mapping : (m n : Mapping) → HoldsMapping m → HoldsMapping n → state_of m ≡ state_of n → target_of m ≡ target_of n → m ≡ n
same_mapping Unmapped Unmapped held held' state target = refl
same_mapping Zero Zero held held' state target = refl
same_mapping (At a) (At b) held held' state target = ap (λ (n : ℕ). At (record { 0 = n })) target
same_mapping _ _ held held' state target = absurd (omega arith)

pub unmapped_is : (m : Mapping) → state_of m ≡ 0 → Unmapped ≡ m
unmapped_is Unmapped state = refl
unmapped_is _ state = absurd (omega arith)

pub zero_is : (m : Mapping) → HoldsMapping m → state_of m ≢ 0 → target_of m ≡ 0 → Zero ≡ m
zero_is Unmapped held state target = absurd (state refl)
zero_is Zero held state target = refl
zero_is (At block) held state target = absurd (omega (arith, held.0))

pub at_is : (m : Mapping) (b : ℕ) → b ≢ 0 → target_of m ≡ b → At (record { 0 = b }) ≡ m
at_is (At block) b some target = ap (λ (n : ℕ). At (record { 0 = n })) (sym target)
at_is _ b some target = absurd (some (sym target))

-- one mapping is spelled by 5 bytes
pub one_mapping : (at : ℕ) (bytes : List ℕ) (m n : Mapping) → HoldsMapping m → HoldsMapping n
    → take 5 (drop at bytes) ≡ mapping_bytes m → take 5 (drop at bytes) ≡ mapping_bytes n → m ≡ n
one_mapping at bytes m n held held' spelled spelled' =
    same_mapping m n held held' (sym (state_at at bytes m spelled) ∙ state_at at bytes n spelled') (sym (target_at at bytes m held spelled) ∙ target_at at bytes n held' spelled')
