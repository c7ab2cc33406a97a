-- Of numbers by slot, and of trees of these: for each clause and each case of a function a small case that it accepts, and
-- one that breaks it alone. The rows of the least number stand beside those of what is handed out; that its slot is inside
-- follows from its number, since all are missing past the last: no case breaks that alone.
use Rattle.std.proofs.Common.{ℕ, zero, suc, ◌≡◌, true, false, Option, None, Some, List, [], ◌∷◌, refl, ap, sym, arith}
use Rattle.std.proofs.lemmas.Option.{none-some}
use Rattle.dirty_pages.specs.declared.numbered.Numbered.{Numbered}
use Rattle.dirty_pages.specs.Minima.{AreNamed, IsTree, IsTreeBut, is_at_most, is_first, key_at, lesser_of, node_at, node_of, number_in, numbers_in}
use Rattle.dirty_pages.proofs.Rows.{keys}

abbrev of : ℕ → ℕ → Numbered
of number slot = record { number = number; slot = slot }

-- is_first: by the number, and with the same one by the slot
lesser_is_first : is_first (of 5 1) (of 7 0) ≡ true
lesser_is_first = refl

greater_is_not : is_first (of 7 0) (of 5 1) ≡ false
greater_is_not = refl

lower_slot_is_first : is_first (of 5 1) (of 5 2) ≡ true
lower_slot_is_first = refl

higher_slot_is_not : is_first (of 5 2) (of 5 1) ≡ false
higher_slot_is_not = refl

the_same_is_first : is_first (of 5 1) (of 5 1) ≡ true
the_same_is_first = refl

-- is_at_most: a missing number comes last
both_missing : is_at_most None None ≡ true
both_missing = refl

missing_comes_last : is_at_most None (Some (of 5 1)) ≡ false
missing_comes_last = refl

before_a_missing : is_at_most (Some (of 5 1)) None ≡ true
before_a_missing = refl

both_there : is_at_most (Some (of 7 0)) (Some (of 5 1)) ≡ false
both_there = refl

-- lesser_of
lesser_is_left : lesser_of (Some (of 5 1)) (Some (of 5 2)) ≡ Some (of 5 1)
lesser_is_left = refl

lesser_is_right : lesser_of (Some (of 7 0)) (Some (of 5 1)) ≡ Some (of 5 1)
lesser_is_right = refl

-- node_of, number_in
node_of_none : node_of 3 None ≡ None
node_of_none = refl

node_of_5 : node_of 1 (Some 5) ≡ Some (of 5 1)
node_of_5 = refl

number_in_none : number_in None ≡ None
number_in_none = refl

number_in_5 : number_in (Some (of 5 1)) ≡ Some 5
number_in_5 = refl

-- key_at
second_key : key_at keys 1 ≡ Some 5
second_key = refl

no_key_past_the_last : key_at keys 3 ≡ None
no_key_past_the_last = refl

-- a tree over four slots, of which the last has no number: its root is at 1
abbrev leaves : List (Option Numbered)
leaves = Some (of 7 0) ∷ Some (of 5 1) ∷ Some (of 5 2) ∷ None ∷ []

abbrev tree : Option Numbered → Option Numbered → List (Option Numbered)
tree root left = None ∷ root ∷ left ∷ Some (of 5 2) ∷ leaves

abbrev nodes : List (Option Numbered)
nodes = tree (Some (of 5 1)) (Some (of 5 1))

-- node_at
root : node_at nodes 1 ≡ Some (of 5 1)
root = refl

no_node_past_the_last : node_at nodes 8 ≡ None
no_node_past_the_last = refl

-- numbers_in
numbers : numbers_in 4 nodes ≡ Some 7 ∷ Some 5 ∷ Some 5 ∷ None ∷ []
numbers = refl

-- AreNamed
slot_in : Option Numbered → ℕ
slot_in None = 0
slot_in (Some one) = one.slot

are_named : AreNamed 4 nodes
unfolding slot_in
are_named zero one at = sym (ap slot_in at)
are_named (suc zero) one at = sym (ap slot_in at)
are_named (suc (suc zero)) one at = sym (ap slot_in at)
are_named (suc (suc (suc zero))) one at = absurd (none-some one at)
are_named (suc (suc (suc (suc slot)))) one at = absurd (none-some one at)

named_as_another : AreNamed 1 (None ∷ Some (of 5 1) ∷ []) → ⊥
named_as_another are = omega (arith, are 0 (of 5 1) refl)

-- IsTree: each inner node, the root too
is_tree : IsTree 4 nodes
is_tree zero some inside other = absurd (omega (arith, some))
is_tree (suc zero) some inside other = refl
is_tree (suc (suc zero)) some inside other = refl
is_tree (suc (suc (suc zero))) some inside other = refl
is_tree (suc (suc (suc (suc k)))) some inside other = absurd (omega (arith, inside))

another_slot : Some (of 5 2) ≡ Some (of 5 1) → ⊥
unfolding slot_in
another_slot same = omega (arith, ap slot_in same)

the_later_at_the_root : IsTree 4 (tree (Some (of 5 2)) (Some (of 5 1))) → ⊥
the_later_at_the_root is = another_slot (is 1 (omega arith) (omega arith) (λ (same : 1 ≡ 0). omega (arith, same)))

-- IsTreeBut: this one node may have anything, and no other
but_the_root : IsTreeBut 4 1 (tree None (Some (of 5 1)))
but_the_root zero some inside other = absurd (omega (arith, some))
but_the_root (suc zero) some inside other = absurd (other refl)
but_the_root (suc (suc zero)) some inside other = refl
but_the_root (suc (suc (suc zero))) some inside other = refl
but_the_root (suc (suc (suc (suc k)))) some inside other = absurd (omega (arith, inside))

but_the_root_alone : IsTreeBut 4 1 (tree (Some (of 5 1)) None) → ⊥
but_the_root_alone is = none-some (of 5 1) (is 2 (omega arith) (omega arith) (λ (same : 2 ≡ 1). omega (arith, same)))
