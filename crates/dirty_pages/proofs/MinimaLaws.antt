-- The tree of least numbers: a change is carried up to the root, and the root has the least of all.
use Rattle.std.specs.Prelude.{ℕ, ◌≡◌, ◌≢◌, ◌<◌, ◌≤◌, ◌+◌, ◌-◌, ◌*◌, ◌/◌, zero, suc, true, false, List, ◌⊎◌, length, map, Option, None, Some, drop, replicate, refl}
use Rattle.std.proofs.Common.{ap, ◌∙◌, sym, arith, set, inl, inr}
use Rattle.std.proofs.lemmas.List.{get_or-drop, drop-set-add, length-drop, length-map, map-set, set-get_or, get_or-set_same, get_or-set_other}
use Rattle.std.proofs.Math.ListN.{get_or-map, get_or-eq_default}
use Rattle.std.proofs.lemmas.Bool.{cases_eq, cases_lt, leb-true, le-leb}
use Rattle.std.proofs.lemmas.Bool.Decides.{eqb_tells, leb_tells}
use Rattle.dirty_pages.proofs.PageLists.{at_set, replicate_at}
use Rattle.dirty_pages.specs.declared.numbered.Numbered.{Numbered}
use Rattle.dirty_pages.specs.Minima.{is_first, is_at_most, lesser_of, node_of, number_in, key_at, IsLeast, node_at, numbers_in, AreNamed, IsTreeBut, IsTree}

-- which of two comes first
first_tells : (a b : Numbered) → is_first a b ≡ true → (a.number < b.number) ⊎ ((a.number ≡ b.number) × (a.slot ≤ b.slot))
first_tells a b is =
    elim (eqb_tells a.number b.number) [
      | inl same ↦ inr (same.1, leb-true a.slot b.slot (rw same.0 at is))
      | inr other ↦ inl (omega (arith, leb-true a.number b.number (rw other.0 at is), other.1))
    ]

first_says : (a b : Numbered) → (a.number < b.number) ⊎ ((a.number ≡ b.number) × (a.slot ≤ b.slot)) → is_first a b ≡ true
first_says a b side =
    elim (eqb_tells a.number b.number) [
      | inl same ↦ rw same.0 (le-leb a.slot b.slot (elim side [ inl below ↦ absurd (omega (arith, same.1)) | inr level ↦ level.1 ]))
      | inr other ↦ rw other.0 (le-leb a.number b.number (elim side [ inl below ↦ omega arith | inr level ↦ absurd (other.1 level.0) ]))
    ]

first_or : (a b : Numbered) → (is_first a b ≡ true) ⊎ ((is_first a b ≡ false) × (is_first b a ≡ true))
first_or a b =
    elim (eqb_tells a.number b.number) [
      | inl same ↦ elim (leb_tells a.slot b.slot) [
        | inl below ↦ inl (rw same.0 below.0)
        | inr above ↦ inr (rw same.0 above.0, first_says b a (inr (sym same.1, omega (arith, above.1))))
      ]
      | inr other ↦ elim (leb_tells a.number b.number) [
        | inl below ↦ inl (rw other.0 below.0)
        | inr above ↦ inr (rw other.0 above.0, first_says b a (inl above.1))
      ]
    ]

at_most-refl : (a : Option Numbered) → is_at_most a a ≡ true
at_most-refl None = refl
at_most-refl (Some n) = first_says n n (inr (refl, omega arith))

at_most-trans : (a b c : Option Numbered) → is_at_most a b ≡ true → is_at_most b c ≡ true → is_at_most a c ≡ true
at_most-trans None None None first second = refl
at_most-trans None None (Some c) first second = second
at_most-trans None (Some b) c first second = cc
at_most-trans (Some a) None None first second = refl
at_most-trans (Some a) None (Some c) first second = cc
at_most-trans (Some a) (Some b) None first second = refl
at_most-trans (Some a) (Some b) (Some c) first second =
    first_says a c (behind (first_tells a b first) (first_tells b c second))
  where
    behind : ((a.number < b.number) ⊎ ((a.number ≡ b.number) × (a.slot ≤ b.slot))) → ((b.number < c.number) ⊎ ((b.number ≡ c.number) × (b.slot ≤ c.slot)))
        → (a.number < c.number) ⊎ ((a.number ≡ c.number) × (a.slot ≤ c.slot))
    behind (inl below) (inl later) = inl (omega arith)
    behind (inl below) (inr level) = inl (omega (arith, level.0))
    behind (inr level) (inl later) = inl (omega (arith, level.0))
    behind (inr level) (inr same) = inr (level.0 ∙ same.0, omega (arith, level.1, same.1))

lesser-at_most_left : (a b : Option Numbered) → is_at_most (lesser_of a b) a ≡ true
lesser-at_most_left None None = refl
lesser-at_most_left None (Some b) = refl
lesser-at_most_left (Some a) None = at_most-refl (Some a)
lesser-at_most_left (Some a) (Some b) =
    elim (first_or a b) [
      | inl first ↦ rw first (at_most-refl (Some a))
      | inr other ↦ rw other.0 other.1
    ]

lesser-at_most_right : (a b : Option Numbered) → is_at_most (lesser_of a b) b ≡ true
lesser-at_most_right None None = refl
lesser-at_most_right None (Some b) = at_most-refl (Some b)
lesser-at_most_right (Some a) None = refl
lesser-at_most_right (Some a) (Some b) =
    elim (first_or a b) [
      | inl first ↦ rw first first
      | inr other ↦ rw other.0 (at_most-refl (Some b))
    ]

-- the one that comes first of two is one of them
lesser_or : (a b : Option Numbered) → (lesser_of a b ≡ a) ⊎ (lesser_of a b ≡ b)
lesser_or None None = inl refl
lesser_or None (Some b) = inr refl
lesser_or (Some a) None = inl refl
lesser_or (Some a) (Some b) = elim (first_or a b) [ inl first ↦ inl (rw first refl) | inr other ↦ inr (rw other.0 refl) ]

at_most-none : (a : Option Numbered) → is_at_most None a ≡ true → a ≡ None
at_most-none None is = refl
at_most-none (Some n) is = cc

-- a child's number is at least its parent's
child_at_most : (leaves : ℕ) (nodes : List (Option Numbered)) (parent child : ℕ) → IsTree leaves nodes → 0 < parent → parent < leaves
    → (child ≡ 2 * parent) ⊎ (child ≡ 2 * parent + 1) → is_at_most (node_at nodes parent) (node_at nodes child) ≡ true
child_at_most leaves nodes parent child tree positive inside side =
    let some : parent ≢ 0 = omega arith in
    let is = tree parent positive inside some in
    elim side [
      | inl left ↦ rw (is, left) (lesser-at_most_left (node_at nodes (2 * parent)) (node_at nodes (2 * parent + 1)))
      | inr right ↦ rw (is, right) (lesser-at_most_right (node_at nodes (2 * parent)) (node_at nodes (2 * parent + 1)))
    ]

root_up_to : (leaves : ℕ) (nodes : List (Option Numbered)) → IsTree leaves nodes → (steps k : ℕ) → k ≤ steps → 0 < k → k < 2 * leaves
    → is_at_most (node_at nodes 1) (node_at nodes k) ≡ true
root_up_to leaves nodes tree zero k bound positive inside = absurd (omega arith)
root_up_to leaves nodes tree (suc steps) k bound positive inside =
    elim (cases_eq k 1) [
      | inl same ↦ ap (λ (j : ℕ). is_at_most (node_at nodes 1) (node_at nodes j)) same ∙ at_most-refl (node_at nodes 1)
      | inr other ↦
          let side : (k ≡ 2 * (k / 2)) ⊎ (k ≡ 2 * (k / 2) + 1) = elim (cases_eq k (2 * (k / 2))) [ inl even ↦ inl even | inr odd ↦ inr (omega arith) ] in
          at_most-trans (node_at nodes 1) (node_at nodes (k / 2)) (node_at nodes k)
          (root_up_to leaves nodes tree steps (k / 2) (omega arith) (omega arith) (omega arith))
          (child_at_most leaves nodes (k / 2) k tree (omega arith) (omega arith) side)
    ]

-- what stands at a node is that of a slot below it
pub leaf_of : (leaves : ℕ) (nodes : List (Option Numbered)) (one : Numbered) → IsTree leaves nodes → length nodes ≡ 2 * leaves → (steps k : ℕ) → 2 * leaves ≤ k + steps → 0 < k
    → node_at nodes k ≡ Some one → (leaf : ℕ) × (leaves ≤ leaf) × (leaf < 2 * leaves) × (node_at nodes leaf ≡ Some one)
leaf_of leaves nodes one tree size zero k bound positive at = absurd (let none = get_or-eq_default nodes None {n = k} (omega arith) in cc)
leaf_of leaves nodes one tree size (suc steps) k bound positive at =
    elim (cases_lt k leaves) [
      | inl inner ↦
          let some : k ≢ 0 = omega arith in
          let is = tree k positive inner some in
          elim (lesser_or (node_at nodes (2 * k)) (node_at nodes (2 * k + 1))) [
            | inl left ↦ leaf_of leaves nodes one tree size steps (2 * k) (omega arith) (omega arith) (sym left ∙ sym is ∙ at)
            | inr right ↦ leaf_of leaves nodes one tree size steps (2 * k + 1) (omega arith) (omega arith) (sym right ∙ sym is ∙ at)
          ]
      | inr leaf ↦ elim (cases_lt k (2 * leaves)) [
        | inl inside ↦ (k, leaf, inside, at)
        | inr past ↦ absurd (let none = get_or-eq_default nodes None {n = k} (omega arith) in cc)
      ]
    ]

-- the number of a slot is that of its node
key_is : (leaves : ℕ) (nodes : List (Option Numbered)) (k : ℕ) → key_at (numbers_in leaves nodes) k ≡ number_in (node_at nodes (leaves + k))
key_is leaves nodes k = get_or-map number_in (drop leaves nodes) k None ∙ ap number_in (get_or-drop leaves nodes k None)

node_with : (o : Option Numbered) (n : ℕ) → number_in o ≡ Some n → (one : Numbered) × (o ≡ Some one) × (one.number ≡ n)
node_with None n is = cc
node_with (Some one) n is = (one, refl, cc)

node_without : (o : Option Numbered) → o ≡ None → number_in o ≡ None
node_without o is = ap number_in is

-- the root is before each slot with a number
root_before : (leaves : ℕ) (nodes : List (Option Numbered)) (root one : Numbered) (k : ℕ) → IsTree leaves nodes → length nodes ≡ 2 * leaves
    → node_at nodes 1 ≡ Some root → node_at nodes (leaves + k) ≡ Some one → 0 < leaves
    → (root.number < one.number) ⊎ ((root.number ≡ one.number) × (root.slot ≤ one.slot))
root_before leaves nodes root one k tree size is at some =
    elim (cases_lt (leaves + k) (2 * leaves)) [
      | inl inside ↦
          let below = root_up_to leaves nodes tree (leaves + k) (leaves + k) (omega arith) (omega arith) inside in
          first_tells root one (ap (λ (r : Option Numbered). is_at_most r (Some one)) (sym is)
          ∙ ap (λ (o : Option Numbered). is_at_most (node_at nodes 1) o) (sym at) ∙ below)
      | inr past ↦ absurd (let none = get_or-eq_default nodes None {n = leaves + k} (omega arith) in cc)
    ]

-- where the root has none, no slot has one
pub root_none : (leaves : ℕ) (nodes : List (Option Numbered)) (k : ℕ) → IsTree leaves nodes → length nodes ≡ 2 * leaves
    → node_at nodes 1 ≡ None → key_at (numbers_in leaves nodes) k ≡ None
root_none leaves nodes k tree size root =
    key_is leaves nodes k ∙ node_without (node_at nodes (leaves + k))
    (elim (cases_lt (leaves + k) (2 * leaves)) [
      | inl inside ↦
          at_most-none (node_at nodes (leaves + k)) (ap (λ (r : Option Numbered). is_at_most r (node_at nodes (leaves + k))) (sym root)
          ∙ root_up_to leaves nodes tree (leaves + k) (leaves + k) (omega arith) (omega arith) inside)
      | inr past ↦ get_or-eq_default nodes None {n = leaves + k} (omega arith)
    ])

-- the slot that the root names has the least number, and is the first with it
pub root_is_least : (leaves : ℕ) (nodes : List (Option Numbered)) (root : Numbered) → IsTree leaves nodes → length nodes ≡ 2 * leaves
    → AreNamed leaves nodes → node_at nodes 1 ≡ Some root → 0 < leaves → IsLeast (numbers_in leaves nodes) root.slot root.number
root_is_least leaves nodes root tree size named is some =
    let found = leaf_of leaves nodes root tree size (2 * leaves) 1 (omega arith) (omega arith) is in
    let place : leaves + (found.0 - leaves) ≡ found.0 = omega (arith, found.1) in
    let at : node_at nodes (leaves + (found.0 - leaves)) ≡ Some root = ap (λ (k : ℕ). node_at nodes k) place ∙ found.3 in
    let own : root.slot ≡ found.0 - leaves = named (found.0 - leaves) root (get_or-drop leaves nodes (found.0 - leaves) None ∙ at) in
    let rest = length-map (drop leaves nodes) number_in ∙ length-drop leaves nodes in
    record {
      inside = omega (arith, rest, own, found.1, found.2);
      here = ap (λ (k : ℕ). key_at (numbers_in leaves nodes) k) own ∙ key_is leaves nodes (found.0 - leaves) ∙ ap number_in at;
      least = λ k other has.
          let one = node_with (node_at nodes (leaves + k)) other (sym (key_is leaves nodes k) ∙ has) in
          elim (root_before leaves nodes root one.0 k tree size is one.1 some) [ inl below ↦ omega (arith, one.2) | inr level ↦ omega (arith, one.2, level.0) ];
      first = λ k before has.
          let one = node_with (node_at nodes (leaves + k)) root.number (sym (key_is leaves nodes k) ∙ has) in
          let slot : one.0.slot ≡ k = named k one.0 (get_or-drop leaves nodes k None ∙ one.1) in
          elim (root_before leaves nodes root one.0 k tree size is one.1 some) [ inl below ↦ absurd (omega (arith, one.2)) | inr level ↦ absurd (omega (arith, level.1, slot)) ];
    }

-- the numbers of the slots, when one of them is changed
pub slot_changed : (leaves slot leaf : ℕ) (nodes nodes' : List (Option Numbered)) (node : Option Numbered) (value : Option ℕ) → leaf ≡ leaves + slot → number_in node ≡ value
    → drop leaves nodes' ≡ drop leaves (set nodes leaf node) → numbers_in leaves nodes' ≡ set (numbers_in leaves nodes) slot value
slot_changed leaves slot leaf nodes nodes' node value is same kept =
    ap (λ (ns : List (Option Numbered)). map number_in ns) (kept ∙ ap (λ (j : ℕ). drop leaves (set nodes j node)) is ∙ drop-set-add leaves nodes slot node)
    ∙ map-set number_in (drop leaves nodes) slot node ∙ ap (λ (o : Option ℕ). set (numbers_in leaves nodes) slot o) same

numbered_in : (slot : ℕ) (value : Option ℕ) → number_in (node_of slot value) ≡ value
numbered_in slot None = refl
numbered_in slot (Some n) = refl

pub slot_numbered : (leaves slot leaf : ℕ) (nodes nodes' : List (Option Numbered)) (node : Option Numbered) (value : Option ℕ) → leaf ≡ leaves + slot → node ≡ node_of slot value
    → drop leaves nodes' ≡ drop leaves (set nodes leaf node) → numbers_in leaves nodes' ≡ set (numbers_in leaves nodes) slot value
slot_numbered leaves slot leaf nodes nodes' node value is same kept =
    slot_changed leaves slot leaf nodes nodes' node value is (ap number_in same ∙ numbered_in slot value) kept

-- and each node of a slot names it still
named_so : (slot : ℕ) (value : Option ℕ) (one : Numbered) → node_of slot value ≡ Some one → one.slot ≡ slot
named_so slot None one is = cc
named_so slot (Some n) one is = ap (λ (o : Option Numbered). slot_in o slot) (sym is)
  where
    slot_in : Option Numbered → ℕ → ℕ
    slot_in None other = other
    slot_in (Some numbered) other = numbered.slot

pub names_changed : (leaves slot leaf : ℕ) (nodes nodes' : List (Option Numbered)) (node : Option Numbered) (value : Option ℕ) → leaf ≡ leaves + slot → node ≡ node_of slot value
    → slot < length (drop leaves nodes) → AreNamed leaves nodes → drop leaves nodes' ≡ drop leaves (set nodes leaf node) → AreNamed leaves nodes'
names_changed leaves slot leaf nodes nodes' node value is same inside named kept = λ k one has.
    let whole : drop leaves nodes' ≡ set (drop leaves nodes) slot node = kept ∙ ap (λ (j : ℕ). drop leaves (set nodes j node)) is ∙ drop-set-add leaves nodes slot node in
    let here : node_at (set (drop leaves nodes) slot node) k ≡ Some one = ap (λ (ns : List (Option Numbered)). node_at ns k) (sym whole) ∙ has in
    elim (at_set (drop leaves nodes) slot k node None inside) [
      | inl own ↦ named_so slot value one (sym same ∙ sym own.1 ∙ here) ∙ sym own.0
      | inr other ↦ named k one (sym other.1 ∙ here)
    ]

-- a slot that has this number already
pub slot_same : (leaves slot : ℕ) (nodes : List (Option Numbered)) (value : Option ℕ) → number_in (node_at nodes (leaves + slot)) ≡ value
    → numbers_in leaves nodes ≡ set (numbers_in leaves nodes) slot value
slot_same leaves slot nodes value is =
    sym (ap (λ (o : Option ℕ). set (numbers_in leaves nodes) slot o) (sym is ∙ sym (key_is leaves nodes slot)) ∙ set-get_or (numbers_in leaves nodes) slot None)

-- a tree in which no node has a number
pub names_of_none : (leaves n : ℕ) → AreNamed leaves (replicate n None)
names_of_none leaves n = λ slot one has.
    absurd (let none : node_at (drop leaves (replicate n None)) slot ≡ None = get_or-drop leaves (replicate n None) slot None ∙ replicate_at n (leaves + slot) None in cc)

pub tree_of_none : (leaves n : ℕ) → IsTree leaves (replicate n None)
tree_of_none leaves n = λ k positive inside some.
    replicate_at n k None ∙ sym (ap (λ (l : Option Numbered). lesser_of l (node_at (replicate n None) (2 * k + 1))) (replicate_at n (2 * k) None) ∙ ap (λ (r : Option Numbered). lesser_of None r) (replicate_at n (2 * k + 1) None))

-- what is written to a node changes no children but those of its parent
module _ (nodes : List (Option Numbered)) (at : ℕ) (value : Option Numbered) where
  children_kept : (k : ℕ) → k ≢ at / 2
      → lesser_of (node_at nodes (2 * k)) (node_at nodes (2 * k + 1)) ≡ lesser_of (node_at (set nodes at value) (2 * k)) (node_at (set nodes at value) (2 * k + 1))
  children_kept k other =
      ap (λ (l : Option Numbered). lesser_of l (node_at nodes (2 * k + 1))) (sym (get_or-set_other nodes at (2 * k) value None (omega arith)))
      ∙ ap (λ (r : Option Numbered). lesser_of (node_at (set nodes at value) (2 * k)) r) (sym (get_or-set_other nodes at (2 * k + 1) value None (omega arith)))

  node_kept : (leaves hole k : ℕ) → IsTreeBut leaves hole nodes → 0 < k → k < leaves → k ≢ hole → k ≢ at → k ≢ at / 2
      → node_at (set nodes at value) k ≡ lesser_of (node_at (set nodes at value) (2 * k)) (node_at (set nodes at value) (2 * k + 1))
  node_kept leaves hole k tree positive inside whole differs other =
      get_or-set_other nodes at k value None differs ∙ tree k positive inside whole ∙ children_kept k other

  -- where a leaf is written, its parent is to be settled
  pub leaf_written : (leaves : ℕ) → leaves ≤ at → IsTree leaves nodes → IsTreeBut leaves (at / 2) (set nodes at value)
  leaf_written leaves leaf tree = λ k positive inside other. node_kept leaves 0 k tree positive inside (omega arith) (omega arith) other

  -- where an inner node is settled, its parent is next
  pub node_settled : (leaves : ℕ) → at < length nodes → 0 < at → IsTreeBut leaves at nodes → value ≡ lesser_of (node_at nodes (2 * at)) (node_at nodes (2 * at + 1))
      → IsTreeBut leaves (at / 2) (set nodes at value)
  node_settled leaves there positive tree is = λ k above inside other.
      elim (cases_eq k at) [
        | inl same ↦ ap (λ (j : ℕ). node_at (set nodes at value) j) same ∙ get_or-set_same nodes at value None there ∙ is
            ∙ ap (λ (j : ℕ). lesser_of (node_at nodes (2 * j)) (node_at nodes (2 * j + 1))) (sym same) ∙ children_kept k other
        | inr differs ↦ node_kept leaves at k tree above inside differs differs other
      ]
