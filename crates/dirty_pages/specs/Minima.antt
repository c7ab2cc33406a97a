-- Numbers by slot, some of them missing, and the least of them.
use Rattle.std.specs.Prelude.{ℕ, ◌≡◌, ◌≢◌, ◌<◌, ◌≤◌, ◌+◌, ◌*◌, ◌==◌, Bool, true, false, cond, List, length, drop, map, Option, None, Some, slice_index_or, nat_le}
use Rattle.dirty_pages.specs.declared.numbered.Numbered.{Numbered}

-- whether the one comes first: it has the lesser number, or the same one in a slot that isn't greater
abbrev pub is_first : Numbered → Numbered → Bool
is_first one other = cond (one.number == other.number) (nat_le one.slot other.slot) (nat_le one.number other.number)

-- whether the one comes first or is the same; a missing number comes behind all others
abbrev pub is_at_most : Option Numbered → Option Numbered → Bool
is_at_most None None = true
is_at_most None (Some other) = false
is_at_most (Some one) None = true
is_at_most (Some one) (Some other) = is_first one other

-- the one of two that comes first
abbrev pub lesser_of : Option Numbered → Option Numbered → Option Numbered
lesser_of left right = cond (is_at_most left right) left right

-- a slot with its number, if it has one; and the number alone
abbrev pub node_of : ℕ → Option ℕ → Option Numbered
node_of slot None = None
node_of slot (Some number) = Some (record { number = number; slot = slot })

abbrev pub number_in : Option Numbered → Option ℕ
number_in None = None
number_in (Some one) = Some one.number

-- the number of a slot; missing past the last
abbrev pub key_at : List (Option ℕ) → ℕ → Option ℕ
key_at keys slot = slice_index_or keys slot None

-- this slot has this number, and it is the least of all; no slot before it has the same
pub record IsLeast (keys : List (Option ℕ)) (slot number : ℕ) : Type 0 where
  pub inside : slot < length keys
  pub here : key_at keys slot ≡ Some number
  pub least : (k other : ℕ) → key_at keys k ≡ Some other → number ≤ other
  pub first : (k : ℕ) → k < slot → key_at keys k ≢ Some number

-- what stands at a node; nothing past the last
abbrev pub node_at : List (Option Numbered) → ℕ → Option Numbered
node_at nodes k = slice_index_or nodes k None

-- the numbers of the slots, which are the nodes from so many on
abbrev pub numbers_in : ℕ → List (Option Numbered) → List (Option ℕ)
numbers_in leaves nodes = map number_in (drop leaves nodes)

-- each slot's node names that slot
abbrev pub AreNamed : ℕ → List (Option Numbered) → Type 0
AreNamed leaves nodes = (slot : ℕ) (one : Numbered) → node_at (drop leaves nodes) slot ≡ Some one → one.slot ≡ slot

-- Numbers in a tree as deep as their logarithm: the root is at 1, the children of an inner node `k` are at 2k and 2k + 1,
-- and each inner node but perhaps this one has that of its children which comes first.
abbrev pub IsTreeBut : ℕ → ℕ → List (Option Numbered) → Type 0
IsTreeBut leaves hole nodes =
    (k : ℕ) → 0 < k → k < leaves → k ≢ hole → node_at nodes k ≡ lesser_of (node_at nodes (2 * k)) (node_at nodes (2 * k + 1))

-- each inner node has that of its children which comes first
abbrev pub IsTree : ℕ → List (Option Numbered) → Type 0
IsTree leaves nodes = IsTreeBut leaves 0 nodes
