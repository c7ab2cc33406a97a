-- Which pages lead to an address, and which pages a zone's trees have: small cases, each of which is accepted, or breaks one
-- clause alone and is refused.
use Rattle.std.proofs.Common.{ℕ, ◌≡◌, ◌<◌, ◌/◌, [], ◌∷◌, refl, ap, inl, inr, arith}
use Rattle.std.proofs.lemmas.List.Elements.{All-cons, All-nil}
use Rattle.blk_base.proofs.Example.{small, small_is}
use Rattle.blk_base.specs.Pages.{page_above}
use Rattle.blk_base.specs.declared.place.PageId.{PageId}
use Rattle.blk_base.specs.Forms.{page}
use Rattle.block_map_tree.specs.declared.forms.Forest.{Forest}
use Rattle.block_map_tree.specs.declared.forms.Path.{Path}
use Rattle.block_map_tree.specs.Pages.{IsForest, IsInner, IsLower, IsOnPath, IsPath, IsRoot, IsTreeOf, digits_of, first_below, page_on, path_of, spelled_behind}

-- digits_of, spelled_behind

digits_are : digits_of 2 814 ≡ 1 ∷ 2 ∷ []
digits_are = refl

no_digits : digits_of 0 814 ≡ []
no_digits = refl

spelled_is : spelled_behind 0 (1 ∷ 2 ∷ []) ≡ 814
spelled_is = refl

spelled_behind_one : spelled_behind 1 (2 ∷ []) ≡ 814
spelled_behind_one = refl

-- path_of, page_on: address 9 of the leaf number 48787, which is number 813 of tree 7

path_is : path_of 3 39615053 ≡ record { tree = 7; slots = 1 ∷ 1 ∷ 9 ∷ [] }
path_is = refl

path_at_height_two : path_of 2 49532 ≡ record { tree = 1; slots = 1 ∷ 0 ∷ [] }
path_at_height_two = refl

abbrev path : Path
path = record { tree = 7; slots = 1 ∷ 1 ∷ 9 ∷ [] }

pages_on : (page_on path 3 2 ≡ page 7 2 0) × (page_on path 3 1 ≡ page 7 1 1) × (page_on path 3 0 ≡ page 7 0 813)
pages_on = (refl, refl, refl)

-- IsPath

is_path : IsPath 2 (record { tree = 59; slots = 0 ∷ 811 ∷ [] })
is_path = record { tree = omega arith; count = refl; slots = All-cons (λ (slot : ℕ). slot < 812) 0 (811 ∷ []) (omega arith) (All-cons (λ (slot : ℕ). slot < 812) 811 [] (omega arith) (All-nil (λ (slot : ℕ). slot < 812))) }

path_of_no_tree : IsPath 2 (record { tree = 60; slots = 0 ∷ 811 ∷ [] }) → ⊥
path_of_no_tree is = omega (arith, is.tree)

path_too_short : IsPath 3 (record { tree = 59; slots = 0 ∷ 811 ∷ [] }) → ⊥
path_too_short is = omega (arith, is.count)

path_past_the_last_slot : IsPath 2 (record { tree = 59; slots = 0 ∷ 812 ∷ [] }) → ⊥
path_past_the_last_slot is = omega (arith, is.slots 1 0 (omega arith))

-- first_below: of the leaves, which go round the 60 trees, and of the pages above them

second_leaf : first_below (page 1 0 0) ≡ 812
second_leaf = refl

leaf_of_the_next_round : first_below (page 1 0 1) ≡ 49532
leaf_of_the_next_round = refl

second_page_above : first_below (page 0 1 1) ≡ 39560640
second_page_above = refl

-- the page leads to that address, and not to the one before
leads_there : page_above 1 39560640 ≡ page 0 1 1
leads_there = refl

one_before : page_above 1 39560639 ≡ page 59 1 0
one_before = refl

-- IsForest: the default sizes, and the last of 60 zones

abbrev zone_of : ℕ → ℕ → Forest
zone_of zone zones = record { geometry = small; zone = zone; zones = zones }

last_zone : IsForest (zone_of 59 60)
last_zone = record { sizes = small_is; zone = omega arith; zones = omega arith }

of_no_height : IsForest (record { geometry = record small { height = 1 }; zone = 0; zones = 1 }) → ⊥
of_no_height is = omega (arith, is.sizes.height.0)

zone_past_the_last : IsForest (zone_of 60 60) → ⊥
zone_past_the_last is = omega (arith, is.zone)

too_many_zones : IsForest (zone_of 0 61) → ⊥
too_many_zones is = omega (arith, is.zones)

-- IsTreeOf: of seven zones

tree_of_zone : IsTreeOf (zone_of 2 7) 58
tree_of_zone = record { inside = omega arith; own = refl }

tree_of_the_next_zone : IsTreeOf (zone_of 2 7) 59 → ⊥
tree_of_the_next_zone is = omega (arith, is.own)

tree_past_the_last : IsTreeOf (zone_of 4 7) 60 → ⊥
tree_past_the_last is = omega (arith, is.inside)

-- IsOnPath: the logical size is 1000, so that addresses are in the first leaves of the trees 0 and 1

on_path : IsOnPath (zone_of 1 60) (page 1 0 0)
on_path = record { address = 999; inside = omega arith; level = omega arith; there = refl; tree = record { inside = omega arith; own = refl } }

root_on_path : IsOnPath (zone_of 0 60) (page 0 1 0)
root_on_path = record { address = 0; inside = omega arith; level = omega arith; there = refl; tree = record { inside = omega arith; own = refl } }

-- inside: with a logical size of 812 the leaf of that address isn't
leaf_past_the_size : IsOnPath (record { geometry = record small { logical = 812 }; zone = 1; zones = 60 }) (page 1 0 0) → ⊥
leaf_past_the_size is = omega (arith, is.inside, ap (λ (q : PageId). q.tree) is.there)

-- level
above_the_root : IsOnPath (zone_of 0 60) (page 0 2 0) → ⊥
above_the_root is = omega (arith, is.level)

-- there
beside_the_path : IsOnPath (zone_of 0 60) (page 0 0 1) → ⊥
beside_the_path is = let index : 1 ≡ is.address / 812 / 60 / 1 = ap (λ (q : PageId). q.index) is.there in omega (arith, is.inside, index)

-- tree
of_another_zone : IsOnPath (zone_of 1 60) (page 0 0 0) → ⊥
of_another_zone is = omega (arith, is.tree.own)

-- IsRoot

is_root : IsRoot (zone_of 0 60) (page 0 1 0)
is_root = record { tree = record { inside = omega arith; own = refl }; level = refl; index = refl }

root_of_another_zone : IsRoot (zone_of 0 60) (page 1 1 0) → ⊥
root_of_another_zone is = omega (arith, is.tree.own)

leaf_as_root : IsRoot (zone_of 0 60) (page 0 0 0) → ⊥
leaf_as_root is = omega (arith, is.level)

second_root : IsRoot (zone_of 0 60) (page 0 1 1) → ⊥
second_root is = omega (arith, is.index)

-- IsLower: a root leads to 812 leaves

is_lower : IsLower (zone_of 0 60) (page 0 0 811)
is_lower = record { tree = record { inside = omega arith; own = refl }; level = omega arith; index = omega arith }

leaf_of_another_zone : IsLower (zone_of 0 60) (page 1 0 811) → ⊥
leaf_of_another_zone is = omega (arith, is.tree.own)

root_as_lower : IsLower (zone_of 0 60) (page 0 1 0) → ⊥
root_as_lower is = omega (arith, is.level)

leaf_past_the_last : IsLower (zone_of 0 60) (page 0 0 812) → ⊥
leaf_past_the_last is = omega (arith, is.index)

-- IsInner: the root; at height 3 each page of the level below, too

root_is_inner : IsInner (zone_of 0 60) (page 0 1 0)
root_is_inner = record { level = omega arith; there = inl is_root }

last_is_inner : IsInner (record { geometry = record small { height = 3 }; zone = 0; zones = 60 }) (page 0 1 811)
last_is_inner = record { level = omega arith; there = inr (record { tree = record { inside = omega arith; own = refl }; level = omega arith; index = omega arith }) }

leaf_as_inner : IsInner (zone_of 0 60) (page 0 0 0) → ⊥
leaf_as_inner is = omega (arith, is.level)

second_root_as_inner : IsInner (zone_of 0 60) (page 0 1 1) → ⊥
second_root_as_inner is = elim is.there [ inl root ↦ second_root root | inr lower ↦ omega (arith, lower.level) ]
