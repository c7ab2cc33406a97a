-- Rows that pin the trees of pages: for each definition a page that it gives, and one that it doesn't.
use Rattle.std.proofs.Common.{ℕ, ◌≡◌, ◌-◌, refl, ap, arith}
use Rattle.std.specs.declared.cmp.Ordering.TheVariants.{Less, Equal, Greater}
use Rattle.blk_base.specs.Pages.{above, leaf_of, page_above, page_below, page_order, root_page, slot_of, slot_of_address}
use Rattle.blk_base.specs.declared.geometry.Geometry.{Geometry}
use Rattle.blk_base.specs.declared.place.PageId.{PageId}
use Rattle.blk_base.specs.Forms.{page}

root_is : (g : Geometry) → g.height ≡ 3 → root_page g 5 ≡ page 5 2 0
root_is g high = ap (λ (height : ℕ). page 5 (height - 1) 0) high

root_is-not_lower : (g : Geometry) → g.height ≡ 3 → root_page g 5 ≡ page 5 1 0 → ⊥
root_is-not_lower g high same = let level = ap (λ (p : PageId). p.level) same in omega (arith, level, high)

above_is : above (page 5 0 813) ≡ page 5 1 1
above_is = refl

above_is-not_first : above (page 5 0 813) ≡ page 5 1 0 → ⊥
above_is-not_first same = let index : ◌≡◌ {A = ℕ} 1 0 = ap (λ (p : PageId). p.index) same in omega (arith, index)

slot_is : slot_of (page 5 0 813) ≡ 1
slot_is = refl

slot_is-not_number : ◌≡◌ {A = ℕ} (slot_of (page 5 0 813)) 813 → ⊥
slot_is-not_number same = omega (arith, same)

below_is : page_below (page 5 1 1) 1 ≡ page 5 0 813
below_is = refl

below_is-not_slot : page_below (page 5 1 1) 1 ≡ page 5 0 1 → ⊥
below_is-not_slot same = let index : ◌≡◌ {A = ℕ} 813 1 = ap (λ (p : PageId). p.index) same in omega (arith, index)

-- address 9 of the leaf number 48787, which is number 813 of tree 7
pages_above : (page_above 2 39615053 ≡ page 7 2 0) × (page_above 1 39615053 ≡ page 7 1 1)
pages_above = (refl, refl)

pages_above-not_before : page_above 1 39560639 ≡ page_above 1 39560640 → ⊥
pages_above-not_before same = let tree : ◌≡◌ {A = ℕ} 59 0 = ap (λ (p : PageId). p.tree) same in omega (arith, tree)

leaf_is : leaf_of 39615053 ≡ page 7 0 813
leaf_is = refl

leaf_is-not_of_one_tree : leaf_of 812 ≡ page 0 0 1 → ⊥
leaf_is-not_of_one_tree same = let tree : ◌≡◌ {A = ℕ} 1 0 = ap (λ (p : PageId). p.tree) same in omega (arith, tree)

slot_in_leaf : slot_of_address 39615053 ≡ 9
slot_in_leaf = refl

slot_in_leaf-not_past : ◌≡◌ {A = ℕ} (slot_of_address 812) 812 → ⊥
slot_in_leaf-not_past same = omega (arith, same)

-- by tree first, then by level, then by index
by_tree : page_order (page 1 1 9) (page 2 0 0) ≡ Less
by_tree = refl

by_level : page_order (page 2 1 0) (page 2 0 9) ≡ Greater
by_level = refl

by_index : page_order (page 2 1 3) (page 2 1 4) ≡ Less
by_index = refl

one_page : page_order (page 2 1 3) (page 2 1 3) ≡ Equal
one_page = refl
