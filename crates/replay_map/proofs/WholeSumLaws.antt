-- All trees together map to a block as often as the addresses do.
use Rattle.std.proofs.Common.{ℕ, zero, suc, ◌≡◌, ◌+◌, ◌-◌, ◌*◌, ◌/◌, ◌%◌, ◌^◌, ◌<◌, ◌≤◌, refl, sym, ◌∙◌, ap, ap₂, arith}
use Rattle.std.proofs.Math.Nat.{pow-succ'}
use Rattle.blk_base.specs.declared.geometry.Geometry.{Geometry}
use Rattle.blk_base.specs.declared.place.Mapping.{Mapping}
use Rattle.blk_base.specs.declared.place.PageId.{PageId}
use Rattle.blk_base.specs.declared.place.Pbn.{Pbn}
use Rattle.blk_base.specs.declared.sizes.TheConstants.{PAGE_SLOTS, TREES}
use Rattle.blk_base.specs.Pages.{root_page, leaf_of, slot_of_address}
use Rattle.image_model.specs.Counts.{leads_to, mapped_below}
use Rattle.image_model.specs.Maps.{Image, mapping_of, slot_in}
use Rattle.image_model.specs.Pages.{address_count}
use Rattle.plain_laws.specs.Sums.{bit}
use Rattle.replay_map.proofs.SumLaws.{mapped_sum, sum_more, sum_none, sum_rows, sum_same, sum_swap}
use Rattle.replay_map.proofs.UnderLaws.{page_is}
use Rattle.replay_map.specs.Sums.{maps_in_trees, maps_under, sum_below}

-- a page has 812 times as many leaves below it as one of the level below
pub one_level : (n : ℕ) → PAGE_SLOTS ^ suc n ≡ PAGE_SLOTS * PAGE_SLOTS ^ n
one_level n = pow-succ' PAGE_SLOTS n

pub count_is : (g : Geometry) → address_count g ≡ TREES * PAGE_SLOTS ^ g.height
unfolding address_count
count_is g = refl

pub count_by_leaves : (g : Geometry) → 1 ≤ g.height → address_count g ≡ PAGE_SLOTS ^ (g.height - 1) * TREES * PAGE_SLOTS
count_by_leaves g some =
    let levels : g.height ≡ suc (g.height - 1) = omega (arith, some) in
    let count = count_is g in
    let whole = ap (λ (n : ℕ). PAGE_SLOTS ^ n) levels ∙ one_level (g.height - 1) in
    omega (arith, count, whole)

module _ (image : Image) (block : Pbn) where
  leaf : ℕ → ℕ → PageId
  leaf tree index = record { tree = tree; level = 0; index = index }

  -- how many slots of a leaf map to the block, and how many addresses, which are one or none
  abbrev of_leaf : ℕ → ℕ → ℕ
  of_leaf tree index = maps_under image block 0 (record { tree = tree; level = 0; index = index })

  abbrev of_address : ℕ → ℕ
  of_address address = bit (leads_to block (mapping_of image address))

  -- the leaves below a page stand side by side
  under_sum : (tree levels level index : ℕ) → level ≡ levels
      → maps_under image block levels (record { tree = tree; level = level; index = index })
      ≡ sum_below (λ i. of_leaf tree (index * PAGE_SLOTS ^ levels + i)) (PAGE_SLOTS ^ levels)
  under_sum tree zero level index none =
      let one : PAGE_SLOTS ^ 0 ≡ 1 = refl in
      let first : index * PAGE_SLOTS ^ 0 + 0 ≡ index = omega (arith, one) in
      let more = sum_more (λ i. of_leaf tree (index * PAGE_SLOTS ^ 0 + i)) 0 in
      let nothing = sum_none (λ i. of_leaf tree (index * PAGE_SLOTS ^ 0 + i)) in
      let whole = ap (λ (n : ℕ). sum_below (λ i. of_leaf tree (index * PAGE_SLOTS ^ 0 + i)) n) one in
      let own = ap (λ (i : ℕ). of_leaf tree i) first in
      let here = ap (λ (l : ℕ). maps_under image block 0 (record { tree = tree; level = l; index = index })) none in
      omega (arith, more, nothing, whole, own, here)
  under_sum tree (suc n) level index high =
      let size = one_level n in
      let each = sum_same
      (λ slot. maps_under image block n (record { tree = tree; level = level - 1; index = index * PAGE_SLOTS + slot }))
      (λ slot. sum_below (λ i. of_leaf tree (index * PAGE_SLOTS ^ suc n + (slot * PAGE_SLOTS ^ n + i))) (PAGE_SLOTS ^ n))
      PAGE_SLOTS
      (λ slot inside.
      under_sum tree n (level - 1) (index * PAGE_SLOTS + slot) (omega (arith, high))
      ∙ sum_same
      (λ i. of_leaf tree ((index * PAGE_SLOTS + slot) * PAGE_SLOTS ^ n + i))
      (λ i. of_leaf tree (index * PAGE_SLOTS ^ suc n + (slot * PAGE_SLOTS ^ n + i)))
      (PAGE_SLOTS ^ n)
      (λ i below. ap (λ (k : ℕ). of_leaf tree k) (let rows = ap (λ (s : ℕ). index * s) size in omega (arith, rows)))) in
      let rows = sum_rows (λ k. of_leaf tree (index * PAGE_SLOTS ^ suc n + k)) PAGE_SLOTS (PAGE_SLOTS ^ n) in
      let whole = ap (λ (k : ℕ). sum_below (λ i. of_leaf tree (index * PAGE_SLOTS ^ suc n + i)) k) size in
      each ∙ rows ∙ sym whole

  -- a slot of a leaf is that of an address
  slot_is : (tree index slot : ℕ) → tree < TREES → slot < PAGE_SLOTS → slot_in image (record { tree = tree; level = 0; index = index }) slot ≡ mapping_of image ((index * TREES + tree) * PAGE_SLOTS + slot)
  slot_is tree index slot few inside =
      let address : ℕ = (index * TREES + tree) * PAGE_SLOTS + slot in
      let row : address / PAGE_SLOTS ≡ index * TREES + tree = omega (arith, inside) in
      let same_tree : address / PAGE_SLOTS % TREES ≡ tree = omega (arith, row, few) in
      let same_index : address / PAGE_SLOTS / TREES / PAGE_SLOTS ^ 0 ≡ index = omega (arith, row, few) in
      let same : leaf_of address ≡ record { tree = tree; level = 0; index = index } = page_is (leaf_of address) (record { tree = tree; level = 0; index = index }) same_tree refl same_index in
      let number : slot_of_address address ≡ slot = omega (arith, inside) in
      sym (ap₂ (λ (page : PageId) (s : ℕ). slot_in image page s) same number)

  leaf_sum : (tree index : ℕ) → tree < TREES → of_leaf tree index ≡ sum_below (λ slot. of_address ((index * TREES + tree) * PAGE_SLOTS + slot)) PAGE_SLOTS
  leaf_sum tree index few =
      mapped_sum (slot_in image (record { tree = tree; level = 0; index = index })) block PAGE_SLOTS
      ∙ sum_same (λ slot. bit (leads_to block (slot_in image (record { tree = tree; level = 0; index = index }) slot)))
      (λ slot. of_address ((index * TREES + tree) * PAGE_SLOTS + slot)) PAGE_SLOTS
      (λ slot inside. ap (λ (m : Mapping). bit (leads_to block m)) (slot_is tree index slot few inside))

  -- of an address after address
  abbrev of_row : ℕ → ℕ
  of_row row = sum_below (λ slot. of_address (row * PAGE_SLOTS + slot)) PAGE_SLOTS

  trees_sum : (levels : ℕ) → sum_below (λ tree. sum_below (λ i. of_leaf tree i) (PAGE_SLOTS ^ levels)) TREES ≡ sum_below of_address (PAGE_SLOTS ^ levels * TREES * PAGE_SLOTS)
  trees_sum levels =
      sum_swap of_leaf TREES (PAGE_SLOTS ^ levels)
      ∙ sum_same (λ i. sum_below (λ tree. of_leaf tree i) TREES) (λ i. sum_below (λ tree. of_row (i * TREES + tree)) TREES) (PAGE_SLOTS ^ levels)
      (λ i below. sum_same (λ tree. of_leaf tree i) (λ tree. of_row (i * TREES + tree)) TREES (λ tree few. leaf_sum tree i few))
      ∙ sum_rows of_row (PAGE_SLOTS ^ levels) TREES
      ∙ sum_rows of_address (PAGE_SLOTS ^ levels * TREES) PAGE_SLOTS

  pub all_trees : 1 ≤ image.geometry.height → maps_in_trees image TREES block ≡ mapped_below (mapping_of image) block (address_count image.geometry)
  all_trees some =
      let levels : ℕ = image.geometry.height - 1 in
      sum_same (λ tree. maps_under image block levels (root_page image.geometry tree)) (λ tree. sum_below (λ i. of_leaf tree i) (PAGE_SLOTS ^ levels)) TREES
      (λ tree few.
      under_sum tree levels levels 0 refl
      ∙ sum_same (λ i. of_leaf tree (0 * PAGE_SLOTS ^ levels + i)) (λ i. of_leaf tree i) (PAGE_SLOTS ^ levels) (λ i below. ap (λ (k : ℕ). of_leaf tree k) (omega arith)))
      ∙ trees_sum levels
      ∙ ap (λ (n : ℕ). sum_below of_address n) (sym (count_by_leaves image.geometry some))
      ∙ sym (mapped_sum (mapping_of image) block (address_count image.geometry))
