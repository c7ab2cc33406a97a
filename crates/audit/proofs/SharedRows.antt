-- An audit that ends by a shared block: a whole small image whose first tree has a leaf at the first data block, to which
-- the leaf maps its first address, too. All else is as in `DeviceRows`.
use Rattle.std.proofs.Common.{ℕ, zero, suc, ◌≡◌, ◌⊎◌, ◌/◌, ◌%◌, ◌<◌, ◌≤◌, ◌==◌, nat_lt, Bool, true, false, if◌then◌else◌, List, [], ◌∷◌, length, replicate, slice_index_or, Option, Some, None, refl, sym, ◌∙◌, ap, subst, inl, inr, arith}
use Rattle.std.proofs.Math.Nat.{mod-lt}
use Rattle.std.proofs.lemmas.Bool.{cases_eq}
use Rattle.std.proofs.lemmas.Bool.Decides.{eqb_tells}
use Rattle.std.proofs.lemmas.List.{get_or-replicate, length-replicate}
use Rattle.std.proofs.lemmas.List.Elements.{All-cons, All-replicate}
use Rattle.slab_reading.proofs.ReadRows.{zero_slab as five}
use Rattle.blk_base.specs.Regions.{IsDataBlock, Root, block_of}
use Rattle.blk_base.specs.declared.place.Mapping.{Mapping}
use Rattle.blk_base.specs.declared.place.Mapping.TheVariants.{At, Unmapped}
use Rattle.blk_base.specs.declared.place.Pbn.{Pbn}
use Rattle.blk_base.specs.Forms.{pbn}
use Rattle.blk_base.proofs.Example.{leaf}
use Rattle.disk_model.specs.Log.{Blocks, block_at}
use Rattle.disk_model.specs.Seen.{Seen}
use Rattle.disk_model.specs.Trust.{Trust, trust_of}
use Rattle.image_model.proofs.EmptyLaws.{none_kept_in_zeros, stored_zero, the_image, chosen}
use Rattle.image_model.proofs.Example.{small, head_of_leaf as leaf_head}
use Rattle.image_model.proofs.MapLaws.{guarded, page_in_range, slot_says_its_mapping}
use Rattle.image_model.proofs.ReadExample.{seen, were_read}
use Rattle.image_model.specs.Empty.{root_head}
use Rattle.image_model.specs.Faults.{IsShareFault}
use Rattle.image_model.specs.Maps.{ArePagesGood, Image, IsGoodPage, linked_at, mapping_in, mapping_of, page_at, says, target_of}
use Rattle.image_model.specs.Sound.{AreStored}
use Rattle.image_model.specs.declared.fault.ImageFault.TheVariants.{SharedPage}
use Rattle.page_codec.proofs.ReadLaws.{slots}
use Rattle.page_codec.proofs.SpellingLaws.{page_size}
use Rattle.page_codec.specs.Grammar.{AreHeld, HoldsMapping, IsSlot}
use Rattle.page_codec.specs.PageBytes.{page_bytes}
use Rattle.replay_counts.specs.Recovered.{Holds}
use Rattle.replay_counts.proofs.ReadRows.{no_entries}
use Rattle.replay_map.specs.Reads.{BlocksRead, Reading, Shows}
use Rattle.audit.proofs.DeviceRows.{counters_are, journals_are, none_told, opened_to, slab_read}
use Rattle.audit.proofs.ReadExample.{head_of}
use Rattle.audit.specs.Audits.{AuditFails}

-- what the root of a tree says in its slots: that of the first tree leads to the leaf
root_mapping : ℕ → ℕ → Mapping
root_mapping zero zero = At (pbn 85)
root_mapping zero (suc slot) = Unmapped
root_mapping (suc tree) slot = Unmapped

root_mappings : ℕ → List Mapping
root_mappings zero = At (pbn 85) ∷ replicate 811 Unmapped
root_mappings (suc tree) = replicate 812 Unmapped

-- and the leaf says the same as the first root
many : (tree : ℕ) → length (root_mappings tree) ≡ 812
unfolding root_mappings
many zero = let rest = length-replicate {A = Mapping} 811 Unmapped in omega (arith, rest)
many (suc tree) = length-replicate {A = Mapping} 812 Unmapped

one_of_them : (tree slot : ℕ) → slot < 812 → slice_index_or (root_mappings tree) slot Unmapped ≡ root_mapping tree slot
unfolding root_mapping root_mappings
one_of_them zero zero below = refl
one_of_them zero (suc slot) below = get_or-replicate 811 slot Unmapped Unmapped (omega (arith, below))
one_of_them (suc tree) slot below = get_or-replicate 812 slot Unmapped Unmapped below

data_block : IsDataBlock small 85
data_block = record { slab = 0; offset = 0; inside = (omega arith, omega arith); stands = refl }

held : (level tree : ℕ) → AreHeld small level (root_mappings tree)
unfolding root_mappings
held level zero = record {
  count = let rest = length-replicate {A = Mapping} 811 Unmapped in omega (arith, rest);
  each = All-cons (HoldsMapping small level) (At (pbn 85)) (replicate 811 Unmapped) (data_block, omega arith) (All-replicate (HoldsMapping small level) 811 Unmapped tt);
}
held level (suc tree) = record { count = length-replicate {A = Mapping} 812 Unmapped; each = All-replicate (HoldsMapping small level) 812 Unmapped tt }

root_bytes : ℕ → List ℕ
root_bytes tree = page_bytes (root_head small tree) (root_mappings tree)

leaf_bytes : List ℕ
leaf_bytes = page_bytes leaf_head (root_mappings 0)

-- The roots and the leaf are read.

readings : ℕ → List Reading
readings zero = []
readings (suc n) = record { at = pbn (block_of small (Root n)); bytes = root_bytes n } ∷ readings n

roots_read : (honest : Bool) (n : ℕ) → n ≤ 60 → BlocksRead (trust_of false honest) small seen seen (readings n)
unfolding readings root_bytes
roots_read honest zero within = refl
roots_read honest (suc n) within = (
  seen,
  roots_read honest n (omega (arith, within)),
  were_read honest (block_of small (Root n)) (root_bytes n ∷ []) (page_size (root_head small n) (root_mappings n) (many n), none_told, tt),
  omega (arith, within),
  inr (n, omega (arith, within), refl),
)

roots_shown : (blocks : Blocks) (n : ℕ) → Shows blocks (readings n) → (tree : ℕ) → tree < n → block_at blocks (block_of small (Root tree)) ≡ root_bytes tree
unfolding readings
roots_shown blocks zero shown tree below = absurd (omega (arith, below))
roots_shown blocks (suc n) shown tree below = elim (cases_eq tree n) [
  | inl same ↦ rw same shown.0
  | inr other ↦ roots_shown blocks n shown.1 tree (omega (arith, below, other))
]

abbrev all_readings : List Reading
all_readings = record { at = pbn 85; bytes = leaf_bytes } ∷ readings 60

all_read : (honest : Bool) → BlocksRead (trust_of false honest) small seen seen all_readings
unfolding leaf_bytes
all_read honest = (
  seen,
  roots_read honest 60 (omega arith),
  were_read honest 85 (leaf_bytes ∷ []) (page_size leaf_head (root_mappings 0) (many 0), none_told, tt),
  omega arith,
  inl data_block,
)

-- Where a link leads.

led : (tree slot : ℕ) (at : Pbn) → target_of (root_mapping tree slot) ≡ Some at → (tree ≡ 0) × (slot ≡ 0) × (pbn 85 ≡ at)
unfolding root_mapping
led zero zero at is = (refl, refl, cc is)
led zero (suc slot) at is = absurd (cc is)
led (suc tree) slot at is = absurd (cc is)

second_if : (b : Bool) (x at : Pbn) (mapping : Pbn → Mapping) → ◌≡◌ {A = Option Pbn} (elim (if b then Some x else None) [ Some root ↦ target_of (mapping root) | None ↦ None ]) (Some at)
    → (b ≡ true) × (target_of (mapping x) ≡ Some at)
second_if true x at mapping is = (refl, is)
second_if false x at mapping is = absurd (cc is)

is_zero : (n : ℕ) → (n == 0) ≡ true → n ≡ 0
is_zero n is = elim (eqb_tells n 0) [ inl same ↦ same.1 | inr other ↦ absurd (let no = other.0 in cc (no, is)) ]

module _ (blocks : Blocks) (shown : Shows blocks all_readings) where
  abbrev image : Image
  image = the_image small blocks

  root_slot : (tree slot : ℕ) → tree < 60 → slot < 812 → IsSlot (root_head small tree) (block_at blocks (block_of small (Root tree))) slot (root_mapping tree slot)
  unfolding root_bytes
  root_slot tree slot inside below =
      subst (IsSlot (root_head small tree) (block_at blocks (block_of small (Root tree))) slot) (one_of_them tree slot below)
      (slots (root_head small tree) (block_at blocks (block_of small (Root tree))) (root_mappings tree) slot
      (record { spelled = roots_shown blocks 60 shown.1 tree inside; held = held 1 tree }) below)

  leaf_slot : (slot : ℕ) → slot < 812 → IsSlot leaf_head (block_at blocks 85) slot (root_mapping 0 slot)
  unfolding leaf_bytes
  leaf_slot slot below =
      subst (IsSlot leaf_head (block_at blocks 85) slot) (one_of_them 0 slot below)
      (slots leaf_head (block_at blocks 85) (root_mappings 0) slot (record { spelled = shown.0; held = held 0 0 }) below)

  root_says : (tree slot : ℕ) → tree < 60 → slot < 812 → mapping_in (block_at blocks (block_of small (Root tree))) slot ≡ root_mapping tree slot
  root_says tree slot inside below = slot_says_its_mapping (root_head small tree) (block_at blocks (block_of small (Root tree))) slot (root_mapping tree slot) (root_slot tree slot inside below)

  -- the linked pages are the roots, and that leaf
  linked : (tree level index : ℕ) (at : Pbn) → page_at image (record { tree = tree; level = level; index = index }) ≡ Some at
      → ((level ≡ 1) × (index ≡ 0) × (pbn (block_of small (Root tree)) ≡ at)) ⊎ ((tree ≡ 0) × (level ≡ 0) × (index ≡ 0) × (pbn 85 ≡ at))
  linked tree zero index at there =
      let range = page_in_range image (record { tree = tree; level = 0; index = index }) at there in
      let linked_there = (guarded (nat_lt tree 60) (nat_lt 0 2) (linked_at image 1 (record { tree = tree; level = 0; index = index })) at there).2 in
      let root = second_if (index / 812 == 0) (pbn (block_of small (Root tree))) at (λ (root : Pbn). says image (record { tree = tree; level = 1; index = index / 812 }) root (index % 812)) linked_there in
      let below : index % 812 < 812 = mod-lt index (omega arith) in
      let target = subst (λ (m : Mapping). target_of m ≡ Some at) (root_says tree (index % 812) range.0 below) root.1 in
      let leads = led tree (index % 812) at target in
      let page = is_zero (index / 812) root.0 in
      let slot = leads.1 in
      inr (leads.0, refl, omega (arith, page, slot), leads.2)
  linked tree (suc zero) index at there =
      let linked_there = (guarded (nat_lt tree 60) (nat_lt 1 2) (linked_at image 0 (record { tree = tree; level = 1; index = index })) at there).2 in
      let root = chosen (index == 0) (pbn (block_of small (Root tree))) at linked_there in
      inl (refl, is_zero index root.0, root.1)
  linked tree (suc (suc level)) index at there =
      let range = page_in_range image (record { tree = tree; level = suc (suc level); index = index }) at there in
      absurd (let high = range.1 in omega (arith, high))

  good_root : (tree : ℕ) → tree < 60 → IsGoodPage image (record { tree = tree; level = 1; index = 0 }) (pbn (block_of small (Root tree)))
  good_root tree inside = record { headed = (root_slot tree 0 inside (omega arith)).headed; slots = λ slot below. inr (root_mapping tree slot, root_slot tree slot inside below) }

  good_leaf : IsGoodPage image leaf (pbn 85)
  good_leaf = record { headed = (leaf_slot 0 (omega arith)).headed; slots = λ slot below. inr (root_mapping 0 slot, leaf_slot slot below) }

  good_page : (tree level index : ℕ) (at : Pbn) → page_at image (record { tree = tree; level = level; index = index }) ≡ Some at → IsGoodPage image (record { tree = tree; level = level; index = index }) at
  good_page tree level index at there =
      let range = page_in_range image (record { tree = tree; level = level; index = index }) at there in
      elim (linked tree level index at there) [
        | inl (first, second, third) ↦
            subst (λ (x : Pbn). IsGoodPage image (record { tree = tree; level = level; index = index }) x) third
            (subst (λ (l : ℕ). IsGoodPage image (record { tree = tree; level = l; index = index }) (pbn (block_of small (Root tree)))) (sym first)
            (subst (λ (i : ℕ). IsGoodPage image (record { tree = tree; level = 1; index = i }) (pbn (block_of small (Root tree)))) (sym second) (good_root tree range.0)))
        | inr (zeroth, first, second, third) ↦
            subst (λ (x : Pbn). IsGoodPage image (record { tree = tree; level = level; index = index }) x) third
            (subst (λ (t : ℕ). IsGoodPage image (record { tree = t; level = level; index = index }) (pbn 85)) (sym zeroth)
            (subst (λ (l : ℕ). IsGoodPage image (record { tree = 0; level = l; index = index }) (pbn 85)) (sym first)
            (subst (λ (i : ℕ). IsGoodPage image (record { tree = 0; level = 0; index = i }) (pbn 85)) (sym second) good_leaf)))
      ]

  good : ArePagesGood image
  good page at there = good_page page.tree page.level page.index at there

  -- the leaf stands at block 85, to which address 0 is mapped; no other block has a leaf
  leaf_there : page_at image leaf ≡ Some (pbn 85)
  unfolding root_mapping
  leaf_there = ap target_of (root_says 0 0 (omega arith) (omega arith))

  mapped_there : mapping_of image 0 ≡ At (pbn 85)
  unfolding root_mapping
  mapped_there =
      let said : mapping_in (block_at blocks 85) 0 ≡ At (pbn 85) = slot_says_its_mapping leaf_head (block_at blocks 85) 0 (At (pbn 85)) (leaf_slot 0 (omega arith)) in
      ap (λ (o : Option Pbn). elim o [ Some at ↦ says image leaf at 0 | None ↦ Unmapped ]) leaf_there ∙ said

  at_85 : (tree level index : ℕ) (at : Pbn) → level < 1 → page_at image (record { tree = tree; level = level; index = index }) ≡ Some at → 85 ≡ at.0
  at_85 tree level index at low there = elim (linked tree level index at there) [
    | inl root ↦ (let top = root.0 in absurd (omega (arith, top, low)))
    | inr leaf ↦ ap (λ (x : Pbn). x.0) leaf.3
  ]

  shared : IsShareFault image (pbn 85)
  shared = record {
    page = (leaf, omega arith, leaf_there);
    address = 0;
    mapped = mapped_there;
    first = λ other address before (page, low, there) mapped. let is = at_85 page.tree page.level page.index other (omega (arith, low)) there in omega (arith, is, before);
  }

  stored : Holds small blocks (five ∷ []) → AreStored image
  stored holds place inside = (0, stored_zero small blocks (counters_are blocks holds) (none_kept_in_zeros small blocks (journals_are blocks holds)) place inside)

-- AuditFails, behind a window: by a shared block
shared_page : (honest : Bool) → AuditFails (trust_of false honest) seen seen (SharedPage (pbn 85))
shared_page honest = inr (inr (
  head_of true,
  no_entries,
  seen,
  opened_to honest,
  (
    all_readings,
    five ∷ [],
    record { middle = seen; pages_read = all_read honest; slabs_read = slab_read honest },
    λ blocks shown holds. (good blocks shown, stored blocks shown holds, shared blocks shown),
  ),
))

-- and by no other block
another_page_shared : (blocks : Blocks) → Shows blocks all_readings → IsShareFault (the_image small blocks) (pbn 86) → ⊥
another_page_shared blocks shown fault =
    let is = at_85 blocks shown fault.page.0.tree fault.page.0.level fault.page.0.index (pbn 86) (let low = fault.page.1 in omega (arith, low)) fault.page.2 in
    omega (arith, is)

-- nor of a device without blocks
shared_on_nothing : (trust : Trust) (now : Seen) → AuditFails trust (record seen { size = 0 }) now (SharedPage (pbn 85)) → ⊥
shared_on_nothing trust now (inl fails) = fails
shared_on_nothing trust now (inr (inl (head, middle, read, fails))) = let room = read.is.room in omega (arith, room)
shared_on_nothing trust now (inr (inr (head, window, middle, opened, fails))) = let room = opened.head_read.is.room in omega (arith, room)
