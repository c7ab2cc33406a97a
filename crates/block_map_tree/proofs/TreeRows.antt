-- Whole trees of the default sizes at height 3, each of which is accepted, or breaks one clause alone and is refused: what
-- a tree is, what is found in one, and what each call leaves of one.
use Rattle.std.proofs.Common.{ℕ, zero, suc, ◌≡◌, ◌<◌, ◌≤◌, ◌/◌, ◌^◌, ◌+◌, ◌*◌, None, Some, List, [], ◌∷◌, slice_index_or, refl, ap, sym, subst, inl, inr, arith}
use Rattle.std.proofs.lemmas.Bool.{cases_lt}
use Rattle.std.proofs.lemmas.Bool.Decides.{eqb_tells}
use Rattle.std.proofs.lemmas.List.{get_or-replicate, length-replicate}
use Rattle.std.proofs.lemmas.List.Elements.{All-cons, All-head, All-nil, All-replicate}
use Rattle.std.proofs.lemmas.Option.{none-some}
use Rattle.blk_base.proofs.Example.{small, leaf, root as inner, others, number_of_point}
use Rattle.blk_base.specs.Limits.{IsGeometry}
use Rattle.blk_base.specs.Regions.{IsDataBlock, Root, block_of}
use Rattle.blk_base.specs.declared.geometry.Geometry.{Geometry}
use Rattle.blk_base.specs.declared.place.Mapping.{Mapping}
use Rattle.blk_base.specs.declared.place.Mapping.TheVariants.{At, Unmapped, Zero}
use Rattle.blk_base.specs.declared.place.PageId.{PageId}
use Rattle.blk_base.specs.declared.place.Pbn.{Pbn}
use Rattle.blk_base.specs.declared.point.Point.{Point}
use Rattle.blk_base.specs.Forms.{point as p, pbn as b}
use Rattle.dirty_pages.specs.DirtyPoints.{HasPoint, IsDue, changed_at, clean, dirty_points_at}
use Rattle.dirty_pages.specs.declared.dirty_points.DirtyPoints.{DirtyPoints}
use Rattle.dirty_pages.proofs.Rows.{out}
use Rattle.page_codec.specs.Grammar.{AreHeld, HoldsMapping}
use Rattle.page_codec.specs.declared.forms.MapPage.{MapPage}
use Rattle.block_map_tree.specs.declared.forms.Forest.{Forest}
use Rattle.block_map_tree.specs.declared.forms.Found.TheVariants.{Leaf, Missing}
use Rattle.block_map_tree.specs.declared.forms.Path.{Path}
use Rattle.block_map_tree.specs.Pages.{IsInner, IsLower, IsOnPath, IsRoot, IsTreeOf, page_on}
use Rattle.block_map_tree.specs.Tree.{Expires, IsAt, IsFound, IsLinkable, IsThere, IsTree, IsWriting, Links, Tree, Writes, as_root, by_link, mapping_of, mappings_of, dirty_points_of, most_rows, number_of, row_of, trees_of, with_change, with_mapping}

abbrev pub tall : Geometry
tall = record small { height = 3 }

pub tall_is : IsGeometry tall
tall_is = record {
  height = (omega arith, omega arith);
  nonce = omega arith;
  logical = (omega arith, omega arith);
  slabs = (omega arith, omega arith);
  slab_blocks = (omega arith, omega arith);
  journal = (omega arith, omega arith);
  index = (omega arith, omega arith, refl);
  slab_journal = (omega arith, omega arith);
}

-- the zone of the first of 60 trees of an image
abbrev pub first_zone : Geometry → Forest
first_zone g = record { geometry = g; zone = 0; zones = 60 }

-- of a tall one: its root, the page below it and the leaf below that, each of slot 0
abbrev pub forest : Forest
forest = first_zone tall

abbrev pub root : PageId
root = record { tree = 0; level = 2; index = 0 }

pub own : (g : Geometry) → IsTreeOf (first_zone g) 0
own g = record { inside = omega arith; own = refl }

pub is_root : IsRoot forest root
is_root = record { tree = own tall; level = refl; index = refl }

pub inner_below : IsLower forest inner
inner_below = record { tree = own tall; level = omega arith; index = omega arith }

pub leaf_below : IsLower forest leaf
leaf_below = record { tree = own tall; level = omega arith; index = omega arith }

pub inner_is : IsInner forest inner
inner_is = record { level = omega arith; there = inr inner_below }

-- trees_of, row_of, number_of, most_rows: of seven zones the first four have nine trees

trees_are : (trees_of forest ≡ 1) × (trees_of (record forest { zone = 3; zones = 7 }) ≡ 9) × (trees_of (record forest { zone = 4; zones = 7 }) ≡ 8)
trees_are = (refl, refl, refl)

rows_are : (row_of forest root ≡ 0) × (row_of forest inner ≡ 1) × (row_of forest (record inner { index = 811 }) ≡ 812)
rows_are = (refl, refl, refl)

numbers_are : (number_of (record forest { zone = 3; zones = 7 }) (record root { tree = 59 }) ≡ 8) × (number_of (record forest { zone = 3; zones = 7 }) (record inner { tree = 3; index = 1 }) ≡ 18)
numbers_are = (refl, refl)

rows_of_height : (most_rows 2 ≡ 1) × (most_rows 3 ≡ 813)
rows_of_height = (refl, refl)

-- The trees: the root and the page below it, of each its first slot and its dirty points.

pub none_behind : (k : ℕ) → k < 810 → slice_index_or others k Unmapped ≡ Unmapped
unfolding others
none_behind k below = get_or-replicate 810 k Unmapped Unmapped below

pub held : (level : ℕ) (first : Mapping) → HoldsMapping tall level first → AreHeld tall level (first ∷ Unmapped ∷ others)
unfolding others
held level first is = record {
  count = let rest = length-replicate {A = Mapping} 810 Unmapped in omega (arith, rest);
  each = All-cons (HoldsMapping tall level) first (Unmapped ∷ others) is
      (All-cons (HoldsMapping tall level) Unmapped others tt (All-replicate (HoldsMapping tall level) 810 Unmapped tt));
}

pub held_at : (offset : ℕ) → offset < 64 → IsDataBlock tall (85 + offset) × (85 + offset < 2 ^ 32)
held_at offset below = (record { slab = 0; offset = offset; inside = (omega arith, below); stands = omega arith }, omega (arith, below))

abbrev pub page_with : Mapping → List Mapping
page_with first = first ∷ Unmapped ∷ others

abbrev pub tree_of : Mapping → Mapping → DirtyPoints → DirtyPoints → Tree
tree_of first second one two = record { forest = forest; pages = page_with first ∷ page_with second ∷ []; dirty_points = one ∷ two ∷ [] }

abbrev pub linked : Tree
linked = tree_of (At (b 87)) (At (b 90)) clean clean

-- without a link to the leaf, and without the one to the page above it
abbrev pub half : Tree
half = tree_of (At (b 87)) Unmapped clean clean

abbrev pub bare : Tree
bare = tree_of Unmapped Unmapped clean clean

-- mappings_of, mapping_of, dirty_points_of, with_change, with_mapping

says_its_slots : (mappings_of linked inner ≡ page_with (At (b 90))) × (mapping_of linked root 0 ≡ At (b 87)) × (mapping_of linked root 1 ≡ Unmapped)
says_its_slots = (refl, refl, refl)

abbrev pub dirty : DirtyPoints
dirty = changed_at (p 5) clean

has_its_dirty_points : dirty_points_of (tree_of (At (b 87)) (At (b 90)) clean dirty) inner ≡ dirty
has_its_dirty_points = refl

is_changed : with_change linked inner (changed_at (p 5)) ≡ tree_of (At (b 87)) (At (b 90)) clean dirty
is_changed = refl

is_mapped : with_mapping half inner 0 (At (b 90)) ≡ linked
is_mapped = refl

-- IsAt: a root at its place, and a page below at the block to which it is linked

pub root_at : IsAt linked root (b 9)
root_at = as_root is_root refl

pub inner_at : (second : Mapping) (one two : DirtyPoints) → IsAt (tree_of (At (b 87)) second one two) inner (b 87)
inner_at second one two = by_link inner_below refl

pub leaf_at : IsAt linked leaf (b 90)
leaf_at = by_link leaf_below refl

block_in : Mapping → ℕ
block_in (At x) = x.0
block_in other = 0

root_elsewhere : IsAt linked root (b 10) → ⊥
root_elsewhere (as_root is at) = omega (arith, at)
root_elsewhere (by_link lower leads) = omega (arith, lower.level)

leaf_elsewhere : IsAt linked leaf (b 91) → ⊥
unfolding block_in
leaf_elsewhere (as_root is at) = omega (arith, is.level)
leaf_elsewhere (by_link lower leads) = let same : ◌≡◌ {A = Mapping} (At (b 90)) (At (b 91)) = leads in omega (arith, ap block_in same)

root_of_another_zone : (at : Pbn) → IsAt linked (record root { tree = 1 }) at → ⊥
root_of_another_zone at (as_root is here) = omega (arith, is.tree.own)
root_of_another_zone at (by_link lower leads) = omega (arith, lower.level)

-- IsThere

there : IsThere linked leaf
there = record { at = b 90; stands = leaf_at }

pub leaf_missing : IsThere half leaf → ⊥
leaf_missing is = never is.at is.stands
  where
    never : (at : Pbn) → IsAt half leaf at → ⊥
    never at (as_root is' here) = omega (arith, is'.level)
    never at (by_link lower leads) = let none : ◌≡◌ {A = Mapping} Unmapped (At at) = leads in cc none

pub inner_missing : (second : Mapping) (one two : DirtyPoints) → IsThere (tree_of Unmapped second one two) inner → ⊥
inner_missing second one two is = never is.at is.stands
  where
    never : (at : Pbn) → IsAt (tree_of Unmapped second one two) inner at → ⊥
    never at (as_root is' here) = omega (arith, is'.level)
    never at (by_link lower leads) = let none : ◌≡◌ {A = Mapping} Unmapped (At at) = leads in cc none

-- IsFound: the path of address 0

abbrev path : Path
path = record { tree = 0; slots = 0 ∷ 0 ∷ 0 ∷ [] }

found : IsFound linked path (Leaf (b 90))
found = (leaf_at, λ level below. each level below)
  where
    each : (level : ℕ) → level < 3 → IsThere linked (page_on path 3 level)
    each zero below = there
    each (suc zero) below = record { at = b 87; stands = inner_at (At (b 90)) clean clean }
    each (suc (suc zero)) below = record { at = b 9; stands = root_at }
    each (suc (suc (suc k))) below = absurd (omega (arith, below))

found_elsewhere : IsFound linked path (Leaf (b 91)) → ⊥
found_elsewhere found = leaf_elsewhere found.0

found_without_its_path : (at : Pbn) → IsFound (tree_of Unmapped (At (b 90)) clean clean) path (Leaf at) → ⊥
found_without_its_path at found = inner_missing (At (b 90)) clean clean (found.1 1 (omega arith))

misses_the_leaf : IsFound half path (Missing 0)
misses_the_leaf = (omega arith, leaf_missing, λ level above below. each level above below)
  where
    each : (level : ℕ) → 0 < level → level < 3 → IsThere half (page_on path 3 level)
    each zero above below = absurd (omega (arith, above))
    each (suc zero) above below = record { at = b 87; stands = inner_at Unmapped clean clean }
    each (suc (suc zero)) above below = record { at = b 9; stands = as_root is_root refl }
    each (suc (suc (suc k))) above below = absurd (omega (arith, below))

misses_one_that_is_there : IsFound linked path (Missing 0) → ⊥
misses_one_that_is_there found = found.1 there

misses_a_lower_one_first : IsFound bare path (Missing 0) → ⊥
misses_a_lower_one_first found = inner_missing Unmapped clean clean (found.2 1 (omega arith) (omega arith))

misses_one_above_the_root : IsFound half path (Missing 3) → ⊥
misses_one_above_the_root found = omega (arith, found.0)

-- IsTree

pub is_tree : (first second : Mapping) (one two : DirtyPoints) → HoldsMapping tall 1 first → HoldsMapping tall 1 second
    → ((point : Point) → HasPoint two point → (at : Pbn) × (first ≡ At at)) → IsTree (tree_of first second one two)
is_tree first second one two holds_first holds_second led = record {
  forest = record { sizes = tall_is; zone = omega arith; zones = omega arith };
  room = λ page on above. room_for page on above;
  most = omega arith;
  held = All-cons (AreHeld tall 1) (page_with first) (page_with second ∷ []) (held 1 first holds_first)
      (All-cons (AreHeld tall 1) (page_with second) [] (held 1 second holds_second) (All-nil (AreHeld tall 1)));
  dirty_points = refl;
  there = λ page point is has. elim is.there [
    | inl top ↦ record { at = b (block_of tall (Root page.tree)); stands = as_root top refl }
    | inr lower ↦ lower_there page.tree page.level page.index point is.level lower has
  ];
}
  where
    room_for : (page : PageId) → IsOnPath forest page → 1 ≤ page.level → number_of forest page < 2
    room_for page on above = elim (eqb_tells (page.level + 1) 3) [
      | inl same ↦ (let tree = on.tree.inside in rw same.0 (omega (arith, tree)))
      | inr other ↦
          let tree = on.tree.inside in
          let inside = on.inside in
          let low = on.level in
          let differs = other.1 in
          let level : page.level ≡ 1 = elim (cases_lt page.level 2) [ inl below ↦ omega (arith, above, below) | inr past ↦ absurd (differs (omega (arith, past, low))) ] in
          let index = ap (λ (q : PageId). q.index) on.there in
          let first_level = ap (λ (l : ℕ). on.address / 812 / 60 / 812 ^ l) level in
          rw other.0 (omega (arith, index, first_level, inside, tree))
    ]

    lower_there : (tree level index : ℕ) (point : Point) → 1 ≤ level → IsLower forest (record { tree = tree; level = level; index = index })
        → HasPoint (dirty_points_of (tree_of first second one two) (record { tree = tree; level = level; index = index })) point
        → IsThere (tree_of first second one two) (record { tree = tree; level = level; index = index })
    lower_there (suc t) level index point some lower has = let inside = lower.tree.inside in let zone = lower.tree.own in absurd (omega (arith, inside, zone))
    lower_there zero zero index point some lower has = absurd (omega (arith, some))
    lower_there zero (suc (suc l)) index point some lower has = let low = lower.level in absurd (omega (arith, low))
    lower_there zero (suc zero) zero point some lower has = let leads = led point has in record { at = leads.0; stands = by_link lower leads.1 }
    lower_there zero (suc zero) (suc k) point some lower has =
        let place : (suc k + 1) * 1 + 0 ≡ suc (suc k) = omega arith in
        elim (subst (λ (n : ℕ). HasPoint (dirty_points_at (one ∷ two ∷ []) n) point) place has) [
          | inl never ↦ absurd (none-some point never)
          | inr never ↦ absurd (none-some point never)
        ]

never_led : (first : Mapping) (point : Point) → HasPoint clean point → (at : Pbn) × (first ≡ At at)
never_led first point (inl none) = absurd (none-some point none)
never_led first point (inr none) = absurd (none-some point none)

pub linked_is : IsTree linked
linked_is = is_tree (At (b 87)) (At (b 90)) clean clean (held_at 2 (omega arith)) (held_at 5 (omega arith)) (never_led (At (b 87)))

bare_is : IsTree bare
bare_is = is_tree Unmapped Unmapped clean clean tt tt (never_led Unmapped)

-- forest
of_no_zone : IsTree (record linked { forest = record forest { zone = 60 } }) → ⊥
of_no_zone is = omega (arith, is.forest.zone)

-- room: the page above the leaf of address 0 needs a place
on_path : IsOnPath forest inner
on_path = record { address = 0; inside = omega arith; level = omega arith; there = refl; tree = own tall }

without_room : IsTree (record linked { pages = page_with (At (b 87)) ∷ []; dirty_points = clean ∷ [] }) → ⊥
without_room is = omega (arith, is.room inner on_path (omega arith))

-- most: at height 2 there are no pages but roots above the leaves
with_one_too_many : IsTree (record linked { forest = record forest { geometry = small } }) → ⊥
with_one_too_many is = omega (arith, is.most)

-- held: zeros stand in leaves alone
with_zeros : IsTree (tree_of Zero Unmapped clean clean) → ⊥
with_zeros is = omega (arith, (All-head (AreHeld tall 1) (page_with Zero) (page_with Unmapped ∷ []) is.held).each 0 Unmapped (omega arith))

-- dirty points
without_dirty_points : IsTree (record linked { dirty_points = clean ∷ [] }) → ⊥
without_dirty_points is = omega (arith, is.dirty_points)

-- there
dirty_and_not_there : IsTree (tree_of Unmapped Unmapped clean dirty) → ⊥
dirty_and_not_there is = inner_missing Unmapped clean dirty (is.there inner (p 5) inner_is (inl refl))

-- IsLinkable

pub linkable : IsLinkable half leaf
linkable = record { path = record { address = 0; inside = omega arith; level = omega arith; there = refl; tree = own tall }; lower = λ top. omega (arith, top.level) }

linkable_beside_the_path : IsLinkable half (record leaf { index = 1 }) → ⊥
linkable_beside_the_path is = let index : 1 ≡ is.path.address / 812 / 60 / 1 = ap (λ (q : PageId). q.index) is.path.there in omega (arith, is.path.inside, index)

pub linkable_root : IsLinkable half root → ⊥
linkable_root is = is.lower is_root

-- Links: the page above is changed since that point

led_to_inner : (two : DirtyPoints) (point : Point) → HasPoint two point → (at : Pbn) × (At (b 87) ≡ At at)
led_to_inner two point has = (b 87, refl)

abbrev pub dirty_tree : Tree
dirty_tree = tree_of (At (b 87)) (At (b 90)) clean dirty

pub dirty_is : IsTree dirty_tree
dirty_is = is_tree (At (b 87)) (At (b 90)) clean dirty (held_at 2 (omega arith)) (held_at 5 (omega arith)) (led_to_inner dirty)

pub links : Links half dirty_tree leaf (b 90) (p 5)
links = record { form = dirty_is; set = refl }

-- form: a block of the index has no page
links_to_the_index : Links half (tree_of (At (b 87)) (At (b 84)) clean dirty) leaf (b 84) (p 5) → ⊥
links_to_the_index is = omega (arith, ((is.form.held 1 [] (omega arith)).each 0 Unmapped (omega arith)).0.stands)

-- set
pub links_elsewhere : Links half dirty_tree leaf (b 91) (p 5) → ⊥
unfolding block_in
links_elsewhere is = omega (arith, ap (λ (t : Tree). block_in (mapping_of t inner 0)) is.set)

links_at_another_point : Links half dirty_tree leaf (b 90) (p 6) → ⊥
links_at_another_point is = omega (arith, ap (λ (t : Tree). number_of_point (dirty_points_of t inner).dirty) is.set)

links_without_a_mark : Links half linked leaf (b 90) (p 5) → ⊥
links_without_a_mark is = none-some (p 5) (ap (λ (t : Tree). (dirty_points_of t inner).dirty) is.set)

-- Expires: the page above is handed out with its link

abbrev pub out_tree : Tree
out_tree = tree_of (At (b 87)) (At (b 90)) clean out

abbrev pub copy : MapPage
copy = record { head = record { geometry = tall; page = inner; at = b 87 }; mappings = page_with (At (b 90)) }

least_due : (other : ℕ) (later : Point) → IsDue (dirty_points_at dirty_tree.dirty_points other) later → 5 ≤ later.0
least_due zero later due = absurd (none-some later due.dirty)
least_due (suc zero) later due = omega (arith, ap number_of_point due.dirty)
least_due (suc (suc k)) later due = absurd (none-some later due.dirty)

lowest_due : (other : ℕ) → IsDue (dirty_points_at dirty_tree.dirty_points other) (p 5) → 1 ≤ other
lowest_due zero due = absurd (none-some (p 5) due.dirty)
lowest_due (suc k) due = omega arith

out_is : IsTree out_tree
out_is = is_tree (At (b 87)) (At (b 90)) clean out (held_at 2 (omega arith)) (held_at 5 (omega arith)) (led_to_inner out)

pub expires : Expires dirty_tree out_tree (p 5) inner copy
expires = record {
  inner = inner_is;
  dirty_points = record { first = p 5; due = record { idle = refl; dirty = refl }; reached = omega arith; least = least_due; lowest = lowest_due; after = refl };
  geometry = refl;
  page = refl;
  at = inner_at (At (b 90)) clean dirty;
  mappings = refl;
  held = held 1 (At (b 90)) (held_at 5 (omega arith));
  form = out_is;
  set = refl;
}

-- inner: the leaf of the same number isn't handed out
expires_a_leaf : (new : Tree) (given : MapPage) → Expires dirty_tree new (p 5) leaf given → ⊥
expires_a_leaf new given is = omega (arith, is.inner.level)

-- dirty points: not before the point from which on it is dirty
expires_too_soon : (new : Tree) → Expires dirty_tree new (p 4) inner copy → ⊥
expires_too_soon new is = omega (arith, is.dirty_points.reached, least_due 1 is.dirty_points.first is.dirty_points.due)

-- geometry, page, at, mappings: what is handed out
expires_of_another_image : (new : Tree) → Expires dirty_tree new (p 5) inner (record copy { head = record copy.head { geometry = record tall { nonce = 2 } } }) → ⊥
expires_of_another_image new is = omega (arith, ap (λ (h : Geometry). h.nonce) is.geometry)

expires_as_another : (new : Tree) → Expires dirty_tree new (p 5) inner (record copy { head = record copy.head { page = root } }) → ⊥
expires_as_another new is = omega (arith, ap (λ (q : PageId). q.level) is.page)

expires_elsewhere : (new : Tree) → Expires dirty_tree new (p 5) inner (record copy { head = record copy.head { at = b 88 } }) → ⊥
unfolding block_in
expires_elsewhere new is = never is.at
  where
    never : IsAt dirty_tree inner (b 88) → ⊥
    never (as_root top here) = omega (arith, top.level)
    never (by_link lower leads) = let same : ◌≡◌ {A = Mapping} (At (b 87)) (At (b 88)) = leads in omega (arith, ap block_in same)

expires_as_it_was : (new : Tree) → Expires dirty_tree new (p 5) inner (record copy { mappings = page_with Unmapped }) → ⊥
expires_as_it_was new is = let same : ◌≡◌ {A = List Mapping} (page_with Unmapped) (page_with (At (b 90))) = is.mappings in cc same

-- set: it isn't dirty any longer
expires_and_stays_dirty : Expires dirty_tree dirty_tree (p 5) inner copy → ⊥
expires_and_stays_dirty is = none-some (p 5) (sym (ap (λ (t : Tree). (dirty_points_of t inner).dirty) is.set))

-- IsWriting

pub writing : IsWriting out_tree inner
writing = record { inner = inner_is; dirty_points = record { first = p 5; is = refl } }

writing_a_leaf : IsWriting out_tree leaf → ⊥
writing_a_leaf is = omega (arith, is.inner.level)

pub writing_before : IsWriting dirty_tree inner → ⊥
writing_before is = none-some is.dirty_points.first is.dirty_points.is

-- Writes

pub writes : Writes out_tree linked inner
writes = record { form = linked_is; set = refl }

-- set: what was linked since isn't written
abbrev linked_since : Tree
linked_since = tree_of (At (b 87)) (At (b 90)) clean (record { dirty = Some (p 7); writing = Some (p 5) })

writes_but_for_new_links : Writes linked_since (tree_of (At (b 87)) (At (b 90)) clean (record { dirty = Some (p 7); writing = None })) inner
writes_but_for_new_links = record { form = is_tree (At (b 87)) (At (b 90)) clean (record { dirty = Some (p 7); writing = None }) (held_at 2 (omega arith)) (held_at 5 (omega arith)) (led_to_inner (record { dirty = Some (p 7); writing = None })); set = refl }

writes_new_links : Writes linked_since linked inner → ⊥
writes_new_links is = none-some (p 7) (ap (λ (t : Tree). (dirty_points_of t inner).dirty) is.set)

-- form
writes_what_is_no_tree : Writes (record out_tree { forest = record forest { zone = 60 } }) (record linked { forest = record forest { zone = 60 } }) inner → ⊥
writes_what_is_no_tree is = of_no_zone is.form
