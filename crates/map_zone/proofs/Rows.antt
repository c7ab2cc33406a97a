-- Small maps that each clause accepts, and one that it refuses: what a map is, and what is looked up, applied and installed.
use Rattle.std.proofs.Common.{ℕ, subst, ◌⊎◌, zero, suc, ◌≡◌, ◌^◌, ◌<◌, inl, inr, true, false, None, Some, List, [], ◌∷◌, length, slice_index_or, ◌+◌, ◌≤◌, refl, ap, sym, arith, ◌∙◌}
use Rattle.std.proofs.lemmas.List.{length-replicate}
use Rattle.std.proofs.lemmas.List.Elements.{All-cons, All-nil, All-replicate}
use Rattle.std.proofs.lemmas.Option.{none-some}
use Rattle.blk_base.proofs.Example.{small, small_is, root, leaf, others}
use Rattle.blk_base.specs.Pages.{page_above, leaf_of}
use Rattle.blk_base.specs.Regions.{IsDataBlock, Root, block_of}
use Rattle.blk_base.specs.declared.geometry.Geometry.{Geometry}
use Rattle.blk_base.specs.declared.journal_entry.Entry.TheVariants.{NewPage, Remap}
use Rattle.blk_base.specs.declared.opened.Opened.{Opened}
use Rattle.blk_base.specs.declared.place.Mapping.{Mapping}
use Rattle.blk_base.specs.declared.place.Mapping.TheVariants.{At, Unmapped, Zero}
use Rattle.blk_base.specs.declared.place.PageId.{PageId}
use Rattle.blk_base.specs.declared.place.Pbn.{Pbn}
use Rattle.blk_base.specs.Forms.{point as p, pbn as b, lba}
use Rattle.dirty_pages.specs.DirtyPoints.{changed_at, clean, dirty_points_at, with_dirty_points}
use Rattle.dirty_pages.specs.declared.dirty_points.DirtyPoints.{DirtyPoints}
use Rattle.page_codec.specs.Grammar.{AreHeld, HoldsMapping, IsPage, IsPageFault}
use Rattle.page_codec.specs.PageBytes.{page_bytes}
use Rattle.page_codec.specs.declared.fault.PageFault.{PageFault}
use Rattle.page_codec.specs.declared.forms.MapPage.{MapPage}
use Rattle.block_map_tree.specs.OpenedTree.{IsOpening, forest_of}
use Rattle.block_map_tree.specs.Pages.{IsLower, IsOnPath, IsTreeOf}
use Rattle.block_map_tree.specs.Tree.{IsAt, IsThere, IsTree, Links, Tree, as_root, by_link, number_of}
use Rattle.block_map_tree.specs.declared.forms.Forest.{Forest}
use Rattle.block_map_tree.proofs.TreeRows.{first_zone, own}
use Rattle.map_page_cache.specs.CachedPages.{CachedPages, IsCache, IsPageOf}
use Rattle.map_page_cache.specs.CachedPages as cached
use Rattle.map_page_cache.specs.Turns.{Turns, no_turns, with_turn}
use Rattle.map_zone.specs.declared.forms.Applied.TheVariants as applied
use Rattle.map_zone.specs.Lookups.{AddsPage, Applies, HasPath, Installs, IsLooked, IsOtherPage, IsOwn, IsRefused, IsTooMany, MayAddPage, MayApply, MayInstall, MayRemap, MissesPage, NeedsLeaf, Remaps, Shows}
use Rattle.map_zone.specs.declared.forms.Looked.TheVariants as looked
use Rattle.map_zone.specs.declared.forms.NotInstalled.TheVariants as refused
use Rattle.map_zone.specs.ZoneMap.{head_at, IsLeafAt, IsOpened, IsZoneMap, ZoneMap}

-- The default image, and of it the zone of the first of 60 trees: its root, and the leaf of the addresses 0 to 811.

abbrev pub g : Geometry
g = small

abbrev pub forest : Forest
forest = first_zone g

pub below : IsLower forest leaf
below = record { tree = own g; level = omega arith; index = omega arith }

pub held : (level : ℕ) (first second : Mapping) → HoldsMapping g level first → HoldsMapping g level second → AreHeld g level (first ∷ second ∷ others)
unfolding others
held level first second one two = record {
  count = let rest = length-replicate {A = Mapping} 810 Unmapped in omega (arith, rest);
  each = All-cons (HoldsMapping g level) first (second ∷ others) one
      (All-cons (HoldsMapping g level) second others two (All-replicate (HoldsMapping g level) 810 Unmapped tt));
}

pub held_at : (offset : ℕ) → offset < 64 → IsDataBlock g (85 + offset) × (85 + offset < 2 ^ 32)
held_at offset below = (record { slab = 0; offset = offset; inside = (omega arith, below); stands = omega arith }, omega (arith, below))

-- the leaf is linked, at block 90; or isn't
abbrev rooted : Mapping → DirtyPoints → Tree
rooted first dirty_points = record { forest = forest; pages = (first ∷ Unmapped ∷ others) ∷ []; dirty_points = dirty_points ∷ [] }

abbrev pub linked : Tree
linked = rooted (At (b 90)) clean

abbrev pub unlinked : Tree
unlinked = rooted Unmapped clean

pub is_tree : (first : Mapping) (dirty_points : DirtyPoints) → HoldsMapping g 1 first → IsTree (rooted first dirty_points)
is_tree first dirty_points holds = record {
  forest = record { sizes = small_is; zone = omega arith; zones = omega arith };
  room = λ page path above. first_number page path above;
  most = omega arith;
  held = All-cons (AreHeld g 1) (first ∷ Unmapped ∷ others) [] (held 1 first Unmapped holds tt) (All-nil (AreHeld g 1));
  dirty_points = refl;
  there = λ page point inner has. elim inner.there [
    | inl is ↦ record { at = b (block_of g (Root page.tree)); stands = as_root is refl }
    | inr lower ↦ absurd (let level = lower.level in let some = inner.level in omega (arith, level, some))
  ];
}
  where
    first_number : (page : PageId) → IsOnPath forest page → 1 ≤ page.level → number_of forest page < 1
    first_number page path above =
        let level : page.level + 1 ≡ 2 = let below = path.level in omega (arith, above, below) in
        let tree = path.tree.inside in
        rw level (omega (arith, tree))

pub stands : IsAt linked leaf (b 90)
stands = by_link below refl

is_missing : IsThere unlinked leaf → ⊥
is_missing there = never there.at there.stands
  where
    never : (at : Pbn) → IsAt unlinked leaf at → ⊥
    never at (as_root is at_root) = omega (arith, is.level)
    never at (by_link lower leads) = cc

-- a leaf in which address 1 is mapped, and no other
abbrev with_second : Mapping → MapPage
with_second mapping = record { head = record { geometry = g; page = leaf; at = b 90 }; mappings = Unmapped ∷ mapping ∷ others }

abbrev pub content : MapPage
content = with_second (At (b 100))

abbrev pub full : CachedPages
full = record { geometry = g; frames = 1; pages = content ∷ []; dirty_points = clean ∷ []; turns = no_turns 1 }

abbrev pub empty : CachedPages
empty = record { geometry = g; frames = 1; pages = []; dirty_points = clean ∷ []; turns = no_turns 1 }

pub is_cache : (mapping : Mapping) (dirty_points : DirtyPoints) (turns : Turns) → HoldsMapping g 0 mapping
    → IsCache (record { geometry = g; frames = 1; pages = with_second mapping ∷ []; dirty_points = dirty_points ∷ []; turns = turns })
is_cache mapping dirty_points turns holds = record {
  fits = omega arith;
  dirty_points = refl;
  each = All-cons (IsPageOf g) (with_second mapping) [] (record { geometry = refl; held = held 0 Unmapped mapping tt holds }) (All-nil (IsPageOf g));
  apart = λ j k d first second same. omega (arith, first, second);
  empty = λ frame past. none_behind frame past;
}
  where
    none_behind : (frame : ℕ) → 1 ≤ frame → dirty_points_at (dirty_points ∷ []) frame ≡ clean
    none_behind zero past = absurd (omega (arith, past))
    none_behind (suc k) past = refl

abbrev pub m : ZoneMap
m = record { tree = linked; cache = full }

abbrev pub unread : ZoneMap
unread = record { tree = linked; cache = empty }

abbrev bare : ZoneMap
bare = record { tree = unlinked; cache = empty }

pub clean_at : (number : ℕ) → dirty_points_at (clean ∷ []) number ≡ clean
clean_at zero = refl
clean_at (suc k) = refl

-- a page that was changed at a point
abbrev pub changed : ℕ → List DirtyPoints
changed n = (record { dirty = Some (p n); writing = None }) ∷ []

pub there : cached.IsThere full leaf content
there = ((0, omega arith, refl), refl)

-- leaf_of, head_at

first_leaf : leaf_of 811 ≡ leaf
first_leaf = refl

next_tree : leaf_of 812 ≡ record leaf { tree = 1 }
next_tree = refl

next_round : leaf_of 48720 ≡ record leaf { index = 1 }
next_round = refl

-- IsLeafAt

abbrev pub number : Mapping → ℕ
number (At at) = at.0
number Zero = 0
number Unmapped = 0

leaf_at : IsLeafAt linked leaf (b 90)
leaf_at = record { level = refl; stands = stands }

root_is_no_leaf : (at : Pbn) → IsLeafAt linked root at → ⊥
root_is_no_leaf at is = omega (arith, is.level)

at_another_block : IsLeafAt linked leaf (b 91) → ⊥
at_another_block is = never is.stands
  where
    never : IsAt linked leaf (b 91) → ⊥
    never (as_root is at_root) = omega (arith, is.level)
    never (by_link lower leads) = let same : At (b 90) ≡ At (b 91) = leads in omega (arith, ap (λ (o : Mapping). number o) same)

-- IsZoneMap: of the parts the tree's and the cache's own forms are premises; no leaf stands elsewhere, and all is of one image
in_memory_elsewhere : IsZoneMap (record { tree = linked; cache = record full { pages = record content { head = record content.head { at = b 91 } } ∷ [] } }) → ⊥
in_memory_elsewhere is = at_another_block (is.leaves leaf (record content { head = record content.head { at = b 91 } }) ((0, omega arith, refl), refl))

not_linked_any_more : IsZoneMap (record { tree = unlinked; cache = full }) → ⊥
not_linked_any_more is = is_missing (record { at = b 90; stands = (is.leaves leaf content there).stands })

-- tree, cache: each is whole
without_dirty_points : IsZoneMap (record m { tree = record linked { dirty_points = [] } }) → ⊥
without_dirty_points is = omega (arith, is.tree.dirty_points)

more_than_its_frames : IsZoneMap (record m { cache = record full { frames = 0 } }) → ⊥
more_than_its_frames is = omega (arith, is.cache.fits)

of_another_image : IsZoneMap (record { tree = linked; cache = record empty { geometry = record g { nonce = 2 } } }) → ⊥
of_another_image is = omega (arith, ap (λ (h : Geometry). h.nonce) is.geometry)

pub whole : IsZoneMap m
whole = record {
  tree = is_tree (At (b 90)) clean (held_at 5 (omega arith));
  cache = is_cache (At (b 100)) clean (no_turns 1) (held_at 15 (omega arith));
  geometry = refl;
  leaves = leaves;
}
  where
    leaves : (page : PageId) (content' : MapPage) → cached.IsThere full page content' → IsLeafAt linked page content'.head.at
    leaves page content' ((zero, inside, is), named) =
        let here : page ≡ leaf = sym named ∙ ap (λ (c : MapPage). c.head.page) (sym is) in
        subst (λ (q : PageId). IsLeafAt linked q content'.head.at) (sym here) (subst (λ (c : MapPage). IsLeafAt linked leaf c.head.at) is leaf_at)
    leaves page content' ((suc k, inside, is), named) = absurd (omega (arith, inside))

-- IsOpened: an opened image of these sizes

no_leaves : IsCache empty
no_leaves = record { fits = omega arith; dirty_points = refl; each = All-nil (IsPageOf g); apart = λ j k d first second same. omega (arith, first); empty = λ frame past. clean_at frame }

module _ (opened : Opened) (of_sizes : opened.head.geometry ≡ g) where
  opened_so : IsOpening (forest_of opened 0 60) opened.pages.items unlinked → IsOpened opened 0 60 1 bare
  opened_so tree = record { form = record { tree = tree.form; cache = no_leaves; geometry = refl; leaves = λ page given is. absurd (omega (arith, is.0.1)) }; tree = tree; cache = rw of_sizes refl }

  -- form
  opened_in_pieces : IsOpened opened 0 60 1 (record bare { tree = record unlinked { dirty_points = [] } }) → ⊥
  opened_in_pieces is = omega (arith, is.form.tree.dirty_points)

  -- tree: it is of that zone
  opened_by_another_zone : IsOpened opened 1 60 1 bare → ⊥
  opened_by_another_zone is = omega (arith, ap (λ (f : Forest). f.zone) is.tree.forest)

  -- cache: no leaf is in memory, and there are so many frames
  opened_with_a_leaf : IsOpened opened 0 60 1 m → ⊥
  opened_with_a_leaf is = omega (arith, ap (λ (c : CachedPages). length c.pages) is.cache)

  opened_with_other_frames : IsOpened opened 0 60 2 bare → ⊥
  opened_with_other_frames is = omega (arith, ap (λ (c : CachedPages). c.frames) is.cache)

-- IsOwn

is_own : IsOwn m 811
is_own = record { inside = omega arith; tree = own g }

past_the_last : IsOwn m 1000 → ⊥
past_the_last is = omega (arith, is.inside)

of_the_next_zone : IsOwn m 812 → ⊥
of_the_next_zone is = omega (arith, is.tree.own)

-- Shows

shows : Shows m 1 (At (b 100))
shows = record { content = content; there = there; says = refl }

shows_nothing : (mapping : Mapping) → Shows unread 1 mapping → ⊥
shows_nothing mapping is = omega (arith, is.there.0.1)

shows_another : Shows m 1 Zero → ⊥
shows_another is = never is.there.0.0 is.there.0.1 is.there.0.2 is.says
  where
    never : (k : ℕ) → k < 1 → slice_index_or full.pages k is.content ≡ is.content → Zero ≡ slice_index_or is.content.mappings 1 Unmapped → ⊥
    never zero inside same says = let no : Zero ≡ At (b 100) = says ∙ ap (λ (c : MapPage). slice_index_or c.mappings 1 Unmapped) (sym same) in cc
    never (suc k) inside same says = omega (arith, inside)

-- NeedsLeaf

needs : NeedsLeaf unread 1 leaf (b 90)
needs = record { is_leaf = refl; stands = stands; absent = λ k d inside. absurd (omega (arith, inside)) }

needs_one_in_memory : NeedsLeaf m 1 leaf (b 90) → ⊥
needs_one_in_memory is = is.absent 0 content (omega arith) refl

needs_another : NeedsLeaf unread 1 root (b 9) → ⊥
needs_another is = omega (arith, ap (λ (q : PageId). q.level) is.is_leaf)

needs_it_elsewhere : NeedsLeaf unread 1 leaf (b 91) → ⊥
needs_it_elsewhere is = at_another_block (record { level = refl; stands = is.stands })

-- MissesPage

misses : MissesPage bare 1 0
misses = record { low = omega arith; missing = is_missing; above = above }
  where
    above : (level : ℕ) → 0 < level → level < 2 → IsThere unlinked (page_above level 1)
    above zero from inside = absurd (omega (arith, from))
    above (suc zero) from inside = record { at = b 9; stands = as_root (record { tree = own g; level = refl; index = refl }) refl }
    above (suc (suc level)) from inside = absurd (omega (arith, inside))

misses_one_that_is_linked : MissesPage unread 1 0 → ⊥
misses_one_that_is_linked is = is.missing (record { at = b 90; stands = stands })

misses_one_above_the_root : MissesPage bare 1 2 → ⊥
misses_one_above_the_root is = omega (arith, is.low)

-- of height 3 nothing is linked, so the leaf isn't the highest page that is missing
abbrev high : ZoneMap
high = record bare { tree = record unlinked { forest = record forest { geometry = record g { height = 3 } } } }

misses_not_the_highest : MissesPage high 1 0 → ⊥
misses_not_the_highest is = never (is.above 1 (omega arith) (omega arith)).at (is.above 1 (omega arith) (omega arith)).stands
  where
    never : (at : Pbn) → IsAt high.tree (record leaf { level = 1 }) at → ⊥
    never at (as_root is' at_root) = omega (arith, is'.level)
    never at (by_link lower leads) = cc

-- MayRemap

may_remap : MayRemap unread 1 Zero
may_remap = record { inside = omega arith; linked = record { at = b 90; stands = stands }; held = refl }

pub may_not_past_the_last : MayRemap unread 1000 Zero → ⊥
may_not_past_the_last is = omega (arith, is.inside)

may_not_without_a_leaf : MayRemap bare 1 Zero → ⊥
may_not_without_a_leaf is = is_missing is.linked

may_not_to_a_block_of_no_device : MayRemap unread 1 (At (b (2 ^ 32))) → ⊥
may_not_to_a_block_of_no_device is = omega (arith, is.held.1)

-- MayAddPage

may_not_add_it_again : (at : Pbn) → MayAddPage unread leaf at → ⊥
may_not_add_it_again at is = is.missing (record { at = b 90; stands = stands })

may_not_add_a_root : (at : Pbn) → MayAddPage bare root at → ⊥
may_not_add_a_root at is = is.linkable.lower (record { tree = own g; level = refl; index = refl })

may_not_add_below_nothing : (at : Pbn) → MayAddPage high leaf at → ⊥
may_not_add_below_nothing at is = never is.above.at is.above.stands
  where
    never : (at : Pbn) → IsAt high.tree (record leaf { level = 1 }) at → ⊥
    never at (as_root is' at_root) = omega (arith, is'.level)
    never at (by_link lower leads) = cc

may_add : MayAddPage bare leaf (b 90)
may_add = record {
  linkable = record {
    path = record { address = 1; inside = omega arith; level = omega arith; there = refl; tree = own g };
    lower = λ is. omega (arith, is.level);
  };
  above = record { at = b 9; stands = as_root (record { tree = own g; level = refl; index = refl }) refl };
  missing = is_missing;
  block = record { slab = 0; offset = 5; inside = (omega arith, omega arith); stands = refl };
}

may_not_add_it_in_the_index : MayAddPage bare leaf (b 84) → ⊥
may_not_add_it_in_the_index is = omega (arith, is.block.stands)

-- MayInstall

pub may_install : MayInstall unread leaf
may_install = record { level = refl; linked = record { at = b 90; stands = stands }; absent = λ k d inside. absurd (omega (arith, inside)) }

pub may_not_install_it_again : MayInstall m leaf → ⊥
may_not_install_it_again is = is.absent 0 content (omega arith) refl

may_not_install_one_that_is_not_linked : MayInstall bare leaf → ⊥
may_not_install_one_that_is_not_linked is = is_missing is.linked

may_not_install_a_root : MayInstall unread root → ⊥
may_not_install_a_root is = omega (arith, is.level)

-- Remaps, AddsPage: what the cache or the tree makes of it, ..

abbrev pub zeroed : CachedPages
zeroed = record full { pages = with_second Zero ∷ []; dirty_points = changed 5; turns = with_turn 0 false (no_turns 1) }

sets : cached.Sets full zeroed leaf 1 Zero (p 5)
sets = record {
  form = is_cache Zero (changed_at (p 5) clean) (with_turn 0 false (no_turns 1)) refl;
  frame = 0;
  content = content;
  stood = record { inside = omega arith; is = refl; named = refl };
  after = refl;
}

pub remaps : Remaps m (record m { cache = zeroed }) 1 Zero (p 5)
remaps = record { sets = sets; after = refl }

remaps_nothing : Remaps m m 1 Zero (p 5) → ⊥
remaps_nothing is = never is.sets.frame is.sets.stood.inside (ap (λ (c : CachedPages). c.dirty_points) is.sets.after)
  where
    never : (frame : ℕ) → frame < 1 → clean ∷ [] ≡ with_dirty_points (clean ∷ []) frame (changed_at (p 5)) → ⊥
    never zero inside same = none-some (p 5) (ap (λ (dirty_points : List DirtyPoints). (dirty_points_at dirty_points 0).dirty) same)
    never (suc k) inside same = omega (arith, inside)

links : Links unlinked (rooted (At (b 90)) (changed_at (p 5) clean)) leaf (b 90) (p 5)
links = record { form = is_tree (At (b 90)) (changed_at (p 5) clean) (held_at 5 (omega arith)); set = refl }

adds : AddsPage bare (record bare { tree = rooted (At (b 90)) (changed_at (p 5) clean) }) leaf (b 90) (p 5)
adds = record { links = links; after = refl }

adds_nothing : AddsPage bare bare leaf (b 90) (p 5) → ⊥
adds_nothing is = none-some (p 5) (ap (λ (t : Tree). (dirty_points_at t.dirty_points 0).dirty) is.links.set)

-- Applies: what needs a leaf changes nothing, and a new page needs none

needs_it_first : Applies unread unread (Remap (record { 0 = 1 }) Unmapped Zero) (p 5) (applied.NeedLeaf leaf (b 90))
needs_it_first = (needs, refl)

needs_it_and_has_it : Applies unread m (Remap (record { 0 = 1 }) Unmapped Zero) (p 5) (applied.NeedLeaf leaf (b 90)) → ⊥
needs_it_and_has_it is = omega (arith, ap (λ (z : ZoneMap). length z.cache.pages) is.1)

needs_one_for_a_new_page : Applies bare bare (NewPage leaf (b 90)) (p 5) (applied.NeedLeaf leaf (b 90)) → ⊥
needs_one_for_a_new_page never = never

-- .. and the rest stays
remaps_and_forgets_a_link : (new : ZoneMap) → new.tree ≡ unlinked → Remaps m new 1 Zero (p 5) → ⊥
remaps_and_forgets_a_link new is remaps =
    let no : (Unmapped ∷ Unmapped ∷ others) ∷ [] ≡ (At (b 90) ∷ Unmapped ∷ others) ∷ [] = ap (λ (t : Tree). t.pages) (sym is ∙ ap (λ (z : ZoneMap). z.tree) remaps.after) in cc

adds_and_forgets_a_leaf : (new : ZoneMap) → new.cache ≡ empty → AddsPage m new leaf (b 91) (p 5) → ⊥
adds_and_forgets_a_leaf new is adds =
    omega (arith, ap (λ (c : CachedPages). length c.pages) (sym is ∙ ap (λ (z : ZoneMap). z.cache) adds.after))

-- HasPath
has_path : HasPath m 1
has_path zero low' = record { at = b 90; stands = stands }
has_path (suc zero) low' = record { at = b 9; stands = as_root (record { tree = own g; level = refl; index = refl }) refl }
has_path (suc (suc level)) low' = absurd (omega (arith, low'))

has_no_path : HasPath bare 1 → ⊥
has_no_path has = is_missing (has 0 (omega arith))

-- IsLooked: what the slot says, where the leaf is in memory; or which leaf is needed; or which page isn't linked

looked_up : IsLooked m 1 (looked.Is (At (b 100)))
looked_up = (has_path, shows)

looked_for_a_leaf : IsLooked unread 1 (looked.NeedLeaf leaf (b 90))
looked_for_a_leaf = (has_path, needs)

looked_for_a_page : IsLooked bare 1 (looked.NoPage 0)
looked_for_a_page = misses

looked_up_without_a_path : (mapping : Mapping) → IsLooked bare 1 (looked.Is mapping) → ⊥
looked_up_without_a_path mapping is = has_no_path is.0

looked_up_otherwise : IsLooked m 1 (looked.Is Zero) → ⊥
looked_up_otherwise is = shows_another is.1

looked_for_a_leaf_without_a_path : IsLooked bare 1 (looked.NeedLeaf leaf (b 90)) → ⊥
looked_for_a_leaf_without_a_path is = has_no_path is.0

looked_for_a_leaf_in_memory : IsLooked m 1 (looked.NeedLeaf leaf (b 90)) → ⊥
looked_for_a_leaf_in_memory is = needs_one_in_memory is.1

looked_for_a_linked_page : IsLooked unread 1 (looked.NoPage 0) → ⊥
looked_for_a_linked_page is = misses_one_that_is_linked is

-- Installs, IsOtherPage, IsTooMany: what is read as the leaf at its block. That bytes are no page is a premise.

-- the leaf is in the frame that was empty
abbrev pub filled : CachedPages
filled = record full { turns = with_turn 0 true (no_turns 1) }

pub fills : cached.Fills empty filled content
fills = record { form = is_cache (At (b 100)) clean (with_turn 0 true (no_turns 1)) (held_at 15 (omega arith)); room = omega arith; after = refl }

abbrev pub bytes : List ℕ
bytes = page_bytes content.head content.mappings

pub reads : IsPage content.head bytes content.mappings
reads = record { spelled = refl; held = held 0 Unmapped (At (b 100)) tt (held_at 15 (omega arith)) }

pub installs : Installs unread (record m { cache = filled }) leaf bytes
installs = record { at = b 90; mappings = content.mappings; stands = stands; read = reads; fills = inl fills; after = refl }

installs_and_forgets_the_link : Installs unread (record m { tree = unlinked }) leaf bytes → ⊥
installs_and_forgets_the_link is = let no : (Unmapped ∷ Unmapped ∷ others) ∷ [] ≡ (At (b 90) ∷ Unmapped ∷ others) ∷ [] = ap (λ (z : ZoneMap). z.tree.pages) is.after in cc

installs_what_is_not_linked : (new : ZoneMap) → Installs bare new leaf bytes → ⊥
installs_what_is_not_linked new is = is_missing (record { at = is.at; stands = is.stands })

-- read: of other bytes
installs_other_bytes : (given : List ℕ) (new : ZoneMap) → ((at : Pbn) (mappings : List Mapping) → IsPage (head_at unread leaf at) given mappings → ⊥) → Installs unread new leaf given → ⊥
installs_other_bytes given new other is = other is.at is.mappings is.read

-- fills: another leaf comes in its place
installs_another : Installs unread (record m { cache = record full { pages = record content { head = record content.head { at = b 91 } } ∷ [] } }) leaf bytes → ⊥
installs_another is = never is.at is.mappings is.fills is.stands
  where
    block : List MapPage → ℕ
    block [] = 0
    block (c ∷ cs) = c.head.at.0

    never : (at : Pbn) (mappings : List Mapping) → (let c : MapPage = record { head = head_at unread leaf at; mappings = mappings } in
        cached.Fills empty (record full { pages = record content { head = record content.head { at = b 91 } } ∷ [] }) c
        ⊎ cached.GivesUp empty (record full { pages = record content { head = record content.head { at = b 91 } } ∷ [] }) c) → IsAt linked leaf at → ⊥
    never at mappings (inl fills') stands' =
        let same : 91 ≡ at.0 = ap (λ (c : CachedPages). block c.pages) fills'.after in
        at_another_block (record { level = refl; stands = subst (λ (k : Pbn). IsAt linked leaf k) (ap (λ (n : ℕ). b n) (sym same)) stands' })
    never at mappings (inr gives) stands' = omega (arith, gives.inside)

is_other_page : (fault : PageFault) → IsPageFault content.head bytes fault → IsOtherPage unread leaf bytes fault
is_other_page fault has = record { at = b 90; stands = stands; has_fault = has }

other_page_without_a_link : (fault : PageFault) → IsOtherPage bare leaf bytes fault → ⊥
other_page_without_a_link fault is = is_missing (record { at = is.at; stands = is.stands })

other_page_without_a_fault : (fault : PageFault) → ((at : Pbn) → IsPageFault (head_at unread leaf at) bytes fault → ⊥) → IsOtherPage unread leaf bytes fault → ⊥
other_page_without_a_fault fault none is = none is.at is.has_fault

-- none: where a frame is empty
too_many_beside_an_empty_frame : IsTooMany unread leaf bytes → ⊥
too_many_beside_an_empty_frame is = omega (arith, is.none.full)

too_many : IsTooMany (record unread { cache = record empty { frames = 0 } }) leaf bytes
too_many = record { at = b 90; mappings = content.mappings; stands = stands; read = reads; none = record { full = refl; unclean = λ frame inside clean. omega (arith, inside) } }

-- stands, read: the leaf is linked, and these are its bytes
too_many_of_what_is_not_linked : IsTooMany (record bare { cache = record empty { frames = 0 } }) leaf bytes → ⊥
too_many_of_what_is_not_linked is = is_missing (record { at = is.at; stands = is.stands })

too_many_of_other_bytes : (given : List ℕ) → ((at : Pbn) (mappings : List Mapping) → IsPage (head_at unread leaf at) given mappings → ⊥)
    → IsTooMany (record unread { cache = record empty { frames = 0 } }) leaf given → ⊥
too_many_of_other_bytes given other is = other is.at is.mappings is.read

-- MayApply, IsRefused: each of its two ways, and none of the other's
may_apply : MayApply unread (Remap (lba 1) Unmapped Zero)
may_apply = may_remap

may_apply_a_link : MayApply bare (NewPage leaf (b 90))
may_apply_a_link = may_add

may_not_apply_past_the_last : ¬ MayApply unread (Remap (lba 1000) Unmapped Zero)
may_not_apply_past_the_last = may_not_past_the_last

may_not_apply_a_link_again : ¬ MayApply unread (NewPage leaf (b 90))
may_not_apply_a_link_again = may_not_add_it_again (b 90)

refused_for_its_frames : IsRefused (record unread { cache = record empty { frames = 0 } }) leaf bytes refused.NoFrame
refused_for_its_frames = too_many

not_refused_for_its_frames : ¬ IsRefused unread leaf bytes refused.NoFrame
not_refused_for_its_frames = too_many_beside_an_empty_frame

not_refused_for_its_bytes : (fault : PageFault) → ¬ IsRefused bare leaf bytes (refused.Page fault)
not_refused_for_its_bytes fault = other_page_without_a_link fault
