-- What each call of the cache and of the tree keeps of the map of a zone.
use Rattle.std.specs.Prelude.{◌≡◌, [], ◌∷◌, refl}
use Rattle.std.proofs.Common.{ap, ◌∙◌, sym, subst, inl, inr}
use Rattle.blk_base.specs.declared.place.PageId.{PageId}
use Rattle.blk_base.specs.declared.place.Pbn.{Pbn}
use Rattle.page_codec.specs.declared.forms.MapPage.{MapPage}
use Rattle.block_map_tree.specs.declared.forms.Forest.{Forest}
use Rattle.block_map_tree.specs.History as history
use Rattle.block_map_tree.specs.Tree.{IsAt, IsThere, IsTree, Tree}
use Rattle.block_map_tree.proofs.HistoryLaws as trees
use Rattle.block_map_tree.proofs.TreeLaws.{dirty_points_move_none}
use Rattle.map_page_cache.specs.CachedPages.{CachedPages}
use Rattle.map_page_cache.specs.Runs as runs
use Rattle.map_page_cache.proofs.RunLaws as caches
use Rattle.map_zone.specs.ZoneMap.{IsLeafAt, IsZoneMap, ZoneMap}

-- where an installed page stands
abbrev pub IsPlaced : Tree → runs.Operation → Type 0
IsPlaced tree (runs.Install content) = IsLeafAt tree content.head.page content.head.at
IsPlaced tree other = Unit {0}

geometry_stays : (old new : CachedPages) (call : runs.Operation) → runs.Leads old call new → new.geometry ≡ old.geometry
geometry_stays old new (runs.Install content) (absent, inl fills) = ap (λ (c : CachedPages). c.geometry) fills.after
geometry_stays old new (runs.Install content) (absent, inr gives) = ap (λ (c : CachedPages). c.geometry) gives.after
geometry_stays old new (runs.Set page slot mapping point) sets = ap (λ (c : CachedPages). c.geometry) sets.after
geometry_stays old new (runs.HandOut page) (point, copy, expires) = ap (λ (c : CachedPages). c.geometry) expires.after
geometry_stays old new (runs.Write page) (out, writes) = ap (λ (c : CachedPages). c.geometry) writes.after

-- a page that is there after a call stands where its leaf is linked
placed : (m : ZoneMap) (call : runs.Operation) (page : PageId) (content : MapPage) → IsZoneMap m → IsPlaced m.tree call → runs.IsContent m.cache (call ∷ []) page content
    → IsLeafAt m.tree page content.head.at
placed m (runs.Install from) page content form at (inl new) = subst (λ (c : MapPage). IsLeafAt m.tree page c.head.at) (sym new.1) (subst (λ (p : PageId). IsLeafAt m.tree p from.head.at) new.0 at)
placed m (runs.Install from) page content form at (inr old) = form.leaves page content old.1
placed m (runs.Set changed slot mapping point) page content form at (inl new) =
    subst (λ (c : MapPage). IsLeafAt m.tree page c.head.at) (sym new.1.2) (form.leaves page new.1.0 new.1.1)
placed m (runs.Set changed slot mapping point) page content form at (inr old) = form.leaves page content old.1
placed m (runs.HandOut out) page content form at old = form.leaves page content old
placed m (runs.Write out) page content form at old = form.leaves page content old

-- a call of the cache
pub cache_keeps : (m : ZoneMap) (new : CachedPages) (call : runs.Operation) → IsZoneMap m → IsPlaced m.tree call → runs.Leads m.cache call new → IsZoneMap (record m { cache = new })
cache_keeps m new call form at leads = record {
  tree = form.tree;
  cache = caches.calls_keep m.cache new (call ∷ []) form.cache (m.cache, refl, leads);
  geometry = geometry_stays m.cache new call leads ∙ form.geometry;
  leaves = λ page content there. placed m call page content form at (caches.content_after m.cache new (call ∷ []) page content form.cache (m.cache, refl, leads) there);
}

-- a page that is linked wasn't there
abbrev pub IsFresh : Tree → history.Operation → Type 0
IsFresh tree (history.Link page at point) = IsThere tree page → ⊥
IsFresh tree other = Unit {0}

-- what stands somewhere stays there
pub stays_at : (old new : Tree) (call : history.Operation) (page : PageId) (at : Pbn) (form : IsTree old) → IsFresh old call → history.Leads old call new → IsAt old page at → IsAt new page at
stays_at old new (history.Link fresh at point) page b form missing (linkable, links) stands =
    (trees.link_others old new fresh at point form linkable links page b (λ same. missing (record { at = b; stands = subst (λ (p : PageId). IsAt old p b) same stands }))).0 stands
stays_at old new (history.HandOut out) page b form missing (point, into, expires) stands =
    subst (λ (t : Tree). IsAt t page b) (sym expires.set) (dirty_points_move_none old _ page b stands)
stays_at old new (history.Write out) page b form missing (is, writes) stands =
    subst (λ (t : Tree). IsAt t page b) (sym writes.set) (dirty_points_move_none old _ page b stands)

-- a call of the tree
pub tree_keeps : (m : ZoneMap) (new : Tree) (call : history.Operation) → IsZoneMap m → IsFresh m.tree call → history.Leads m.tree call new → IsZoneMap (record m { tree = new })
tree_keeps m new call form missing leads =
    let kept = trees.calls_keep m.tree new (call ∷ []) form.tree (m.tree, refl, leads) in
    record {
      tree = kept.0;
      cache = form.cache;
      geometry = form.geometry ∙ ap (λ (f : Forest). f.geometry) (sym kept.1);
      leaves = λ page content there.
          let is = form.leaves page content there in
          record { level = is.level; stands = stays_at m.tree new call page content.head.at form.tree missing leads is.stands };
    }

pub forest_stays : (old new : Tree) (call : history.Operation) → IsTree old → history.Leads old call new → new.forest ≡ old.forest
forest_stays old new call form leads = (trees.calls_keep old new (call ∷ []) form (old, refl, leads)).1

-- a leaf is no page above it, and a page that stands somewhere with level 0 is below a root
pub leaf_at : (tree : Tree) (page : PageId) (at : Pbn) → page.level ≡ 0 → IsAt tree page at → IsLeafAt tree page at
leaf_at tree page at level stands = record { level = level; stands = stands }
