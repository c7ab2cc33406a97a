-- Each call by what the code computes. Callers know a map by its view, `known`.
use Rattle.std.specs.Prelude.{ℕ, ◌≡◌, ◌≢◌, ◌<◌, ◌≤◌, ◌⊎◌, Bool, true, false, IsTrue, nat_le, min, Option, None, Some, IfSome, IfNone, Result, Ok, Err, OnOk, OnErr, List, refl}
use Rattle.std.proofs.Common.{ap, ◌∙◌, sym, subst, arith, inl, inr}
use Rattle.std.proofs.lemmas.Bool.{leb-true}
use Rattle.std.proofs.lemmas.Bool.Decides.{leb_tells}
use Rattle.std.proofs.lemmas.Option.{none-some}
use Rattle.blk_base.specs.declared.journal_entry.Entry.{Entry}
use Rattle.blk_base.specs.declared.journal_entry.Entry.TheVariants.{Remap}
use Rattle.blk_base.specs.declared.place.Lba.{Lba}
use Rattle.blk_base.specs.declared.place.Mapping.{Mapping}
use Rattle.blk_base.specs.declared.place.PageId.{PageId}
use Rattle.blk_base.specs.declared.place.Pbn.{Pbn}
use Rattle.blk_base.specs.declared.point.Point.{Point}
use Rattle.dirty_pages.specs.declared.dirty_points.DirtyPoints.{DirtyPoints}
use Rattle.dirty_pages.specs.DirtyPoints.{AreClean, HasPoint, IsDue, IsFirstDue, IsLowPoint, NoneIsDue, NoneIsEverDue, dirty_points_at}
use Rattle.page_codec.specs.PageBytes.{page_bytes}
use Rattle.page_codec.specs.declared.forms.MapPage.{MapPage}
use Rattle.page_codec.specs.declared.forms.PageHead.{PageHead}
use Rattle.block_map_tree.specs.Tree as trees
use Rattle.block_map_tree.specs.Tree.{IsAt}
use Rattle.map_page_cache.specs.CachedPages as cached
use Rattle.map_page_cache.specs.Runs as runs
use Rattle.map_zone.specs.declared.forms.Applied.{Applied}
use Rattle.map_zone.specs.declared.forms.Applied.TheVariants as applied
use Rattle.map_zone.specs.Lookups.{Applies, MayInstall, NeedsLeaf, Remaps}
use Rattle.map_zone.specs.PageWrites.{IsClean, IsLeafFirst, IsLow, IsNodeFirst, IsOut, NoneDue, TakesLeaf, TakesNode, comes_first, lesser_point}
use Rattle.map_zone.specs.ZoneMap.{IsLeafAt, IsZoneMap, ZoneMap, head_at}
use Rattle.map_zone.proofs.KeepLaws.{cache_keeps}

-- what became of an entry that maps an address
pub applies_remap : (old new : ZoneMap) (entry : Entry) (at : Lba) (before now : Mapping) (point : Point) (result : Applied) → entry ≡ Remap at before now
    → (result ≡ applied.Done → Remaps old new at.0 now point)
    → ((page : PageId) (block : Pbn) → result ≡ applied.NeedLeaf page block → NeedsLeaf old at.0 page block × (new ≡ old)) → Applies old new entry point result
applies_remap old new entry at before now point applied.Done is done needs = subst (λ (e : Entry). Applies old new e point applied.Done) (sym is) (done refl)
applies_remap old new entry at before now point (applied.NeedLeaf page block) is done needs =
    subst (λ (e : Entry). Applies old new e point (applied.NeedLeaf page block)) (sym is) (needs page block refl)

-- a page that is being written is a leaf, or isn't
pub cached_level : (m : ZoneMap) (page : PageId) → IsZoneMap m → cached.IsWriting m.cache page → page.level ≡ 0
cached_level m page form out = (form.leaves page out.content ((out.frame, out.stands.inside, out.stands.is), out.stands.named)).level

pub leaf_out : (known m : ZoneMap) (page : PageId) → m ≡ known → IsOut known page → page.level ≡ 0 → cached.IsWriting m.cache page
leaf_out known m page same out level =
    elim (subst (λ (z : ZoneMap). IsOut z page) (sym same) out) [
      | inl leaf ↦ leaf
      | inr node ↦ absurd (omega (arith, node.inner.level, level))
    ]

pub node_out : (known m : ZoneMap) (page : PageId) → m ≡ known → IsZoneMap m → IsOut known page → page.level ≢ 0 → trees.IsWriting m.tree page
node_out known m page same form out level =
    elim (subst (λ (z : ZoneMap). IsOut z page) (sym same) out) [
      | inl leaf ↦ absurd (level (cached_level m page form leaf))
      | inr node ↦ node
    ]

-- which page is due first
pub leaf_first : (known m : ZoneMap) (leaf node : Option Point) (result : Bool) → m ≡ known → IfSome leaf (IsFirstDue m.cache.dirty_points) → IfSome node (IsFirstDue m.tree.dirty_points)
    → IfNone node (NoneIsEverDue m.tree.dirty_points) → result ≡ comes_first leaf node → IsTrue result → IsLeafFirst known
leaf_first known m None other result same is_leaf is_node no_node is yes' = absurd (let no' : true ≡ false = sym yes' ∙ is in cc)
leaf_first known m (Some leaf) None result same is_leaf is_node no_node is yes' =
    subst (λ (z : ZoneMap). IsLeafFirst z) same (record { leaf = leaf; due = is_leaf; first = λ number other due. absurd (no_node number other due) })
leaf_first known m (Some leaf) (Some node) result same is_leaf is_node no_node is yes' =
    let below = leb-true leaf.0 node.0 (sym is ∙ yes') in
    subst (λ (z : ZoneMap). IsLeafFirst z) same (record { leaf = leaf; due = is_leaf; first = λ number other due. omega (arith, below, is_node.least number other due) })

pub node_first : (known m : ZoneMap) (leaf node : Option Point) (result : Bool) → m ≡ known → IfSome leaf (IsFirstDue m.cache.dirty_points) → IfSome node (IsFirstDue m.tree.dirty_points)
    → IfNone leaf (NoneIsEverDue m.cache.dirty_points) → result ≡ comes_first leaf node → result ≡ false → IsNodeFirst known
node_first known m None other result same is_leaf is_node no_leaf is no' = subst (λ (z : ZoneMap). IsNodeFirst z) same (record { first = λ number other due. absurd (no_leaf number other due) })
node_first known m (Some leaf) None result same is_leaf is_node no_leaf is no' = absurd (let yes' : true ≡ false = sym is ∙ no' in cc)
node_first known m (Some leaf) (Some node) result same is_leaf is_node no_leaf is no' =
    let below : nat_le leaf.0 node.0 ≡ false = sym is ∙ no' in
    let above : node.0 < leaf.0 = elim (leb_tells leaf.0 node.0) [ inl yes' ↦ absurd (let wrong : true ≡ false = sym yes'.0 ∙ below in cc) | inr over ↦ over.1 ] in
    subst (λ (z : ZoneMap). IsNodeFirst z) same (record { first = λ number other due. (node, is_node, omega (arith, above, is_leaf.least number other due)) })

-- where the one that is due first isn't due yet, none is
pub no_leaf_due : (m : ZoneMap) (point : Point) → IsLeafFirst m → NoneIsDue m.cache.dirty_points point → NoneDue m point
no_leaf_due m point first none = record {
  leaves = none;
  nodes = λ number node due. omega (arith, none first.due.number first.leaf first.due.due, first.first number node due);
}

pub no_node_due : (m : ZoneMap) (point : Point) → IsNodeFirst m → NoneIsDue m.tree.dirty_points point → NoneDue m point
no_node_due m point first none = record {
  leaves = λ number leaf due.
      let before = first.first number leaf due in
      omega (arith, none before.1.number before.0 before.1.due, before.2);
  nodes = none;
}

-- the page that is handed out is the one that is due first
pub leaf_taken : (old : ZoneMap) (new : cached.CachedPages) (point : Point) (page : PageId) (copy : MapPage) → IsLeafFirst old → (expires : cached.Expires old.cache new point page copy)
    → (number : ℕ) (node : Point) → IsDue (dirty_points_at old.tree.dirty_points number) node → expires.dirty_points.first.0 ≤ node.0
leaf_taken old new point page copy first expires number node due =
    omega (arith, expires.dirty_points.least first.due.number first.leaf first.due.due, first.first number node due)

pub node_taken : (old : ZoneMap) (new : trees.Tree) (point : Point) (page : PageId) (copy : MapPage) → IsNodeFirst old → (expires : trees.Expires old.tree new point page copy)
    → (number : ℕ) (leaf : Point) → IsDue (dirty_points_at old.cache.dirty_points number) leaf → expires.dirty_points.first.0 < leaf.0
node_taken old new point page copy first expires number leaf due =
    let before = first.first number leaf due in
    omega (arith, expires.dirty_points.least before.1.number before.0 before.1.due, before.2)

pub takes_leaf : (known m : ZoneMap) (new : cached.CachedPages) (point : Point) (page : PageId) (at : Pbn) (copy : MapPage) (bytes : List ℕ) → m ≡ known → IsLeafFirst known
    → cached.Expires m.cache new point page copy → at ≡ copy.head.at → bytes ≡ page_bytes copy.head copy.mappings → TakesLeaf known (record m { cache = new }) point page at bytes
takes_leaf known m new point page at copy bytes same first expires at_is said =
    let first' = subst (λ (z : ZoneMap). IsLeafFirst z) (sym same) first in
    subst (λ (z : ZoneMap). TakesLeaf z (record m { cache = new }) point page at bytes) same (record {
      copy = copy;
      expires = expires;
      first = leaf_taken m new point page copy first' expires;
      spelled = record { placed = at_is; said = said };
      after = refl;
    })

pub takes_node : (known m : ZoneMap) (new : trees.Tree) (point : Point) (page : PageId) (at : Pbn) (copy : MapPage) (bytes : List ℕ) → m ≡ known → IsNodeFirst known
    → trees.Expires m.tree new point page copy → at ≡ copy.head.at → bytes ≡ page_bytes copy.head copy.mappings → TakesNode known (record m { tree = new }) point page at bytes
takes_node known m new point page at copy bytes same first expires at_is said =
    let first' = subst (λ (z : ZoneMap). IsNodeFirst z) (sym same) first in
    subst (λ (z : ZoneMap). TakesNode z (record m { tree = new }) point page at bytes) same (record {
      copy = copy;
      expires = expires;
      first = node_taken m new point page copy first' expires;
      spelled = record { placed = at_is; said = said };
      after = refl;
    })

-- the least point of what isn't durable
pub no_point : (dirty_points : List DirtyPoints) (number : ℕ) (point : Point) → AreClean dirty_points → HasPoint (dirty_points_at dirty_points number) point → ⊥
no_point dirty_points number point are (inl dirty) = none-some point (sym (ap (λ (m : DirtyPoints). m.dirty) (are number)) ∙ dirty)
no_point dirty_points number point are (inr writing) = none-some point (sym (ap (λ (m : DirtyPoints). m.writing) (are number)) ∙ writing)

pub low_some : (known m : ZoneMap) (leaf node result : Option Point) → m ≡ known → IfSome leaf (IsLowPoint m.cache.dirty_points) → IfNone leaf (AreClean m.cache.dirty_points)
    → IfSome node (IsLowPoint m.tree.dirty_points) → IfNone node (AreClean m.tree.dirty_points) → result ≡ lesser_point leaf node → IfSome result (IsLow known)
low_some known m leaf node result same is_leaf no_leaf is_node no_node is =
    subst (λ (z : ZoneMap). IfSome result (IsLow z)) same (subst (λ (o : Option Point). IfSome o (IsLow m)) (sym is) (low leaf node is_leaf no_leaf is_node no_node))
  where
    low : (leaf node : Option Point) → IfSome leaf (IsLowPoint m.cache.dirty_points) → IfNone leaf (AreClean m.cache.dirty_points)
        → IfSome node (IsLowPoint m.tree.dirty_points) → IfNone node (AreClean m.tree.dirty_points) → IfSome (lesser_point leaf node) (IsLow m)
    low None None is_leaf no_leaf is_node no_node = tt
    low None (Some node) is_leaf no_leaf is_node no_node = record {
      own = inr is_node;
      leaves = λ number point has. absurd (no_point m.cache.dirty_points number point no_leaf has);
      nodes = is_node.least;
    }
    low (Some leaf) None is_leaf no_leaf is_node no_node = record {
      own = inl is_leaf;
      leaves = is_leaf.least;
      nodes = λ number point has. absurd (no_point m.tree.dirty_points number point no_node has);
    }
    low (Some leaf) (Some node) is_leaf no_leaf is_node no_node = elim (leb_tells leaf.0 node.0) [
      | inl below ↦
          let here : record { 0 = min leaf.0 node.0 } ≡ leaf = ap (λ (n : ℕ). let p : Point = record { 0 = n } in p) (let b = leb-true leaf.0 node.0 below.0 in omega arith) in
          subst (λ (p : Point). IsLow m p) (sym here) (record {
            own = inl is_leaf;
            leaves = is_leaf.least;
            nodes = λ number point has. omega (arith, leb-true leaf.0 node.0 below.0, is_node.least number point has);
          })
      | inr above ↦
          let here : record { 0 = min leaf.0 node.0 } ≡ node = ap (λ (n : ℕ). let p : Point = record { 0 = n } in p) (let a = above.1 in omega arith) in
          subst (λ (p : Point). IsLow m p) (sym here) (record {
            own = inr is_node;
            leaves = λ number point has. omega (arith, above.1, is_leaf.least number point has);
            nodes = is_node.least;
          })
    ]

pub low_none : (known m : ZoneMap) (leaf node result : Option Point) → m ≡ known → IfNone leaf (AreClean m.cache.dirty_points) → IfNone node (AreClean m.tree.dirty_points)
    → result ≡ lesser_point leaf node → IfNone result (IsClean known)
low_none known m leaf node result same no_leaf no_node is =
    subst (λ (z : ZoneMap). IfNone result (IsClean z)) same (subst (λ (o : Option Point). IfNone o (IsClean m)) (sym is) (none leaf node no_leaf no_node))
  where
    none : (leaf node : Option Point) → IfNone leaf (AreClean m.cache.dirty_points) → IfNone node (AreClean m.tree.dirty_points) → IfNone (lesser_point leaf node) (IsClean m)
    none None None no_leaf no_node = record { leaves = no_leaf; nodes = no_node }
    none None (Some node) no_leaf no_node = tt
    none (Some leaf) None no_leaf no_node = tt
    none (Some leaf) (Some node) no_leaf no_node = tt

-- a leaf is installed, or the cache stays
pub installed_form : {A E : Type 0} (known m : ZoneMap) (new : cached.CachedPages) (page : PageId) (at : Pbn) (content : MapPage) (result : Result A E) → m ≡ known → IsZoneMap m
    → MayInstall known page → IsAt known.tree page at → content.head ≡ head_at m page at
    → OnOk result (cached.Fills m.cache new content ⊎ cached.GivesUp m.cache new content) → OnErr result (new ≡ m.cache) → IsZoneMap (record m { cache = new })
installed_form known m new page at content (Ok done) same form may stands head ok err =
    let may' = subst (λ (z : ZoneMap). MayInstall z page) (sym same) may in
    let stands' = subst (λ (z : ZoneMap). IsAt z.tree page at) (sym same) stands in
    let named : content.head.page ≡ page = ap (λ (h : PageHead). h.page) head in
    let placed : IsLeafAt m.tree content.head.page content.head.at
    = subst (λ (h : PageHead). IsLeafAt m.tree h.page h.at) (sym head) (record { level = may'.level; stands = stands' }) in
    cache_keeps m new (runs.Install content) form placed (subst (λ (p : PageId). cached.IsAbsent m.cache p) (sym named) may'.absent, ok)
installed_form known m new page at content (Err refused) same form may stands head ok err = subst (λ (c : cached.CachedPages). IsZoneMap (record m { cache = c })) (sym err) form
