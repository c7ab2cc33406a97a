-- Runs of a zone's map as runs of its cache and of its tree.
use Rattle.std.specs.Prelude.{ℕ, ◌≡◌, ◌≢◌, ◌≤◌, ◌%◌, List, [], ◌∷◌, refl}
use Rattle.blk_base.specs.Pages.{leaf_of}
use Rattle.blk_base.specs.declared.sizes.TheConstants.{PAGE_SLOTS}
use Rattle.std.proofs.Common.{ap, ◌∙◌, sym, subst, arith, inl, inr}
use Rattle.std.proofs.lemmas.Bool.Decides.{eqb_tells}
use Rattle.blk_base.specs.declared.journal_entry.Entry.TheVariants.{NewPage, Remap}
use Rattle.blk_base.specs.declared.place.PageId.{PageId}
use Rattle.blk_base.specs.declared.point.Point.{Point}
use Rattle.dirty_pages.specs.History.{IsInWrite, IsUnreported, IsUnwritten, IsWaiting}
use Rattle.dirty_pages.specs.DirtyPoints.{HasPoint, dirty_points_at}
use Rattle.page_codec.specs.declared.forms.MapPage.{MapPage}
use Rattle.block_map_tree.specs.History as history
use Rattle.block_map_tree.specs.Tree.{Tree}
use Rattle.block_map_tree.proofs.HistoryLaws as tree_laws
use Rattle.map_page_cache.specs.CachedPages.{CachedPages}
use Rattle.map_page_cache.specs.CachedPages as cached
use Rattle.map_page_cache.specs.Runs as runs
use Rattle.map_page_cache.proofs.RunLaws as cache_laws
use Rattle.map_zone.specs.Operations.{Apply, Operation, HandOut, Install, LeadTo, Leads, Write, events_of}
use Rattle.map_zone.specs.PageWrites.{IsClean, IsLow}
use Rattle.map_zone.specs.ZoneMap.{IsZoneMap, ZoneMap, head_at}
use Rattle.map_zone.proofs.KeepLaws.{IsFresh, IsPlaced, cache_keeps, forest_stays, tree_keeps}
use Rattle.map_zone.proofs.StepLaws.{no_point}

-- What the calls are for the cache and for the tree. A change of a leaf is one of the cache's, and a change of another page
-- is one of the tree's.
pub record Split (old : ZoneMap) (calls : List Operation) (new : ZoneMap) : Type 0 where
  pub form : IsZoneMap new
  pub forest : new.tree.forest ≡ old.tree.forest
  pub of_cache : List runs.Operation
  pub cache : runs.LeadTo old.cache of_cache new.cache
  pub of_tree : List history.Operation
  pub tree : history.LeadTo old.tree of_tree new.tree
  pub leaf_waits : (page : PageId) (point : Point) → page.level ≡ 0 → IsWaiting (events_of calls) page point → IsWaiting (runs.events_of of_cache) page point
  pub leaf_writes : (page : PageId) (point : Point) → page.level ≡ 0 → IsInWrite (events_of calls) page point → IsInWrite (runs.events_of of_cache) page point
  pub node_waits : (page : PageId) (point : Point) → page.level ≢ 0 → IsWaiting (events_of calls) page point → IsWaiting (history.events_of of_tree) page point
  pub node_writes : (page : PageId) (point : Point) → page.level ≢ 0 → IsInWrite (events_of calls) page point → IsInWrite (history.events_of of_tree) page point
  pub leaf_unreported : (page : PageId) → page.level ≡ 0 → IsUnreported (events_of calls) page → IsUnreported (runs.events_of of_cache) page
  pub node_unreported : (page : PageId) → page.level ≢ 0 → IsUnreported (events_of calls) page → IsUnreported (history.events_of of_tree) page

-- a page in memory is a leaf
pub in_level : (m : ZoneMap) (page : PageId) (frame : ℕ) (content : MapPage) → IsZoneMap m → cached.IsIn m.cache page frame content → page.level ≡ 0
in_level m page frame content form stands = (form.leaves page content ((frame, stands.inside, stands.is), stands.named)).level

cache_step : (between new : ZoneMap) (call : runs.Operation) → IsZoneMap between → IsPlaced between.tree call → runs.Leads between.cache call new.cache
    → new ≡ record between { cache = new.cache } → IsZoneMap new
cache_step between new call form placed leads after = subst (λ (m : ZoneMap). IsZoneMap m) (sym after) (cache_keeps between new.cache call form placed leads)

tree_step : (between new : ZoneMap) (call : history.Operation) → IsZoneMap between → IsFresh between.tree call → history.Leads between.tree call new.tree
    → new ≡ record between { tree = new.tree } → IsZoneMap new
tree_step between new call form fresh leads after = subst (λ (m : ZoneMap). IsZoneMap m) (sym after) (tree_keeps between new.tree call form fresh leads)

module _ (old between new : ZoneMap) (calls : List Operation) (split : Split old calls between) where
  -- a call of the cache, and what of it waits
  with_cache : (call : Operation) (c : runs.Operation) → IsPlaced between.tree c → runs.Leads between.cache c new.cache → new ≡ record between { cache = new.cache }
      → ((page : PageId) (point : Point) → page.level ≡ 0 → IsWaiting (events_of (call ∷ calls)) page point → IsWaiting (runs.events_of (c ∷ split.of_cache)) page point)
      → ((page : PageId) (point : Point) → page.level ≡ 0 → IsInWrite (events_of (call ∷ calls)) page point → IsInWrite (runs.events_of (c ∷ split.of_cache)) page point)
      → ((page : PageId) (point : Point) → page.level ≢ 0 → IsWaiting (events_of (call ∷ calls)) page point → IsWaiting (events_of calls) page point)
      → ((page : PageId) (point : Point) → page.level ≢ 0 → IsInWrite (events_of (call ∷ calls)) page point → IsInWrite (events_of calls) page point)
      → ((page : PageId) → page.level ≡ 0 → IsUnreported (events_of (call ∷ calls)) page → IsUnreported (runs.events_of (c ∷ split.of_cache)) page)
      → ((page : PageId) → IsUnreported (events_of (call ∷ calls)) page → IsUnreported (events_of calls) page) → Split old (call ∷ calls) new
  with_cache call c placed leads after waits writes beside beside' unreported before =
      let stays = ap (λ (m : ZoneMap). m.tree) after in
      record {
        form = cache_step between new c split.form placed leads after;
        forest = ap (λ (t : Tree). t.forest) stays ∙ split.forest;
        of_cache = c ∷ split.of_cache;
        cache = (between.cache, split.cache, leads);
        of_tree = split.of_tree;
        tree = subst (λ (t : Tree). history.LeadTo old.tree split.of_tree t) (sym stays) split.tree;
        leaf_waits = waits;
        leaf_writes = writes;
        node_waits = λ page point level is. split.node_waits page point level (beside page point level is);
        node_writes = λ page point level is. split.node_writes page point level (beside' page point level is);
        leaf_unreported = unreported;
        node_unreported = λ page level none. split.node_unreported page level (before page none);
      }

  -- and one of the tree
  with_tree : (call : Operation) (t : history.Operation) → IsFresh between.tree t → history.Leads between.tree t new.tree → new ≡ record between { tree = new.tree }
      → ((page : PageId) (point : Point) → page.level ≢ 0 → IsWaiting (events_of (call ∷ calls)) page point → IsWaiting (history.events_of (t ∷ split.of_tree)) page point)
      → ((page : PageId) (point : Point) → page.level ≢ 0 → IsInWrite (events_of (call ∷ calls)) page point → IsInWrite (history.events_of (t ∷ split.of_tree)) page point)
      → ((page : PageId) (point : Point) → page.level ≡ 0 → IsWaiting (events_of (call ∷ calls)) page point → IsWaiting (events_of calls) page point)
      → ((page : PageId) (point : Point) → page.level ≡ 0 → IsInWrite (events_of (call ∷ calls)) page point → IsInWrite (events_of calls) page point)
      → ((page : PageId) → page.level ≢ 0 → IsUnreported (events_of (call ∷ calls)) page → IsUnreported (history.events_of (t ∷ split.of_tree)) page)
      → ((page : PageId) → IsUnreported (events_of (call ∷ calls)) page → IsUnreported (events_of calls) page) → Split old (call ∷ calls) new
  with_tree call t fresh leads after waits writes beside beside' unreported before =
      let stays = ap (λ (m : ZoneMap). m.cache) after in
      record {
        form = tree_step between new t split.form fresh leads after;
        forest = forest_stays between.tree new.tree t split.form.tree leads ∙ split.forest;
        of_cache = split.of_cache;
        cache = subst (λ (c : CachedPages). runs.LeadTo old.cache split.of_cache c) (sym stays) split.cache;
        of_tree = t ∷ split.of_tree;
        tree = (between.tree, split.tree, leads);
        leaf_waits = λ page point level is. split.leaf_waits page point level (beside page point level is);
        leaf_writes = λ page point level is. split.leaf_writes page point level (beside' page point level is);
        node_waits = waits;
        node_writes = writes;
        leaf_unreported = λ page level none. split.leaf_unreported page level (before page none);
        node_unreported = unreported;
      }

  split_step : (call : Operation) → Leads between call new → Split old (call ∷ calls) new
  split_step (Apply (Remap at before now) point) (may, remaps) =
      with_cache (Apply (Remap at before now) point) (runs.Set (leaf_of at.0) (at.0 % PAGE_SLOTS) now point) tt remaps.sets remaps.after
      (λ page p level is. elim is [ inl this ↦ inl this | inr was ↦ inr (split.leaf_waits page p level was) ])
      (λ page p level is. split.leaf_writes page p level is)
      (λ page p level is. elim is [ inl this ↦ absurd (level (ap (λ (q : PageId). q.level) (sym this.0))) | inr was ↦ was ])
      (λ page p level is. is) (λ page level none. split.leaf_unreported page level none) (λ page none. none)
  split_step (Apply (NewPage page at) point) (may, adds) =
      with_tree (Apply (NewPage page at) point) (history.Link page at point) may.missing (may.linkable, adds.links) adds.after
      (λ other p level is. elim is [ inl this ↦ inl this | inr was ↦ inr (split.node_waits other p level was) ])
      (λ other p level is. split.node_writes other p level is)
      (λ other p level is. elim is [ inl this ↦ absurd (omega (arith, level, ap (λ (q : PageId). q.level) this.0)) | inr was ↦ was ])
      (λ other p level is. is) (λ other level none. split.node_unreported other level none) (λ other none. none)
  split_step (Install page bytes) (may, installs) =
      let content : MapPage = record { head = head_at between page installs.at; mappings = installs.mappings } in
      with_cache (Install page bytes) (runs.Install content) (record { level = may.level; stands = installs.stands }) (may.absent, installs.fills) installs.after
      (λ other p level is. split.leaf_waits other p level is) (λ other p level is. split.leaf_writes other p level is) (λ other p level is. is) (λ other p level is. is)
      (λ other level none. split.leaf_unreported other level none) (λ other none. none)
  split_step (HandOut page at bytes) (limit, inl takes) =
      let leaf = in_level between page takes.expires.frame takes.copy split.form takes.expires.stood in
      with_cache (HandOut page at bytes) (runs.HandOut page) tt (limit, takes.copy, takes.expires) takes.after
      (λ other p level is. (is.0, split.leaf_waits other p level is.1))
      (λ other p level is. elim is [ inl now ↦ inl (now.0, split.leaf_waits other p level now.1) | inr was ↦ inr (split.leaf_writes other p level was) ])
      (λ other p level is. is.1)
      (λ other p level is. elim is [ inl now ↦ absurd (level (ap (λ (q : PageId). q.level) (sym now.0) ∙ leaf)) | inr was ↦ was ])
      (λ other level none. split.leaf_unreported other level none) (λ other none. none)
  split_step (HandOut page at bytes) (limit, inr takes) =
      with_tree (HandOut page at bytes) (history.HandOut page) tt (limit, takes.copy, takes.expires) takes.after
      (λ other p level is. (is.0, split.node_waits other p level is.1))
      (λ other p level is. elim is [ inl now ↦ inl (now.0, split.node_waits other p level now.1) | inr was ↦ inr (split.node_writes other p level was) ])
      (λ other p level is. is.1)
      (λ other p level is. elim is [ inl now ↦ absurd (omega (arith, level, ap (λ (q : PageId). q.level) now.0, takes.expires.inner.level)) | inr was ↦ was ])
      (λ other level none. split.node_unreported other level none) (λ other none. none)
  split_step (Write page) (out, inl settles) =
      with_cache (Write page) (runs.Write page) tt (settles.out, settles.writes) settles.after
      (λ other p level is. split.leaf_waits other p level is)
      (λ other p level is. (is.0, split.leaf_writes other p level is.1))
      (λ other p level is. is) (λ other p level is. is.1)
      (λ other level none. (none.0, split.leaf_unreported other level none.1)) (λ other none. none.1)
  split_step (Write page) (out, inr settles) =
      with_tree (Write page) (history.Write page) tt (settles.out, settles.writes) settles.after
      (λ other p level is. split.node_waits other p level is)
      (λ other p level is. (is.0, split.node_writes other p level is.1))
      (λ other p level is. is) (λ other p level is. is.1)
      (λ other level none. (none.0, split.node_unreported other level none.1)) (λ other none. none.1)

pub split_of : (old new : ZoneMap) (calls : List Operation) → IsZoneMap old → LeadTo old calls new → Split old calls new
split_of old new [] form same = subst (λ (m : ZoneMap). Split old [] m) (sym same) (record {
  form = form;
  forest = refl;
  of_cache = [];
  cache = refl;
  of_tree = [];
  tree = refl;
  leaf_waits = λ page point level is. is;
  leaf_writes = λ page point level is. is;
  node_waits = λ page point level is. is;
  node_writes = λ page point level is. is;
  leaf_unreported = λ page level none. none;
  node_unreported = λ page level none. none;
})
split_of old new (call ∷ calls) form lead = split_step old lead.0 new calls (split_of old lead.0 calls form lead.1) call lead.2

-- an entry that isn't durable isn't below the low point
leaf_owed : (old new : ZoneMap) (calls : List Operation) (page : PageId) (point : Point) → IsZoneMap old → LeadTo old calls new → page.level ≡ 0 → IsUnwritten (events_of calls) page point
    → (number : ℕ) × (low : Point) × HasPoint (dirty_points_at new.cache.dirty_points number) low × (low.0 ≤ point.0)
leaf_owed old new calls page point form lead level unwritten =
    let split = split_of old new calls form lead in
    cache_laws.owed_point old.cache new.cache split.of_cache page point form.cache split.cache
    (elim unwritten [ inl waits ↦ inl (split.leaf_waits page point level waits) | inr writes ↦ inr (split.leaf_writes page point level writes) ])

node_owed : (old new : ZoneMap) (calls : List Operation) (page : PageId) (point : Point) → IsZoneMap old → LeadTo old calls new → page.level ≢ 0 → IsUnwritten (events_of calls) page point
    → (number : ℕ) × (low : Point) × HasPoint (dirty_points_at new.tree.dirty_points number) low × (low.0 ≤ point.0)
node_owed old new calls page point form lead level unwritten =
    let split = split_of old new calls form lead in
    tree_laws.owed_point old.tree new.tree split.of_tree page point form.tree split.tree
    (elim unwritten [ inl waits ↦ inl (split.node_waits page point level waits) | inr writes ↦ inr (split.node_writes page point level writes) ])

pub owed_from_low : (old new : ZoneMap) (calls : List Operation) (page : PageId) (point low : Point) → IsZoneMap old → LeadTo old calls new → IsUnwritten (events_of calls) page point
    → IsLow new low → low.0 ≤ point.0
owed_from_low old new calls page point low form lead unwritten is =
    elim (eqb_tells page.level 0) [
      | inl leaf ↦ let has = leaf_owed old new calls page point form lead leaf.1 unwritten in omega (arith, is.leaves has.0 has.1 has.2, has.3)
      | inr node ↦ let has = node_owed old new calls page point form lead node.1 unwritten in omega (arith, is.nodes has.0 has.1 has.2, has.3)
    ]

pub owed_not_clean : (old new : ZoneMap) (calls : List Operation) (page : PageId) (point : Point) → IsZoneMap old → LeadTo old calls new → IsUnwritten (events_of calls) page point
    → IsClean new → ⊥
owed_not_clean old new calls page point form lead unwritten is =
    elim (eqb_tells page.level 0) [
      | inl leaf ↦ let has = leaf_owed old new calls page point form lead leaf.1 unwritten in no_point new.cache.dirty_points has.0 has.1 is.leaves has.2
      | inr node ↦ let has = node_owed old new calls page point form lead node.1 unwritten in no_point new.tree.dirty_points has.0 has.1 is.nodes has.2
    ]
