-- A page is out until it is written, and one that is no leaf leads to the pages that are linked.
use Rattle.std.specs.Prelude.{ℕ, ◌≡◌, ◌≢◌, ◌⊎◌, ◌↔◌, List, [], ◌∷◌, slice_index_or}
use Rattle.std.proofs.Common.{ap, ◌∙◌, sym, subst, arith, inl, inr}
use Rattle.blk_base.specs.declared.journal_entry.Entry.TheVariants.{NewPage, Remap}
use Rattle.blk_base.specs.declared.place.Mapping.{Mapping}
use Rattle.blk_base.specs.declared.place.Mapping.TheVariants.{At, Unmapped}
use Rattle.blk_base.specs.declared.place.PageId.{PageId}
use Rattle.blk_base.specs.declared.place.Pbn.{Pbn}
use Rattle.blk_base.specs.declared.point.Point.{Point}
use Rattle.blk_base.proofs.PageIdLaws.{same_or_not}
use Rattle.blk_base.specs.Pages.{above, slot_of}
use Rattle.dirty_pages.specs.declared.dirty_points.DirtyPoints.{DirtyPoints}
use Rattle.dirty_pages.specs.History.{IsUnreported}
use Rattle.dirty_pages.specs.DirtyPoints.{handed_out, dirty_points_at}
use Rattle.dirty_pages.proofs.DirtyPointLaws.{changed_here, due_inside}
use Rattle.page_codec.specs.Grammar.{AreHeld, IsPage, IsSlot}
use Rattle.page_codec.specs.declared.forms.MapPage.{MapPage}
use Rattle.page_codec.specs.declared.forms.PageHead.{PageHead}
use Rattle.page_codec.proofs.ReadLaws.{one_mapping, slots}
use Rattle.block_map_tree.specs.History as history
use Rattle.block_map_tree.specs.Pages.{IsLower}
use Rattle.block_map_tree.specs.Tree.{IsAt, Tree, as_root, by_link, mappings_of}
use Rattle.block_map_tree.specs.Tree as trees
use Rattle.block_map_tree.proofs.HistoryLaws as tree_laws
use Rattle.block_map_tree.proofs.OneLaws.{one_at}
use Rattle.block_map_tree.proofs.TreeLaws.{dirty_points_move_none_back}
use Rattle.map_page_cache.specs.CachedPages.{CachedPages, IsIn}
use Rattle.map_page_cache.specs.CachedPages as cached
use Rattle.map_page_cache.proofs.RunLaws as cache_laws
use Rattle.map_zone.specs.Operations.{Apply, Operation, HandOut, HasLink, Install, LeadTo, Leads, Write, events_of}
use Rattle.map_zone.specs.PageWrites.{IsOut, Takes}
use Rattle.map_zone.specs.ZoneMap.{IsZoneMap, ZoneMap, head_at}
use Rattle.map_zone.proofs.OperationLaws.{in_level, split_of}
use Rattle.map_zone.proofs.KeepLaws.{stays_at}
use Rattle.map_zone.proofs.ShownLaws.{same_head}

leaf_is_out : (old new : CachedPages) (point : Point) (page : PageId) (copy : MapPage) → cached.Expires old new point page copy → cached.IsWriting new page
leaf_is_out old new point page copy expires =
    let stood : IsIn (record old { dirty_points = new.dirty_points }) page expires.frame copy = record { inside = expires.stood.inside; is = expires.stood.is; named = expires.stood.named } in
    let inside = due_inside old.dirty_points expires.frame expires.dirty_points.first expires.dirty_points.due in
    record {
      frame = expires.frame;
      content = copy;
      stands = subst (λ (c : CachedPages). IsIn c page expires.frame copy) (sym expires.after) stood;
      dirty_points = record {
        first = expires.dirty_points.first;
        is = ap (λ (m : DirtyPoints). m.writing) (ap (λ (ms : List DirtyPoints). dirty_points_at ms expires.frame) expires.dirty_points.after ∙ changed_here old.dirty_points expires.frame handed_out inside) ∙ expires.dirty_points.due.dirty;
      };
    }

pub taken_out : (old new : ZoneMap) (point : Point) (page : PageId) (at : Pbn) (bytes : List ℕ) → Takes old new point page at bytes → IsOut new page
taken_out old new point page at bytes (inl takes) = inl (leaf_is_out old.cache new.cache point page takes.copy takes.expires)
taken_out old new point page at bytes (inr takes) = inr (tree_laws.is_out old.tree new.tree page point takes.copy takes.expires)

pub stays_out : (old new : ZoneMap) (calls : List Operation) (page : PageId) → IsZoneMap old → LeadTo old calls new → IsUnreported (events_of calls) page → IsOut old page → IsOut new page
stays_out old new calls page form lead none (inl leaf) =
    let split = split_of old new calls form lead in
    let level = in_level old page leaf.frame leaf.content form leaf.stands in
    inl (cache_laws.still_out old.cache new.cache split.of_cache page form.cache split.cache (split.leaf_unreported page level none) leaf)
stays_out old new calls page form lead none (inr node) =
    let split = split_of old new calls form lead in
    let level : page.level ≢ 0 = λ (e : page.level ≡ 0). omega (arith, node.inner.level, e) in
    inr (tree_laws.still_out old.tree new.tree split.of_tree page form.tree split.tree (split.node_unreported page level none) node)

pub not_out : (old new : ZoneMap) (point : Point) (page : PageId) (at : Pbn) (bytes : List ℕ) → IsZoneMap old → Takes old new point page at bytes → IsOut old page → ⊥
not_out old new point page at bytes form (inl takes) (inl leaf) = cache_laws.not_out_before old.cache new.cache page point takes.copy form.cache takes.expires leaf
not_out old new point page at bytes form (inl takes) (inr node) = omega (arith, in_level old page takes.expires.frame takes.copy form takes.expires.stood, node.inner.level)
not_out old new point page at bytes form (inr takes) (inl leaf) = omega (arith, in_level old page leaf.frame leaf.content form leaf.stands, takes.expires.inner.level)
not_out old new point page at bytes form (inr takes) (inr node) = tree_laws.not_out_before old.tree new.tree page point takes.copy takes.expires node

-- what a page above leads to
pub leads_to : (old new : ZoneMap) (point : Point) (page : PageId) (at : Pbn) (bytes : List ℕ) (child : PageId) (b : Pbn) → IsZoneMap old → Takes old new point page at bytes
    → IsLower old.tree.forest child → above child ≡ page → IsSlot (head_at old page at) bytes (slot_of child) (At b) ↔ IsAt old.tree child b
leads_to old new point page at bytes child b form (inl takes) lower up =
    absurd (omega (arith, in_level old page takes.expires.frame takes.copy form takes.expires.stood, ap (λ (p : PageId). p.level) up))
leads_to old new point page at bytes child b form (inr takes) lower up =
    let e = takes.expires in
    let head : takes.copy.head ≡ head_at old page at = same_head takes.copy.head (head_at old page at) e.geometry e.page (sym takes.spelled.placed) in
    let held : AreHeld takes.copy.head.geometry takes.copy.head.page.level takes.copy.mappings
    = subst (λ (h : PageHead). AreHeld h.geometry h.page.level takes.copy.mappings) (sym head) e.held in
    let reads : IsPage (head_at old page at) bytes takes.copy.mappings
    = subst (λ (h : PageHead). IsPage h bytes takes.copy.mappings) head (record { spelled = takes.spelled.said; held = held }) in
    let slot = slots (head_at old page at) bytes takes.copy.mappings (slot_of child) reads (omega arith) in
    let row : slice_index_or takes.copy.mappings (slot_of child) Unmapped ≡ trees.mapping_of old.tree (above child) (slot_of child)
    = ap (λ (ms : List Mapping). slice_index_or ms (slot_of child) Unmapped) (e.mappings ∙ ap (λ (p : PageId). mappings_of old.tree p) (sym up)) in (
      (λ says. by_link lower (sym row ∙ one_mapping (head_at old page at) bytes (slot_of child) _ (At b) slot says)),
      (λ stands. subst (λ (m : Mapping). IsSlot (head_at old page at) bytes (slot_of child) m) (row ∙ linked stands) slot),
    )
  where
    linked : IsAt old.tree child b → trees.mapping_of old.tree (above child) (slot_of child) ≡ At b
    linked (as_root root is) = absurd (omega (arith, root.level, lower.level))
    linked (by_link low leads) = leads

-- a page stands where it was linked
tree_same : (between new : ZoneMap) (page : PageId) (at : Pbn) → new ≡ record between { cache = new.cache } → IsAt between.tree page at → IsAt new.tree page at
tree_same between new page at after stands = subst (λ (t : Tree). IsAt t page at) (sym (ap (λ (m : ZoneMap). m.tree) after)) stands

tree_was : (between new : ZoneMap) (page : PageId) (at : Pbn) → new ≡ record between { cache = new.cache } → IsAt new.tree page at → IsAt between.tree page at
tree_was between new page at after stands = subst (λ (t : Tree). IsAt t page at) (ap (λ (m : ZoneMap). m.tree) after) stands

still_at : (between new : ZoneMap) (call : Operation) (page : PageId) (at : Pbn) → IsZoneMap between → Leads between call new → IsAt between.tree page at → IsAt new.tree page at
still_at between new (Apply (Remap address was now) point) page at form leads stands = tree_same between new page at leads.1.after stands
still_at between new (Apply (NewPage linked b) point) page at form (may, adds) stands =
    stays_at between.tree new.tree (history.Link linked b point) page at form.tree may.missing (may.linkable, adds.links) stands
still_at between new (Install leaf bytes) page at form leads stands = tree_same between new page at leads.1.after stands
still_at between new (HandOut out b bytes) page at form (point, inl takes) stands = tree_same between new page at takes.after stands
still_at between new (HandOut out b bytes) page at form (point, inr takes) stands =
    stays_at between.tree new.tree (history.HandOut out) page at form.tree tt (point, takes.copy, takes.expires) stands
still_at between new (Write out) page at form (is, inl settles) stands = tree_same between new page at settles.after stands
still_at between new (Write out) page at form (is, inr settles) stands = stays_at between.tree new.tree (history.Write out) page at form.tree tt (settles.out, settles.writes) stands

pub linked_at : (old new : ZoneMap) (calls : List Operation) (page : PageId) (at : Pbn) → IsZoneMap old → LeadTo old calls new → IsAt old.tree page at ⊎ HasLink calls page at → IsAt new.tree page at
linked_at old new [] page at form same (inl stands) = subst (λ (m : ZoneMap). IsAt m.tree page at) (sym same) stands
linked_at old new [] page at form same (inr never) = absurd never
linked_at old new (call ∷ calls) page at form lead has =
    step call lead.2 (split_of old lead.0 calls form lead.1).form (λ was. linked_at old lead.0 calls page at form lead.1 was) has
  where
    step : (c : Operation) → Leads lead.0 c new → IsZoneMap lead.0 → (IsAt old.tree page at ⊎ HasLink calls page at → IsAt lead.0.tree page at)
        → IsAt old.tree page at ⊎ HasLink (c ∷ calls) page at → IsAt new.tree page at
    step (Apply (NewPage linked b) point) (may, adds) form' before (inr (inl this)) =
        subst (λ (k : Pbn). IsAt new.tree page k) this.1 (subst (λ (p : PageId). IsAt new.tree p b) this.0
        (tree_laws.link_here lead.0.tree new.tree linked b point form'.tree may.linkable adds.links))
    step (Apply (NewPage linked b) point) leads form' before (inr (inr was)) = still_at lead.0 new (Apply (NewPage linked b) point) page at form' leads (before (inr was))
    step (Apply (NewPage linked b) point) leads form' before (inl stood) = still_at lead.0 new (Apply (NewPage linked b) point) page at form' leads (before (inl stood))
    step (Apply (Remap address was now) point) leads form' before has' = still_at lead.0 new (Apply (Remap address was now) point) page at form' leads (before has')
    step (Install leaf bytes) leads form' before has' = still_at lead.0 new (Install leaf bytes) page at form' leads (before has')
    step (HandOut out b bytes) leads form' before has' = still_at lead.0 new (HandOut out b bytes) page at form' leads (before has')
    step (Write out) leads form' before has' = still_at lead.0 new (Write out) page at form' leads (before has')

-- and only there
was_at : (between new : ZoneMap) (call : Operation) (page : PageId) (at : Pbn) → IsZoneMap between → Leads between call new → IsAt new.tree page at
    → IsAt between.tree page at ⊎ HasLink (call ∷ []) page at
was_at between new (Apply (Remap address was now) point) page at form leads stands = inl (tree_was between new page at leads.1.after stands)
was_at between new (Apply (NewPage linked b) point) page at form (may, adds) stands = elim (same_or_not linked page) [
  | inl same ↦
      let here = tree_laws.link_here between.tree new.tree linked b point form.tree may.linkable adds.links in
      inr (inl (same, one_at new.tree page b at (subst (λ (p : PageId). IsAt new.tree p b) same here) stands))
  | inr apart ↦ inl ((tree_laws.link_others between.tree new.tree linked b point form.tree may.linkable adds.links page at (λ same. apart (sym same))).1 stands)
]
was_at between new (Install leaf bytes) page at form leads stands = inl (tree_was between new page at leads.1.after stands)
was_at between new (HandOut out b bytes) page at form (point, inl takes) stands = inl (tree_was between new page at takes.after stands)
was_at between new (HandOut out b bytes) page at form (point, inr takes) stands =
    inl (dirty_points_move_none_back between.tree _ page at (subst (λ (t : Tree). IsAt t page at) takes.expires.set stands))
was_at between new (Write out) page at form (is, inl settles) stands = inl (tree_was between new page at settles.after stands)
was_at between new (Write out) page at form (is, inr settles) stands = inl (dirty_points_move_none_back between.tree _ page at (subst (λ (t : Tree). IsAt t page at) settles.writes.set stands))

one_more : (call : Operation) (calls : List Operation) (page : PageId) (at : Pbn) → HasLink (call ∷ []) page at ⊎ HasLink calls page at → HasLink (call ∷ calls) page at
one_more (Apply (NewPage linked b) point) calls page at (inl (inl this)) = inl this
one_more (Apply (NewPage linked b) point) calls page at (inl (inr never)) = absurd never
one_more (Apply (NewPage linked b) point) calls page at (inr was) = inr was
one_more (Apply (Remap address was now) point) calls page at (inl never) = absurd never
one_more (Apply (Remap address was now) point) calls page at (inr had) = had
one_more (Install leaf bytes) calls page at (inl never) = absurd never
one_more (Install leaf bytes) calls page at (inr was) = was
one_more (HandOut out b bytes) calls page at (inl never) = absurd never
one_more (HandOut out b bytes) calls page at (inr was) = was
one_more (Write out) calls page at (inl never) = absurd never
one_more (Write out) calls page at (inr was) = was

pub link_from : (old new : ZoneMap) (calls : List Operation) (page : PageId) (at : Pbn) → IsZoneMap old → LeadTo old calls new → IsAt new.tree page at → IsAt old.tree page at ⊎ HasLink calls page at
link_from old new [] page at form same stands = inl (subst (λ (m : ZoneMap). IsAt m.tree page at) same stands)
link_from old new (call ∷ calls) page at form lead stands =
    elim (was_at lead.0 new call page at (split_of old lead.0 calls form lead.1).form lead.2 stands) [
      | inl before ↦ elim (link_from old lead.0 calls page at form lead.1 before) [ inl stood ↦ inl stood | inr had ↦ inr (one_more call calls page at (inr had)) ]
      | inr now ↦ inr (one_more call calls page at (inl now))
    ]
