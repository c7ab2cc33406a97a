-- What calls change, and that no link is lost over them.
use Rattle.std.specs.Prelude.{ℕ, ◌≡◌, ◌≢◌, ◌<◌, ◌≤◌, ◌+◌, ◌⊎◌, ◌↔◌, List, [], ◌∷◌, length, slice_index_or, slice_set, refl}
use Rattle.std.proofs.Common.{sym, ◌∙◌, ap, subst, inl, inr, arith}
use Rattle.std.proofs.lemmas.List.{get_or-set_same}
use Rattle.blk_base.specs.declared.place.PageId.{PageId}
use Rattle.blk_base.specs.declared.place.Pbn.{Pbn}
use Rattle.blk_base.specs.declared.place.Mapping.{Mapping}
use Rattle.blk_base.specs.declared.place.Mapping.TheVariants.{Unmapped, At}
use Rattle.blk_base.specs.declared.point.Point.{Point}
use Rattle.blk_base.specs.Regions.{Root, block_of}
use Rattle.blk_base.specs.Pages.{above, slot_of, page_above}
use Rattle.plain_laws.proofs.LeadLaws.{leads_keep}
use Rattle.page_codec.specs.declared.forms.MapPage.{MapPage}
use Rattle.dirty_pages.specs.declared.dirty_points.DirtyPoints.{DirtyPoints}
use Rattle.dirty_pages.specs.DirtyPoints.{HasPoint, IsLowPoint, AreClean, dirty_points_at, with_dirty_points, changed_at, handed_out, settled}
use Rattle.dirty_pages.specs.History.{IsWaiting, IsUnwritten, IsUnreported, Becomes, IsAfter, AtMost}
use Rattle.dirty_pages.proofs.DirtyPointLaws.{due_inside, out_inside}
use Rattle.dirty_pages.proofs.HistoryLaws as dirty
use Rattle.block_map_tree.specs.declared.forms.Forest.{Forest}
use Rattle.block_map_tree.specs.declared.forms.Path.{Path}
use Rattle.block_map_tree.specs.declared.forms.Found.TheVariants.{Missing}
use Rattle.block_map_tree.specs.Pages.{IsTreeOf, IsOnPath, IsRoot, IsLower, IsInner, page_on}
use Rattle.block_map_tree.specs.Tree.{Tree, IsTree, IsAt, as_root, by_link, IsThere, IsFound, IsLinkable, Links, Expires, IsWriting, number_of, dirty_points_of, mappings_of, mapping_of}
use Rattle.block_map_tree.specs.History.{Operation, Link, HandOut, Write, Leads, LeadTo, event_of, events_of}
use Rattle.dirty_pages.proofs.PageLists.{at_set}
use Rattle.block_map_tree.proofs.PageLaws.{one_number, one_below, lower_on_path, above_at, above_inner}
use Rattle.block_map_tree.proofs.TreeLaws.{place_above}

-- what a link does to the slots
link_reads : (old new : Tree) (page : PageId) (at : Pbn) (point : Point) (other : PageId) (slot : ℕ) → IsTree old → IsLinkable old page
    → Links old new page at point
    → ((number_of old.forest other ≡ number_of old.forest (above page)) × (slot ≡ slot_of page) × (mapping_of new other slot ≡ At at))
    ⊎ (((number_of old.forest other ≡ number_of old.forest (above page)) → slot ≡ slot_of page → ⊥) × (mapping_of new other slot ≡ mapping_of old other slot))
link_reads old new page at point other slot form linkable links =
    let n = number_of old.forest (above page) in
    let m = number_of old.forest other in
    let row = mappings_of old (above page) in
    let place = place_above old page form linkable in
    let read : mapping_of new other slot ≡ slice_index_or (slice_index_or (slice_set old.pages n (slice_set row (slot_of page) (At at))) m []) slot Unmapped =
    ap (λ (t : Tree). mapping_of t other slot) links.set in
    elim (at_set old.pages n m (slice_set row (slot_of page) (At at)) [] place.page_inside) [
      | inl same ↦ elim (at_set row (slot_of page) slot (At at) Unmapped place.slot_inside) [
        | inl hit ↦ inl (same.0, hit.0, read ∙ ap (λ (r : List Mapping). slice_index_or r slot Unmapped) same.1 ∙ hit.1)
        | inr miss ↦ inr (
          (λ s e. miss.0 e),
          read ∙ ap (λ (r : List Mapping). slice_index_or r slot Unmapped) same.1 ∙ miss.1
              ∙ ap (λ (k : ℕ). slice_index_or (slice_index_or old.pages k []) slot Unmapped) (sym same.0),
        )
      ]
      | inr elsewhere ↦ inr ((λ s e. elsewhere.0 s), read ∙ ap (λ (r : List Mapping). slice_index_or r slot Unmapped) elsewhere.1)
    ]

-- the page is there after it is linked
pub link_here : (old new : Tree) (page : PageId) (at : Pbn) (point : Point) → IsTree old → IsLinkable old page → Links old new page at point → IsAt new page at
link_here old new page at point form linkable links =
    let lower = lower_on_path old.forest page form.forest linkable.path linkable.lower in
    let forest : old.forest ≡ new.forest = sym (ap (λ (t : Tree). t.forest) links.set) in
    elim (link_reads old new page at point (above page) (slot_of page) form linkable links) [
      | inl hit ↦ by_link (subst (λ (f : Forest). IsLower f page) forest lower) hit.2
      | inr miss ↦ absurd (miss.0 refl refl)
    ]

-- and all others are as before
pub link_others : (old new : Tree) (page : PageId) (at : Pbn) (point : Point) → IsTree old → IsLinkable old page → Links old new page at point
    → (other : PageId) (b : Pbn) → (other ≡ page → ⊥) → IsAt old other b ↔ IsAt new other b
link_others old new page at point form linkable links other b apart =
    let lower = lower_on_path old.forest page form.forest linkable.path linkable.lower in
    let forest : new.forest ≡ old.forest = ap (λ (t : Tree). t.forest) links.set in
    let same : IsLower old.forest other → mapping_of new (above other) (slot_of other) ≡ mapping_of old (above other) (slot_of other) =
    λ low. elim (link_reads old new page at point (above other) (slot_of other) form linkable links) [
      | inl hit ↦ absurd (apart (one_below old.forest other page form.forest low lower hit.0 hit.1))
      | inr miss ↦ miss.1
    ] in (
      (λ stands. elim stands [
        | as_root r e ↦ subst (λ (t : Tree). IsAt t other b) (sym links.set) (as_root r e)
        | by_link l e ↦ by_link (subst (λ (f : Forest). IsLower f other) (sym forest) l) (same l ∙ e)
      ]),
      λ stands. elim stands [
        | as_root r e ↦ as_root (subst (λ (f : Forest). IsRoot f other) forest r) (e ∙ ap (λ (f : Forest). block_of f.geometry (Root other.tree)) forest)
        | by_link l e ↦
            let l' = subst (λ (f : Forest). IsLower f other) forest l in
            by_link l' (sym (same l') ∙ e)
      ],
    )

-- the dirty points of one page after a call that changes those of one page
dirty_points_after : (old new : Tree) (changed : PageId) (change : DirtyPoints → DirtyPoints) (pages : List (List Mapping)) (page : PageId) → IsTree old → IsInner old.forest changed
    → IsInner old.forest page → number_of old.forest changed < length old.dirty_points
    → new ≡ record { forest = old.forest; pages = pages; dirty_points = with_dirty_points old.dirty_points (number_of old.forest changed) change }
    → ((changed ≡ page) × (dirty_points_of new page ≡ change (dirty_points_of old page))) ⊎ ((changed ≢ page) × (dirty_points_of new page ≡ dirty_points_of old page))
dirty_points_after old new changed change pages page form inner inner' inside set =
    let read = ap (λ (t : Tree). dirty_points_of t page) set in
    elim (at_set old.dirty_points (number_of old.forest changed) (number_of old.forest page) (change (dirty_points_of old changed)) (dirty_points_at [] 0) inside) [
      | inl hit ↦
          let same = one_number old.forest changed page form.forest inner inner' (sym hit.0) in
          inl (same, read ∙ hit.1 ∙ ap (λ (p : PageId). change (dirty_points_of old p)) same)
      | inr miss ↦ inr ((λ same. miss.0 (ap (λ (p : PageId). number_of old.forest p) (sym same))), read ∙ miss.1)
    ]

-- what a call makes of the dirty points of a page
becomes : (old new : Tree) (call : Operation) (page : PageId) → IsTree old → IsInner old.forest page → Leads old call new
    → Becomes (event_of call) page (dirty_points_of old page) (dirty_points_of new page)
becomes old new (Link linked at point) page form inner leads =
    let lower = lower_on_path old.forest linked form.forest leads.0.path leads.0.lower in
    dirty_points_after old new (above linked) (changed_at point) _ page form (above_inner old.forest linked form.forest lower) inner (place_above old linked form leads.0).dirty_points_inside leads.1.set
becomes old new (HandOut out) page form inner leads =
    let expires = leads.2 in
    let inside = due_inside old.dirty_points (number_of old.forest out) expires.dirty_points.first expires.dirty_points.due in
    elim (dirty_points_after old new out handed_out old.pages page form expires.inner inner inside expires.set) [
      | inl hit ↦ inl (hit.0, ap (λ (p : PageId). (dirty_points_of old p).writing) (sym hit.0) ∙ expires.dirty_points.due.idle, hit.1)
      | inr miss ↦ inr miss
    ]
becomes old new (Write out) page form inner leads =
    dirty_points_after old new out settled old.pages page form leads.0.inner inner (out_inside old.dirty_points (number_of old.forest out) leads.0.dirty_points) leads.1.set

-- calls keep a tree, and its trees are those of the zone
call_keeps : (old new : Tree) (call : Operation) → Leads old call new → IsTree new × (new.forest ≡ old.forest)
call_keeps old new (Link page at point) leads = (leads.1.form, ap (λ (t : Tree). t.forest) leads.1.set)
call_keeps old new (HandOut page) leads = (leads.2.form, ap (λ (t : Tree). t.forest) leads.2.set)
call_keeps old new (Write page) leads = (leads.1.form, ap (λ (t : Tree). t.forest) leads.1.set)

pub calls_keep : (old new : Tree) (calls : List Operation) → IsTree old → LeadTo old calls new → IsTree new × (new.forest ≡ old.forest)
calls_keep old new calls form lead = leads_keep (λ call before after. Leads before call after) (λ tree. IsTree tree × (tree.forest ≡ old.forest)) (λ call before after kept leads.
    let last = call_keeps before after call leads in
    (last.0, last.1 ∙ kept.1)) old new calls (form, refl) lead

-- the dirty points of a page follow from what the calls do to it
after : (old new : Tree) (calls : List Operation) (page : PageId) → IsTree old → LeadTo old calls new → IsInner old.forest page
    → IsAfter (dirty_points_of old page) (events_of calls) page (dirty_points_of new page)
after old new [] page form same inner = ap (λ (t : Tree). dirty_points_of t page) same
after old new (call ∷ calls) page form lead inner =
    let keep = calls_keep old lead.0 calls form lead.1 in (
      dirty_points_of lead.0 page,
      after old lead.0 calls page form lead.1 inner,
      becomes lead.0 new call page keep.0 (subst (λ (f : Forest). IsInner f page) (sym keep.1) inner) lead.2,
    )

-- a page that was changed is no leaf
unwritten_inner : (old new : Tree) (calls : List Operation) (page : PageId) (point : Point) → IsTree old → LeadTo old calls new
    → IsUnwritten (events_of calls) page point → IsInner old.forest page
unwritten_inner old new [] page point form lead unwritten = elim unwritten [ inl wait ↦ absurd wait | inr out ↦ absurd out ]
unwritten_inner old new (Link linked at since ∷ calls) page point form lead unwritten =
    let past = unwritten_inner old lead.0 calls page point form lead.1 in
    elim unwritten [
      | inl (inl now) ↦
          let keep = calls_keep old lead.0 calls form lead.1 in
          let lower = lower_on_path lead.0.forest linked keep.0.forest lead.2.0.path lead.2.0.lower in
          let inner = above_inner lead.0.forest linked keep.0.forest lower in
          subst (λ (p : PageId). IsInner old.forest p) now.0 (subst (λ (f : Forest). IsInner f (above linked)) keep.1 inner)
      | inl (inr wait) ↦ past (inl wait)
      | inr out ↦ past (inr out)
    ]
unwritten_inner old new (HandOut handed ∷ calls) page point form lead unwritten =
    let past = unwritten_inner old lead.0 calls page point form lead.1 in
    elim unwritten [ inl wait ↦ past (inl wait.1) | inr (inl now) ↦ past (inl now.1) | inr (inr out) ↦ past (inr out) ]
unwritten_inner old new (Write handed ∷ calls) page point form lead unwritten =
    let past = unwritten_inner old lead.0 calls page point form lead.1 in
    elim unwritten [ inl wait ↦ past (inl wait) | inr out ↦ past (inr out.1) ]

unwritten_after : (old new : Tree) (calls : List Operation) (page : PageId) (point : Point) → IsTree old → LeadTo old calls new
    → IsUnwritten (events_of calls) page point → IsAfter (dirty_points_of old page) (events_of calls) page (dirty_points_of new page)
unwritten_after old new calls page point form lead unwritten = after old new calls page form lead (unwritten_inner old new calls page point form lead unwritten)

-- a link that waits will be handed out
pub kept : (old new : Tree) (calls : List Operation) (page : PageId) (point : Point) → IsTree old → LeadTo old calls new
    → IsWaiting (events_of calls) page point → AtMost (dirty_points_of new page).dirty point
kept old new calls page point form lead wait =
    dirty.waits (dirty_points_of old page) (dirty_points_of new page) (events_of calls) page point (unwritten_after old new calls page point form lead (inl wait)) wait

pub not_below : (old new : Tree) (calls : List Operation) (page : PageId) (point low : Point) → IsTree old → LeadTo old calls new
    → IsUnwritten (events_of calls) page point → IsLowPoint new.dirty_points low → low.0 ≤ point.0
not_below old new calls page point low form lead unwritten is_low =
    dirty.not_below (dirty_points_of old page) new.dirty_points (number_of new.forest page) (events_of calls) page point low (unwritten_after old new calls page point form lead unwritten) unwritten is_low

pub not_written : (old new : Tree) (calls : List Operation) (page : PageId) (point : Point) → IsTree old → LeadTo old calls new
    → IsUnwritten (events_of calls) page point → AreClean new.dirty_points → ⊥
not_written old new calls page point form lead unwritten written =
    dirty.not_clean (dirty_points_of old page) (dirty_points_of new page) (events_of calls) page point (unwritten_after old new calls page point form lead unwritten) unwritten (written (number_of new.forest page))

-- its page has a point that isn't above it
pub owed_point : (old new : Tree) (calls : List Operation) (page : PageId) (point : Point) → IsTree old → LeadTo old calls new → IsUnwritten (events_of calls) page point
    → (number : ℕ) × (low : Point) × HasPoint (dirty_points_at new.dirty_points number) low × (low.0 ≤ point.0)
owed_point old new calls page point form lead unwritten =
    let has = dirty.has_point (dirty_points_of old page) (dirty_points_of new page) (events_of calls) page point (unwritten_after old new calls page point form lead unwritten) unwritten in
    (number_of new.forest page, has.0, has.1, has.2)

-- a page that was handed out is being written until it is reported
pub is_out : (old new : Tree) (page : PageId) (point : Point) (into : MapPage) → Expires old new point page into → IsWriting new page
is_out old new page point into expires =
    let inside = due_inside old.dirty_points (number_of old.forest page) expires.dirty_points.first expires.dirty_points.due in
    let forest : old.forest ≡ new.forest = sym (ap (λ (t : Tree). t.forest) expires.set) in
    record {
      inner = subst (λ (f : Forest). IsInner f page) forest expires.inner;
      dirty_points = record {
        first = expires.dirty_points.first;
        is = ap (λ (t : Tree). (dirty_points_of t page).writing) expires.set
            ∙ ap (λ (m : DirtyPoints). m.writing) (get_or-set_same old.dirty_points (number_of old.forest page) (handed_out (dirty_points_of old page)) (dirty_points_at [] 0) inside)
            ∙ expires.dirty_points.due.dirty;
      };
    }

pub still_out : (old new : Tree) (calls : List Operation) (page : PageId) → IsTree old → LeadTo old calls new
    → IsUnreported (events_of calls) page → IsWriting old page → IsWriting new page
still_out old new calls page form lead unreported out =
    let keep = calls_keep old new calls form lead in
    record {
      inner = subst (λ (f : Forest). IsInner f page) (sym keep.1) out.inner;
      dirty_points = record {
        first = out.dirty_points.first;
        is = dirty.still_out (dirty_points_of old page) (dirty_points_of new page) (events_of calls) page out.dirty_points.first (after old new calls page form lead out.inner) unreported out.dirty_points.is;
      };
    }

pub not_out_before : (old new : Tree) (page : PageId) (point : Point) (into : MapPage) → Expires old new point page into → IsWriting old page → ⊥
not_out_before old new page point into expires out = let idle = expires.dirty_points.due.idle in let some = out.dirty_points.is in cc

-- the highest page that a path of the logical size misses may be linked
pub missing_linkable : (tree : Tree) (path : Path) (address level : ℕ) → IsTree tree → address < tree.forest.geometry.logical
    → IsTreeOf tree.forest path.tree
    → ((l : ℕ) → l < tree.forest.geometry.height → page_on path tree.forest.geometry.height l ≡ page_above l address) → IsFound tree path (Missing level)
    → IsLinkable tree (page_above level address) × IsThere tree (above (page_above level address))
missing_linkable tree path address level form inside own leads found =
    let f = tree.forest in
    let page = page_above level address in
    let same = leads level found.0 in
    let on : IsOnPath f page = record {
      address = address;
      inside = inside;
      level = found.0;
      there = refl;
      tree = subst (λ (t : ℕ). IsTreeOf f t) (ap (λ (p : PageId). p.tree) same) own;
    } in
    let no_root : IsRoot f page → ⊥ = λ root. found.1 (record {
      at = record { 0 = block_of f.geometry (Root page.tree) };
      stands = subst (λ (p : PageId). IsAt tree p (record { 0 = block_of f.geometry (Root page.tree) })) (sym same) (as_root root refl);
    }) in
    let lower = lower_on_path f page form.forest on no_root in
    let heights = form.forest.sizes.height in
    let next = lower.level in (
      record { path = on; lower = no_root },
      subst (λ (p : PageId). IsThere tree p) (leads (level + 1) next ∙ sym (above_at level address (omega arith)))
          (found.2 (level + 1) (omega arith) next),
    )
