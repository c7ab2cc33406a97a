-- Over a run of calls: what the pages are, and that what isn't durable is kept.
use Rattle.std.specs.Prelude.{ℕ, ◌≡◌, ◌≢◌, ◌<◌, ◌≤◌, ◌⊎◌, ◌↔◌, List, [], ◌∷◌, length, All, Contains, refl}
use Rattle.std.proofs.Common.{ap, ◌∙◌, sym, subst, arith, get_or, set, inl, inr}
use Rattle.std.proofs.lemmas.Bool.{cases_eq}
use Rattle.std.proofs.lemmas.List.{get_or_default, length-set}
use Rattle.std.proofs.lemmas.List.Elements.{Contains-push_cases}
use Rattle.blk_base.specs.declared.place.PageId.{PageId}
use Rattle.blk_base.specs.declared.point.Point.{Point}
use Rattle.blk_base.proofs.PageIdLaws.{same_or_not}
use Rattle.plain_laws.proofs.LeadLaws.{leads_keep}
use Rattle.page_codec.specs.declared.forms.MapPage.{MapPage}
use Rattle.dirty_pages.specs.declared.dirty_points.DirtyPoints.{DirtyPoints}
use Rattle.dirty_pages.specs.DirtyPoints.{HasPoint, IsLowPoint, AreClean, clean, dirty_points_at, with_dirty_points, changed_at, handed_out, settled}
use Rattle.dirty_pages.specs.History.{IsUnwritten, IsUnreported, IsAfter}
use Rattle.dirty_pages.proofs.DirtyPointLaws.{changed_here, changed_elsewhere}
use Rattle.dirty_pages.proofs.PageLists.{at_set, listed_or_not}
use Rattle.dirty_pages.proofs.HistoryLaws as dirty
use Rattle.map_page_cache.specs.CachedPages.{CachedPages, IsCache, AreApart, IsThere, IsAbsent, with_mapping, Expires, IsWriting}
use Rattle.map_page_cache.specs.Frames.{IsAt}
use Rattle.map_page_cache.specs.Runs.{Operation, Install, Set, HandOut, Write, Leads, LeadTo, IsContent, events_of}
use Rattle.map_page_cache.proofs.FrameLaws.{at_by, one_page, one_frame, absent_at, none_absent, set_at, set_other, same_frames, push_at, push_old}
use Rattle.map_page_cache.proofs.CacheLaws.{there_at, in_at, content_at, being_written}

in_or_absent : (pages : List MapPage) (page : PageId) → ((frame : ℕ) × IsAt pages page frame) ⊎ All (λ content. content.head.page ≢ page) pages
in_or_absent pages page = elim (listed_or_not (λ (c : MapPage). c.head.page) pages page) [
  | inl there ↦ inl (there.1.0, at_by pages page there.1.0 there.0 there.1.1 (ap (λ (c : MapPage). c.head.page) there.1.2 ∙ there.2))
  | inr absent ↦ inr absent
]

-- the frame of a page, or for one that isn't there the first empty one, whose dirty points are clean
abbrev place_by : (pages : List MapPage) (page : PageId) → ((frame : ℕ) × IsAt pages page frame) ⊎ All (λ content. content.head.page ≢ page) pages → ℕ
place_by pages page (inl there) = there.0
place_by pages page (inr absent) = length pages

abbrev index_of : List MapPage → PageId → ℕ
index_of pages page = place_by pages page (in_or_absent pages page)

abbrev dirty_points_of : CachedPages → PageId → DirtyPoints
dirty_points_of cache page = dirty_points_at cache.dirty_points (index_of cache.pages page)

at_place : (pages : List MapPage) (page : PageId) (frame : ℕ) → AreApart pages → IsAt pages page frame → index_of pages page ≡ frame
at_place pages page frame apart at = by_place pages page frame (in_or_absent pages page) apart at
  where
    by_place : (pages : List MapPage) (page : PageId) (frame : ℕ) (known : ((k : ℕ) × IsAt pages page k) ⊎ All (λ content. content.head.page ≢ page) pages)
        → AreApart pages → IsAt pages page frame → place_by pages page known ≡ frame
    by_place pages page frame (inl there) apart at = one_frame pages page there.0 frame apart there.1 at
    by_place pages page frame (inr absent) apart at = absurd (absent_at pages page absent frame at)

no_place : (pages : List MapPage) (page : PageId) → All (λ content. content.head.page ≢ page) pages → index_of pages page ≡ length pages
no_place pages page absent = by_none pages page (in_or_absent pages page) absent
  where
    by_none : (pages : List MapPage) (page : PageId) (known : ((k : ℕ) × IsAt pages page k) ⊎ All (λ content. content.head.page ≢ page) pages)
        → All (λ content. content.head.page ≢ page) pages → place_by pages page known ≡ length pages
    by_none pages page (inl there) absent = absurd (absent_at pages page absent there.0 there.1)
    by_none pages page (inr none) absent = refl

at_dirty_points : (cache : CachedPages) (page : PageId) (frame : ℕ) → IsCache cache → IsAt cache.pages page frame → dirty_points_of cache page ≡ dirty_points_at cache.dirty_points frame
at_dirty_points cache page frame form at = ap (λ (k : ℕ). dirty_points_at cache.dirty_points k) (at_place cache.pages page frame form.apart at)

no_dirty_points : (cache : CachedPages) (page : PageId) → IsCache cache → IsAbsent cache page → dirty_points_of cache page ≡ clean
no_dirty_points cache page form absent = ap (λ (k : ℕ). dirty_points_at cache.dirty_points k) (no_place cache.pages page absent) ∙ form.empty (length cache.pages) (omega arith)

-- a page comes to a frame whose dirty points are clean
placed : (old new : CachedPages) (place : ℕ) (fresh page : PageId) → IsCache old → IsCache new → IsAbsent old fresh → new.dirty_points ≡ old.dirty_points → dirty_points_at old.dirty_points place ≡ clean
    → ((k : ℕ) → IsAt new.pages page k → ((k ≡ place) × (fresh ≡ page)) ⊎ ((k ≢ place) × IsAt old.pages page k))
    → ((k : ℕ) → k ≢ place → IsAt old.pages page k → IsAt new.pages page k) → dirty_points_of new page ≡ dirty_points_of old page
placed old new place fresh page form form' absent same is_clean split stays = elim (in_or_absent new.pages page) [
  | inl there ↦ at_dirty_points new page there.0 form' there.1 ∙ ap (λ (ms : List DirtyPoints). dirty_points_at ms there.0) same ∙ elim (split there.0 there.1) [
    | inl here ↦ ap (λ (k : ℕ). dirty_points_at old.dirty_points k) here.0 ∙ is_clean ∙ sym (no_dirty_points old page form (subst (λ (p : PageId). IsAbsent old p) here.1 absent))
    | inr before ↦ sym (at_dirty_points old page there.0 form before.1)
  ]
  | inr none ↦ no_dirty_points new page form' none ∙ sym (elim (in_or_absent old.pages page) [
    | inl there ↦ at_dirty_points old page there.0 form there.1 ∙ elim (cases_eq there.0 place) [
      | inl here ↦ ap (λ (k : ℕ). dirty_points_at old.dirty_points k) here ∙ is_clean
      | inr apart ↦ absurd (absent_at new.pages page none there.0 (stays there.0 apart there.1))
    ]
    | inr before ↦ no_dirty_points old page form before
  ])
]

-- an installed page has no dirty points, and neither had the page that was given up for it
installed : (old new : CachedPages) (content : MapPage) (page : PageId) → IsCache old → IsCache new → Leads old (Install content) new → dirty_points_of new page ≡ dirty_points_of old page
installed old new content page form form' (absent, inl fills) =
    placed old new (length old.pages) content.head.page page form form' absent (ap (λ (c : CachedPages). c.dirty_points) fills.after) (form.empty (length old.pages) (omega arith))
    (λ k at. push_at old.pages k content page (subst (λ (c : CachedPages). IsAt c.pages page k) fills.after at))
    (λ k apart at. subst (λ (c : CachedPages). IsAt c.pages page k) (sym fills.after) (push_old old.pages k content page at))
installed old new content page form form' (absent, inr gives) =
    placed old new gives.frame content.head.page page form form' absent (ap (λ (c : CachedPages). c.dirty_points) gives.after) gives.clean
    (λ k at. set_at old.pages gives.frame k content page gives.inside (subst (λ (c : CachedPages). IsAt c.pages page k) gives.after at))
    (λ k apart at. subst (λ (c : CachedPages). IsAt c.pages page k) (sym gives.after) (set_other old.pages gives.frame k content page apart at))

-- a call that changes the dirty points of one page, and moves none
marked : (old new : CachedPages) (changed : PageId) (place : ℕ) (change : DirtyPoints → DirtyPoints) (page : PageId) → IsCache old → IsCache new → IsAt old.pages changed place
    → ((other : PageId) (frame : ℕ) → IsAt old.pages other frame ↔ IsAt new.pages other frame) → new.dirty_points ≡ with_dirty_points old.dirty_points place change
    → ((changed ≡ page) × (dirty_points_of new page ≡ change (dirty_points_of old page))) ⊎ ((changed ≢ page) × (dirty_points_of new page ≡ dirty_points_of old page))
marked old new changed place change page form form' at stay are =
    let size = form.dirty_points in
    let fits = form.fits in
    let inside = at.inside in
    elim (same_or_not changed page) [
      | inl same ↦
          let own = subst (λ (p : PageId). IsAt old.pages p place) same at in
          inl (
            same,
            at_dirty_points new page place form' ((stay page place).0 own) ∙ ap (λ (ms : List DirtyPoints). dirty_points_at ms place) are
                ∙ changed_here old.dirty_points place change (omega arith) ∙ ap change (sym (at_dirty_points old page place form own)),
          )
      | inr apart ↦ inr (
        apart,
        elim (in_or_absent old.pages page) [
          | inl there ↦ at_dirty_points new page there.0 form' ((stay page there.0).0 there.1) ∙ ap (λ (ms : List DirtyPoints). dirty_points_at ms there.0) are
              ∙ changed_elsewhere old.dirty_points place there.0 change (λ here. apart (one_page old.pages changed page place at (subst (λ (k : ℕ). IsAt old.pages page k) here there.1)))
              ∙ sym (at_dirty_points old page there.0 form there.1)
          | inr none ↦ no_dirty_points new page form' (none_absent new.pages page (λ frame now. absent_at old.pages page none frame ((stay page frame).1 now)))
              ∙ sym (no_dirty_points old page form none)
        ],
      )
    ]

call_keeps : (old new : CachedPages) (call : Operation) → Leads old call new → IsCache new
call_keeps old new (Install content) leads = elim leads.1 [ inl fills ↦ fills.form | inr gives ↦ gives.form ]
call_keeps old new (Set page slot mapping point) leads = leads.form
call_keeps old new (HandOut page) leads = leads.2.form
call_keeps old new (Write page) leads = leads.1.form

pub calls_keep : (old new : CachedPages) (calls : List Operation) → IsCache old → LeadTo old calls new → IsCache new
calls_keep = leads_keep (λ call before after. Leads before call after) IsCache (λ call before after kept leads. call_keeps before after call leads)

-- the dirty points of a page follow from what the calls do to it
dirty_points_more : (start : DirtyPoints) (old new : CachedPages) (call : Operation) (calls : List Operation) (page : PageId) → IsCache old → Leads old call new
    → IsAfter start (events_of calls) page (dirty_points_of old page) → IsAfter start (events_of (call ∷ calls)) page (dirty_points_of new page)
dirty_points_more start old new (Install content) calls page form leads past =
    subst (λ (m : DirtyPoints). IsAfter start (events_of calls) page m) (sym (installed old new content page form (call_keeps old new (Install content) leads) leads)) past
dirty_points_more start old new (Set changed slot mapping point) calls page form sets past =
    let content = with_mapping slot mapping sets.content in
    let at = in_at old changed sets.frame sets.content sets.stood in
    let stay = same_frames old.pages sets.frame content (subst (λ (p : PageId). IsAt old.pages p sets.frame) (sym sets.stood.named) at) in (
      dirty_points_of old page,
      past,
      marked old new changed sets.frame (changed_at point) page form sets.form at
          (subst (λ (c : CachedPages). (other : PageId) (frame : ℕ) → IsAt old.pages other frame ↔ IsAt c.pages other frame) (sym sets.after) stay) (ap (λ (c : CachedPages). c.dirty_points) sets.after),
    )
dirty_points_more start old new (HandOut out) calls page form (point, copy, expires) past =
    let at = in_at old out expires.frame copy expires.stood in (
      dirty_points_of old page,
      past,
      elim (marked old new out expires.frame handed_out page form expires.form at (λ other frame. subst (λ (c : CachedPages). IsAt old.pages other frame ↔ IsAt c.pages other frame) (sym expires.after) ((λ there. there), λ there. there)) expires.dirty_points.after) [
        | inl this ↦ inl (
          this.0,
          ap (λ (p : PageId). (dirty_points_of old p).writing) (sym this.0) ∙ ap (λ (m : DirtyPoints). m.writing) (at_dirty_points old out expires.frame form at) ∙ expires.dirty_points.due.idle,
          this.1,
        )
        | inr none ↦ inr none
      ],
    )
dirty_points_more start old new (Write out) calls page form (is, writes) past =
    (dirty_points_of old page, past, marked old new out writes.frame settled page form writes.form (in_at old out writes.frame writes.content writes.stood) (λ other frame. subst (λ (c : CachedPages). IsAt old.pages other frame ↔ IsAt c.pages other frame) (sym writes.after) ((λ there. there), λ there. there)) (ap (λ (c : CachedPages). c.dirty_points) writes.after))

after : (old new : CachedPages) (calls : List Operation) (page : PageId) → IsCache old → LeadTo old calls new
    → IsAfter (dirty_points_of old page) (events_of calls) page (dirty_points_of new page)
after old new [] page form same = ap (λ (c : CachedPages). dirty_points_of c page) same
after old new (call ∷ calls) page form lead =
    dirty_points_more (dirty_points_of old page) lead.0 new call calls page (calls_keep old lead.0 calls form lead.1) lead.2 (after old lead.0 calls page form lead.1)

-- an entry that isn't durable
pub owed_is_there : (old new : CachedPages) (calls : List Operation) (page : PageId) (point : Point) → IsCache old → LeadTo old calls new
    → IsUnwritten (events_of calls) page point → (content : MapPage) × IsThere new page content
owed_is_there old new calls page point form lead unwritten =
    elim (in_or_absent new.pages page) [
      | inl there ↦ let found = content_at new page there.0 there.1 in (found.0, ((there.0, found.1.inside, found.1.is), found.1.named))
      | inr none ↦ absurd (dirty.not_clean _ _ (events_of calls) page point (after old new calls page form lead) unwritten (no_dirty_points new page (calls_keep old new calls form lead) none))
    ]

pub owed_from_low : (old new : CachedPages) (calls : List Operation) (page : PageId) (point low : Point) → IsCache old → LeadTo old calls new
    → IsUnwritten (events_of calls) page point → IsLowPoint new.dirty_points low → low.0 ≤ point.0
owed_from_low old new calls page point low form lead unwritten is =
    dirty.not_below (dirty_points_of old page) new.dirty_points (index_of new.pages page) (events_of calls) page point low (after old new calls page form lead) unwritten is

pub owed_not_clean : (old new : CachedPages) (calls : List Operation) (page : PageId) (point : Point) → IsCache old → LeadTo old calls new
    → IsUnwritten (events_of calls) page point → AreClean new.dirty_points → ⊥
owed_not_clean old new calls page point form lead unwritten are =
    dirty.not_clean _ _ (events_of calls) page point (after old new calls page form lead) unwritten (are (index_of new.pages page))

-- its page has a point that isn't above it
pub owed_point : (old new : CachedPages) (calls : List Operation) (page : PageId) (point : Point) → IsCache old → LeadTo old calls new → IsUnwritten (events_of calls) page point
    → (number : ℕ) × (low : Point) × HasPoint (dirty_points_at new.dirty_points number) low × (low.0 ≤ point.0)
owed_point old new calls page point form lead unwritten =
    let has = dirty.has_point (dirty_points_of old page) (dirty_points_of new page) (events_of calls) page point (after old new calls page form lead) unwritten in
    (index_of new.pages page, has.0, has.1, has.2)

-- a page that was handed out is being written until it is reported
pub still_out : (old new : CachedPages) (calls : List Operation) (page : PageId) → IsCache old → LeadTo old calls new
    → IsUnreported (events_of calls) page → IsWriting old page → IsWriting new page
still_out old new calls page form lead unreported out =
    let form' = calls_keep old new calls form lead in
    let was = at_dirty_points old page out.frame form (in_at old page out.frame out.content out.stands) in
    let now = dirty.still_out _ _ (events_of calls) page out.dirty_points.first (after old new calls page form lead) unreported (ap (λ (m : DirtyPoints). m.writing) was ∙ out.dirty_points.is) in
    elim (in_or_absent new.pages page) [
      | inl there ↦ being_written new page there.0 there.1
          (record { first = out.dirty_points.first; is = ap (λ (m : DirtyPoints). m.writing) (sym (at_dirty_points new page there.0 form' there.1)) ∙ now })
      | inr none ↦ absurd (let idle = ap (λ (m : DirtyPoints). m.writing) (no_dirty_points new page form' none) in cc)
    ]

pub not_out_before : (old new : CachedPages) (page : PageId) (point : Point) (copy : MapPage) → IsCache old → Expires old new point page copy → IsWriting old page → ⊥
not_out_before old new page point copy form expires out =
    let same = one_frame old.pages page out.frame expires.frame form.apart (in_at old page out.frame out.content out.stands)
    (in_at old page expires.frame copy expires.stood) in
    let idle = ap (λ (k : ℕ). (dirty_points_at old.dirty_points k).writing) same ∙ expires.dirty_points.due.idle in
    let some = out.dirty_points.is in
    cc

-- a page has one content
pub one_content : (cache : CachedPages) (page : PageId) (content other : MapPage) → IsCache cache → IsThere cache page content → IsThere cache page other → content ≡ other
one_content cache page content other form there there' =
    let same = one_frame cache.pages page there.0.0 there'.0.0 form.apart (there_at cache page content there) (there_at cache page other there') in
    sym there.0.2 ∙ ap (λ (k : ℕ). get_or cache.pages k content) same ∙ get_or_default cache.pages there'.0.0 content other there'.0.1 ∙ there'.0.2

contains-set : (pages : List MapPage) (place : ℕ) (new content : MapPage) → place < length pages → (there : Contains (set pages place new) content)
    → (new ≡ content) ⊎ ((there.0 ≢ place) × (there.0 < length pages) × (get_or pages there.0 content ≡ content))
contains-set pages place new content inside there =
    let size = length-set pages place new in
    elim (at_set pages place there.0 new content inside) [
      | inl here ↦ inl (sym here.1 ∙ there.2)
      | inr apart ↦ inr (apart.0, omega (arith, there.1), sym apart.1 ∙ there.2)
    ]

content_step : (start old new : CachedPages) (calls : List Operation) (call : Operation) (page : PageId) (content : MapPage) → IsCache old → Leads old call new
    → ((before : MapPage) → IsThere old page before → IsContent start calls page before) → IsThere new page content → IsContent start (call ∷ calls) page content
content_step start old new calls (Install from) page content form (absent, inl fills) known there =
    let there' = subst (λ (c : CachedPages). IsThere c page content) fills.after there in
    elim (Contains-push_cases old.pages from content there'.0) [
      | inl before ↦ inr ((λ same. absent before.0 content before.1 (ap (λ (c : MapPage). c.head.page) before.2 ∙ there'.1 ∙ sym same)), known content (before, there'.1))
      | inr new' ↦ inl (ap (λ (c : MapPage). c.head.page) new' ∙ there'.1, sym new')
    ]
content_step start old new calls (Install from) page content form (absent, inr gives) known there =
    let (there', named) = subst (λ (c : CachedPages). IsThere c page content) gives.after there in
    elim (contains-set old.pages gives.frame from content gives.inside there') [
      | inl here ↦ inl (ap (λ (c : MapPage). c.head.page) here ∙ named, sym here)
      | inr before ↦ inr ((λ same. absent there'.0 content before.1 (ap (λ (c : MapPage). c.head.page) before.2 ∙ named ∙ sym same)), known content ((there'.0, before.1, before.2), named))
    ]
content_step start old new calls (Set changed slot mapping point) page content form sets known there =
    let (there', named) = subst (λ (c : CachedPages). IsThere c page content) sets.after there in
    elim (contains-set old.pages sets.frame (with_mapping slot mapping sets.content) content sets.stood.inside there') [
      | inl here ↦
          let same : changed ≡ page = sym sets.stood.named ∙ ap (λ (c : MapPage). c.head.page) here ∙ named in
          inl (same, (sets.content, known sets.content ((sets.frame, sets.stood.inside, sets.stood.is), sets.stood.named ∙ same), sym here))
      | inr before ↦ inr (
        (λ same. before.0 (one_frame old.pages page there'.0 sets.frame form.apart (there_at old page content ((there'.0, before.1, before.2), named))
            (subst (λ (p : PageId). IsAt old.pages p sets.frame) same (in_at old changed sets.frame sets.content sets.stood)))),
        known content ((there'.0, before.1, before.2), named),
      )
    ]
content_step start old new calls (HandOut out) page content form leads known there = known content (subst (λ (c : CachedPages). IsThere c page content) leads.2.after there)
content_step start old new calls (Write out) page content form leads known there = known content (subst (λ (c : CachedPages). IsThere c page content) leads.1.after there)

pub content_after : (old new : CachedPages) (calls : List Operation) (page : PageId) (content : MapPage) → IsCache old → LeadTo old calls new
    → IsThere new page content → IsContent old calls page content
content_after old new [] page content form same there = subst (λ (c : CachedPages). IsThere c page content) same there
content_after old new (call ∷ calls) page content form lead there =
    content_step old lead.0 new calls call page content (calls_keep old lead.0 calls form lead.1) lead.2
    (λ before was. content_after old lead.0 calls page before form lead.1 was) there
