-- What the calls keep of a cache.
use Rattle.std.specs.Prelude.{ℕ, ◌≡◌, ◌≢◌, ◌<◌, ◌≤◌, Bool, true, false, Option, None, is_some, map, replicate, List, [], ◌∷◌, ◌++◌, length, All}
use Rattle.std.proofs.Common.{ap, ◌∙◌, sym, subst, arith, get_or, set, inl, inr, length-append}
use Rattle.std.proofs.lemmas.Bool.{cases_eq}
use Rattle.std.proofs.lemmas.List.{get_or_default, get_or-set_same, get_or-set_other, length-map, length-replicate, length-set}
use Rattle.std.proofs.Math.ListN.{get_or-map}
use Rattle.std.proofs.lemmas.List.Elements.{All-nil, All-set, All-push}
use Rattle.blk_base.specs.declared.place.PageId.{PageId}
use Rattle.blk_base.specs.declared.place.Mapping.{Mapping}
use Rattle.blk_base.specs.declared.geometry.Geometry.{Geometry}
use Rattle.page_codec.specs.declared.forms.MapPage.{MapPage}
use Rattle.page_codec.specs.Grammar.{HoldsMapping}
use Rattle.page_codec.proofs.HeldLaws.{held-set}
use Rattle.dirty_pages.specs.declared.dirty_points.DirtyPoints.{DirtyPoints}
use Rattle.dirty_pages.specs.DirtyPoints.{IsBeingWritten, clean, dirty_points_at, with_dirty_points, clean_of}
use Rattle.dirty_pages.proofs.DirtyPointLaws.{changed_elsewhere}
use Rattle.dirty_pages.proofs.PageLists.{replicate_at}
use Rattle.map_page_cache.specs.Index.{Index, HasSlot}
use Rattle.map_page_cache.specs.CachedPages.{CachedPages, IsCache, IsPageOf, IsThere, IsIn, IsWriting, HasNoFrame, with_mapping}
use Rattle.map_page_cache.specs.Frames.{IsAt, Follows, AreFlags}
use Rattle.map_page_cache.specs.Turns.{NoneClean, Turns, flags_of, no_turns}
use Rattle.map_page_cache.proofs.FrameLaws.{page_in, at_by, one_frame, absent_at, none_absent, set_at, push_at, apart-change}

-- a page that is there has a frame, and what is in its frame is there
pub there_at : (cache : CachedPages) (page : PageId) (content : MapPage) (there : IsThere cache page content) → IsAt cache.pages page there.0.0
there_at cache page content there = at_by cache.pages page there.0.0 content there.0.1 (ap (λ (c : MapPage). c.head.page) there.0.2 ∙ there.1)

pub at_there : (cache : CachedPages) (page : PageId) (frame : ℕ) (content : MapPage) → IsAt cache.pages page frame → content ≡ get_or cache.pages frame content
    → IsThere cache page content
at_there cache page frame content at is = ((frame, at.inside, sym is), ap (λ (c : MapPage). c.head.page) is ∙ at.named content)

pub at_in : (cache : CachedPages) (page : PageId) (frame : ℕ) (content : MapPage) → IsAt cache.pages page frame → content ≡ get_or cache.pages frame content
    → IsIn cache page frame content
at_in cache page frame content at is = record { inside = at.inside; is = sym is; named = ap (λ (c : MapPage). c.head.page) is ∙ at.named content }

pub in_at : (cache : CachedPages) (page : PageId) (frame : ℕ) (content : MapPage) → IsIn cache page frame content → IsAt cache.pages page frame
in_at cache page frame content is = at_by cache.pages page frame content is.inside (ap (λ (c : MapPage). c.head.page) is.is ∙ is.named)

pub content_at : (cache : CachedPages) (page : PageId) (frame : ℕ) → IsAt cache.pages page frame → (content : MapPage) × IsIn cache page frame content
content_at cache page frame at =
    let d = page_in cache.pages frame at.inside in
    let content = get_or cache.pages frame d in
    (content, at_in cache page frame content at (sym (get_or_default cache.pages frame content d at.inside)))

-- a page whose dirty points have a point of its write
pub being_written : (cache : CachedPages) (page : PageId) (frame : ℕ) → IsAt cache.pages page frame → IsBeingWritten (dirty_points_at cache.dirty_points frame) → IsWriting cache page
being_written cache page frame at out =
    let found = content_at cache page frame at in
    record { frame = frame; content = found.0; stands = found.1; dirty_points = out }

-- a page without a frame isn't there
pub no_slot_absent : (index : Index) (frames : ℕ) (pages : List MapPage) (page : PageId) → Follows index frames pages
    → ((frame : ℕ) → HasSlot index page frame → ⊥) → All (λ content. content.head.page ≢ page) pages
no_slot_absent index frames pages page follows none = none_absent pages page (λ k at. none k (follows.all page k at))

-- other dirty points, none of them of an empty frame
pub form-dirty_points : (cache : CachedPages) (dirty_points : List DirtyPoints) → IsCache cache → length dirty_points ≡ length cache.dirty_points
    → ((frame : ℕ) → length cache.pages ≤ frame → dirty_points_at dirty_points frame ≡ dirty_points_at cache.dirty_points frame) → IsCache (record cache { dirty_points = dirty_points })
form-dirty_points cache dirty_points form size same = record {
  fits = form.fits;
  dirty_points = size ∙ form.dirty_points;
  each = form.each;
  apart = form.apart;
  empty = λ frame past. same frame past ∙ form.empty frame past;
}

pub form-change : (cache : CachedPages) (frame : ℕ) (change : DirtyPoints → DirtyPoints) → IsCache cache → frame < length cache.pages
    → IsCache (record cache { dirty_points = with_dirty_points cache.dirty_points frame change })
form-change cache frame change form inside =
    form-dirty_points cache (with_dirty_points cache.dirty_points frame change) form (length-set cache.dirty_points frame (change (dirty_points_at cache.dirty_points frame)))
    (λ other past. changed_elsewhere cache.dirty_points frame other change (omega arith))

-- another page in a frame
pub form-set : (cache : CachedPages) (frame : ℕ) (content : MapPage) → IsCache cache → frame < length cache.pages → IsPageOf cache.geometry content
    → ((k : ℕ) → k ≢ frame → IsAt cache.pages content.head.page k → ⊥) → IsCache (record cache { pages = set cache.pages frame content })
form-set cache frame content form inside held differs =
    let size = length-set cache.pages frame content in
    let fits = form.fits in
    record {
      fits = omega arith;
      dirty_points = form.dirty_points;
      each = All-set (IsPageOf cache.geometry) cache.pages frame content held form.each;
      apart = apart-change cache.pages (set cache.pages frame content) frame content.head.page form.apart (λ page k at. set_at cache.pages frame k content page inside at) differs;
      empty = λ other past. form.empty other (omega arith);
    }

-- a page behind all others
pub form-push : (cache : CachedPages) (content : MapPage) → IsCache cache → length cache.pages < cache.frames → IsPageOf cache.geometry content
    → All (λ other. other.head.page ≢ content.head.page) cache.pages → IsCache (record cache { pages = cache.pages ++ content ∷ [] })
form-push cache content form room held absent =
    let size = length-append cache.pages (content ∷ []) in
    record {
      fits = omega arith;
      dirty_points = form.dirty_points;
      each = All-push (IsPageOf cache.geometry) cache.pages content form.each held;
      apart = apart-change cache.pages (cache.pages ++ content ∷ []) (length cache.pages) content.head.page form.apart (λ page k at. push_at cache.pages k content page at)
          (λ k other at. absent_at cache.pages content.head.page absent k at);
      empty = λ frame past. form.empty frame (omega arith);
    }

-- a page with another mapping
pub page-set : (g : Geometry) (slot : ℕ) (mapping : Mapping) (content : MapPage) → IsPageOf g content → HoldsMapping g content.head.page.level mapping
    → IsPageOf g (with_mapping slot mapping content)
page-set g slot mapping content is holds = record {
  geometry = is.geometry;
  held = held-set g content.head.page.level slot content.mappings mapping is.held holds;
}

pub form-entry : (cache : CachedPages) (page : PageId) (frame slot : ℕ) (mapping : Mapping) (content : MapPage) → IsCache cache → IsIn cache page frame content
    → HoldsMapping cache.geometry page.level mapping → IsCache (record cache { pages = set cache.pages frame (with_mapping slot mapping content) })
form-entry cache page frame slot mapping content form stood holds =
    let own = subst (λ (c : MapPage). IsPageOf cache.geometry c) stood.is (form.each frame content stood.inside) in
    let holds' = subst (λ (p : PageId). HoldsMapping cache.geometry p.level mapping) (sym stood.named) holds in
    form-set cache frame (with_mapping slot mapping content) form stood.inside (page-set cache.geometry slot mapping content own holds')
    (λ k other at. other (one_frame cache.pages page k frame form.apart (subst (λ (p : PageId). IsAt cache.pages p k) stood.named at) (in_at cache page frame content stood)))

-- a cache without a page
pub opened_form : (g : Geometry) (frames : ℕ) (pages : List MapPage) (dirty_points : List DirtyPoints) (turns : Turns) → pages ≡ [] → dirty_points ≡ replicate frames clean
    → IsCache (record { geometry = g; frames = frames; pages = pages; dirty_points = dirty_points; turns = turns })
opened_form g frames pages dirty_points turns none are_clean = rw (none, are_clean) (record {
  fits = omega arith;
  dirty_points = length-replicate frames clean;
  each = All-nil (IsPageOf g);
  apart = λ j k d below other same. absurd (omega arith);
  empty = λ frame past. replicate_at frames frame clean;
})

-- the flags of the frames with clean pages: there are none at first
pub no_flags : (turns : Turns) (frames count : ℕ) (dirty_points : List DirtyPoints) → turns ≡ no_turns frames → count ≡ 0 → AreFlags (flags_of turns) frames count dirty_points
no_flags turns frames count dirty_points is none =
    let flags : flags_of turns ≡ map (λ (o : Option ℕ). is_some o) (replicate frames None) = ap (λ (t : Turns). flags_of t) is in
    record {
      size = ap (λ (fs : List Bool). length fs) flags ∙ length-map (replicate frames None) (λ (o : Option ℕ). is_some o) ∙ length-replicate frames None;
      here = λ frame below. absurd (omega arith);
      empty = λ frame past. ap (λ (fs : List Bool). get_or fs frame false) flags
          ∙ get_or-map (λ (o : Option ℕ). is_some o) (replicate frames None) frame None ∙ ap (λ (o : Option ℕ). is_some o) (replicate_at frames frame None);
    }

-- where no frame is empty or has a clean page, there is none for another page
pub no_frame : (cache : CachedPages) → IsCache cache → AreFlags (flags_of cache.turns) cache.frames (length cache.pages) cache.dirty_points → cache.frames ≤ length cache.pages
    → NoneClean cache.turns → HasNoFrame cache
no_frame cache form are full none = record {
  full = omega (arith, form.fits);
  unclean = λ frame inside clean_is.
      let flag = are.here frame (omega (arith, full)) ∙ ap clean_of clean_is in
      let not = get_or-map (λ (o : Option ℕ). is_some o) cache.turns.frames frame None ∙ ap (λ (o : Option ℕ). is_some o) (none frame) in
      true-false (sym flag ∙ not);
}
  where
    true-false : true ≡ false → ⊥
    true-false is = cc

-- the flag of one frame is set as its dirty points are now, and those of the others stayed; no other frame has a page that had none
pub flags-set : (flags flags' : List Bool) (frames count count' frame : ℕ) (flag : Bool) (dirty_points dirty_points' : List DirtyPoints) → AreFlags flags frames count dirty_points → frame < frames
    → frame < count' → count ≤ count' → ((other : ℕ) → other ≢ frame → other < count' → other < count) → flag ≡ clean_of (dirty_points_at dirty_points' frame)
    → ((other : ℕ) → other ≢ frame → dirty_points_at dirty_points' other ≡ dirty_points_at dirty_points other) → flags' ≡ set flags frame flag → AreFlags flags' frames count' dirty_points'
flags-set flags flags' frames count count' frame flag dirty_points dirty_points' are inside below more few is same written =
    let size = are.size in
    rw written (record {
      size = length-set flags frame flag ∙ are.size;
      here = λ other near. elim (cases_eq other frame) [
        | inl here ↦ rw here (get_or-set_same flags frame flag false (omega arith) ∙ is)
        | inr apart ↦ get_or-set_other flags frame other flag false apart ∙ are.here other (few other apart near) ∙ ap clean_of (sym (same other apart))
      ];
      empty = λ other past. get_or-set_other flags frame other flag false (omega arith) ∙ are.empty other (omega arith);
    })
