-- Each call by what the code computes. Callers know a cache by its view, `known`.
use Rattle.std.specs.Prelude.{ℕ, ◌≡◌, ◌<◌, Bool, true, false, List, is_some, Option, [], ◌∷◌, ◌++◌, length, refl}
use Rattle.std.proofs.Common.{ap, ◌∙◌, sym, subst, arith, get_or, set}
use Rattle.std.specs.Bool.{then_some}
use Rattle.std.proofs.lemmas.List.{length-set, map-set}
use Rattle.blk_base.specs.declared.place.PageId.{PageId}
use Rattle.blk_base.specs.declared.place.Mapping.{Mapping}
use Rattle.blk_base.specs.declared.point.Point.{Point}
use Rattle.page_codec.specs.declared.forms.MapPage.{MapPage}
use Rattle.page_codec.specs.Grammar.{HoldsMapping}
use Rattle.dirty_pages.specs.declared.dirty_points.DirtyPoints.{DirtyPoints}
use Rattle.dirty_pages.specs.DirtyPoints.{IsBeingWritten, clean, dirty_points_at, with_dirty_points, changed_at, settled, clean_of}
use Rattle.dirty_pages.proofs.DirtyPointLaws.{changed_here, changed_elsewhere}
use Rattle.map_page_cache.specs.CachedPages.{CachedPages, IsCache, IsPageOf, IsAbsent, Fills, GivesUp, with_mapping, Sets, IsWriting, Writes}
use Rattle.map_page_cache.specs.Frames.{IsAt, AreFlags}
use Rattle.map_page_cache.specs.Turns.{IsLongestClean, Turns, flags_of, with_turn}
use Rattle.map_page_cache.proofs.FrameLaws.{one_frame, absent_at}
use Rattle.map_page_cache.proofs.CacheLaws.{form-change, form-set, form-push, form-entry, at_in, in_at, content_at, flags-set}

-- another order of the clean frames
turned : (cache : CachedPages) (turns : Turns) → IsCache cache → IsCache (record cache { turns = turns })
turned cache turns form = record { fits = form.fits; dirty_points = form.dirty_points; each = form.each; apart = form.apart; empty = form.empty }

pub sets : (known cache : CachedPages) (page : PageId) (frame slot : ℕ) (mapping : Mapping) (point : Point) (content content' : MapPage) (dirty_points : List DirtyPoints) (turns : Turns)
    → cache ≡ known → IsCache cache → IsAt known.pages page frame → content ≡ get_or cache.pages frame content → HoldsMapping known.geometry page.level mapping
    → content' ≡ with_mapping slot mapping content → dirty_points ≡ with_dirty_points cache.dirty_points frame (changed_at point) → turns ≡ with_turn frame false cache.turns
    → Sets known (record { geometry = cache.geometry; frames = cache.frames; pages = set cache.pages frame content'; dirty_points = dirty_points; turns = turns }) page slot mapping point
sets known cache page frame slot mapping point content content' dirty_points turns same form at is holds content_is dirty_points_are turns_are =
    let stood = at_in known page frame content at (subst (λ (c : CachedPages). content ≡ get_or c.pages frame content) same is) in
    let size = length-set known.pages frame (with_mapping slot mapping content) in
    let inside = at.inside in
    rw (content_is, dirty_points_are, turns_are, same) (record {
      form = turned (record known { pages = set known.pages frame (with_mapping slot mapping content); dirty_points = with_dirty_points known.dirty_points frame (changed_at point) }) (with_turn frame false known.turns)
          (form-change (record known { pages = set known.pages frame (with_mapping slot mapping content) }) frame (changed_at point)
          (form-entry known page frame slot mapping content (rw same at form) stood holds) (omega arith));
      frame = frame;
      content = content;
      stood = stood;
      after = refl;
    })

is_some-then_some : (flag : Bool) (n : ℕ) → is_some (then_some flag n) ≡ flag
is_some-then_some true n = refl
is_some-then_some false n = refl

-- the flags of the clean frames, when one frame has a turn
pub flags_turned : (turns new : Turns) (frame : ℕ) (flag : Bool) → new ≡ with_turn frame flag turns → flags_of new ≡ set (flags_of turns) frame flag
flags_turned turns new frame flag is =
    ap (λ (t : Turns). flags_of t) is ∙ map-set (λ (o : Option ℕ). is_some o) turns.frames frame _
    ∙ ap (λ (b : Bool). set (flags_of turns) frame b) (is_some-then_some flag _)

-- the flag of a page whose dirty points a call changed
pub flags-changed : (cache : CachedPages) (count' frame : ℕ) (change : DirtyPoints → DirtyPoints) (flag : Bool) (flags flags' : List Bool) (dirty_points : List DirtyPoints) → IsCache cache
    → AreFlags flags cache.frames (length cache.pages) cache.dirty_points → frame < length cache.pages → dirty_points ≡ with_dirty_points cache.dirty_points frame change
    → flag ≡ clean_of (change (dirty_points_at cache.dirty_points frame)) → flags' ≡ set flags frame flag → count' ≡ length cache.pages → AreFlags flags' cache.frames count' dirty_points
flags-changed cache count' frame change flag flags flags' dirty_points form are inside dirty_points_are is written size =
    let wide = form.dirty_points in
    let fits = form.fits in
    flags-set flags flags' cache.frames (length cache.pages) count' frame flag cache.dirty_points dirty_points are (omega arith) (omega arith) (omega arith) (λ other apart near. omega arith)
    (is ∙ ap clean_of (sym (ap (λ (ms : List DirtyPoints). dirty_points_at ms frame) dirty_points_are ∙ changed_here cache.dirty_points frame change (omega arith))))
    (λ other apart. ap (λ (ms : List DirtyPoints). dirty_points_at ms other) dirty_points_are ∙ changed_elsewhere cache.dirty_points frame other change apart) written

pub writes : (known cache : CachedPages) (page : PageId) (frame : ℕ) (dirty_points : List DirtyPoints) (turns : Turns) → cache ≡ known → IsCache cache
    → IsAt known.pages page frame → dirty_points ≡ with_dirty_points cache.dirty_points frame settled → turns ≡ with_turn frame (clean_of (settled (dirty_points_at cache.dirty_points frame))) cache.turns
    → Writes known (record { geometry = cache.geometry; frames = cache.frames; pages = cache.pages; dirty_points = dirty_points; turns = turns }) page
writes known cache page frame dirty_points turns same form at dirty_points_are turns_are =
    let found = content_at known page frame at in
    rw (dirty_points_are, turns_are, same) (record {
      form = turned (record known { dirty_points = with_dirty_points known.dirty_points frame settled }) (with_turn frame (clean_of (settled (dirty_points_at known.dirty_points frame))) known.turns)
          (form-change known frame settled (rw same at form) at.inside);
      frame = frame;
      content = found.0;
      stood = found.1;
      after = refl;
    })

-- the frame of a page that is being written
pub writing_in : (cache : CachedPages) (page : PageId) (frame : ℕ) → IsCache cache → IsAt cache.pages page frame → IsWriting cache page
    → IsBeingWritten (dirty_points_at cache.dirty_points frame)
writing_in cache page frame form at out =
    subst (λ (k : ℕ). IsBeingWritten (dirty_points_at cache.dirty_points k)) (one_frame cache.pages page out.frame frame form.apart (in_at cache page out.frame out.content out.stands) at) out.dirty_points

pub fills : (known cache : CachedPages) (page : PageId) (content : MapPage) (copy : MapPage) (turns : Turns) → cache ≡ known → IsCache cache → IsAbsent known page → content.head.page ≡ page
    → IsPageOf known.geometry content → length known.pages < known.frames → copy ≡ content → turns ≡ with_turn (length cache.pages) true cache.turns
    → Fills known (record { geometry = cache.geometry; frames = cache.frames; pages = cache.pages ++ copy ∷ []; dirty_points = cache.dirty_points; turns = turns }) content
fills known cache page content copy turns same form absent named held room copied turns_are =
    rw (copied, turns_are, same) (record {
      form = turned (record known { pages = known.pages ++ content ∷ [] }) (with_turn (length known.pages) true known.turns)
          (form-push known content (rw same at form) room held (subst (λ (p : PageId). IsAbsent known p) (sym named) absent));
      room = room;
      after = refl;
    })

pub gives_up : (known cache : CachedPages) (page : PageId) (frame : ℕ) (content copy : MapPage) (turns : Turns) → cache ≡ known → IsCache cache → IsAbsent known page → content.head.page ≡ page
    → IsPageOf known.geometry content → length known.pages ≡ known.frames → frame < length known.pages → dirty_points_at known.dirty_points frame ≡ clean → IsLongestClean known.turns frame → copy ≡ content
    → turns ≡ with_turn frame true cache.turns
    → GivesUp known (record { geometry = cache.geometry; frames = cache.frames; pages = set cache.pages frame copy; dirty_points = cache.dirty_points; turns = turns }) content
gives_up known cache page frame content copy turns same form absent named held full inside is_clean longest copied turns_are =
    rw (copied, turns_are, same) (record {
      form = turned (record known { pages = set known.pages frame content }) (with_turn frame true known.turns)
          (form-set known frame content (rw same at form) inside held
          (λ k other at. absent_at known.pages page absent k (subst (λ (p : PageId). IsAt known.pages p k) named at)));
      full = full;
      frame = frame;
      inside = inside;
      clean = is_clean;
      longest = longest;
      after = refl;
    })
