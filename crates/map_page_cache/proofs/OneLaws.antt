-- Each call has one result.
use Rattle.std.specs.Prelude.{ℕ, ◌≡◌, ◌⊎◌, true, false, List, Some}
use Rattle.std.proofs.Common.{ap, ◌∙◌, sym, arith, get_or, set, inl, inr}
use Rattle.std.proofs.lemmas.Bool.{cases_eq, cases_lt}
use Rattle.std.proofs.lemmas.List.{get_or_default}
use Rattle.blk_base.specs.declared.place.PageId.{PageId}
use Rattle.blk_base.specs.declared.point.Point.{Point}
use Rattle.page_codec.specs.declared.forms.MapPage.{MapPage}
use Rattle.dirty_pages.specs.declared.dirty_points.DirtyPoints.{DirtyPoints}
use Rattle.dirty_pages.specs.DirtyPoints.{NoneIsDue, changed_at, clean_of, handed_out, dirty_points_at, settled, with_dirty_points}
use Rattle.dirty_pages.proofs.DirtyPointLaws.{one_is_handed_out, out_or_none}
use Rattle.map_page_cache.specs.CachedPages.{CachedPages, Expires, Fills, GivesUp, HasNoFrame, IsCache, IsIn, with_mapping}
use Rattle.map_page_cache.specs.Runs.{Operation, HandOut, Install, Leads, Set, Write}
use Rattle.map_page_cache.specs.Turns.{IsLongestClean, Turns, with_turn}
use Rattle.map_page_cache.proofs.CacheLaws.{in_at}
use Rattle.map_page_cache.proofs.FrameLaws.{one_frame}

pub one_longest : (turns : Turns) (frame other : ℕ) → IsLongestClean turns frame → IsLongestClean turns other → frame ≡ other
one_longest turns frame other one two =
    let same : one.turn ≡ two.turn = omega (arith, one.first.least other two.turn two.first.here, two.first.least frame one.turn one.first.here) in
    elim (cases_lt frame other) [
      | inl before ↦ absurd (two.first.first frame before (one.first.here ∙ ap (λ (n : ℕ). Some n) same))
      | inr behind ↦ elim (cases_eq frame other) [
        | inl is ↦ is
        | inr apart ↦ absurd (one.first.first other (omega arith) (two.first.here ∙ ap (λ (n : ℕ). Some n) (sym same)))
      ]
    ]

-- what is in one frame is one page
content_one : (cache : CachedPages) (page other : PageId) (frame place : ℕ) (content copy : MapPage) → IsIn cache page frame content → IsIn cache other place copy → frame ≡ place
    → content ≡ copy
content_one cache page other frame place content copy one two same =
    sym one.is ∙ get_or_default cache.pages frame content copy one.inside ∙ ap (λ (k : ℕ). get_or cache.pages k copy) same ∙ two.is

frame_one : (cache : CachedPages) (page : PageId) (frame place : ℕ) (content copy : MapPage) → IsCache cache → IsIn cache page frame content → IsIn cache page place copy → frame ≡ place
frame_one cache page frame place content copy form one two =
    one_frame cache.pages page frame place form.apart (in_at cache page frame content one) (in_at cache page place copy two)

-- either there is a frame for a page, or there is none
pub frame_or_none : (old new : CachedPages) (content : MapPage) → HasNoFrame old → Fills old new content ⊎ GivesUp old new content → ⊥
frame_or_none old new content none (inl fills) = omega (arith, none.full, fills.room)
frame_or_none old new content none (inr gives) = none.unclean gives.frame (omega (arith, gives.inside, gives.full)) gives.clean

install_one : (old new other : CachedPages) (content : MapPage) → Fills old new content ⊎ GivesUp old new content → Fills old other content ⊎ GivesUp old other content → new ≡ other
install_one old new other content (inl fills) (inl fills') = fills.after ∙ sym fills'.after
install_one old new other content (inl fills) (inr gives) = absurd (omega (arith, fills.room, gives.full))
install_one old new other content (inr gives) (inl fills) = absurd (omega (arith, fills.room, gives.full))
install_one old new other content (inr gives) (inr gives') =
    gives.after
    ∙ ap (λ (k : ℕ). let c : CachedPages = record old { pages = set old.pages k content; turns = with_turn k true old.turns } in c)
    (one_longest old.turns gives.frame gives'.frame gives.longest gives'.longest)
    ∙ sym gives'.after

-- a cache with a slot mapped in one of its frames, and one in which a page of a frame is written
abbrev mapped : CachedPages → ℕ → Point → ℕ → MapPage → CachedPages
mapped old slot point k content = record old {
  pages = set old.pages k content;
  dirty_points = with_dirty_points old.dirty_points k (changed_at point);
  turns = with_turn k false old.turns;
}

abbrev settled_at : CachedPages → ℕ → CachedPages
settled_at old k = record old { dirty_points = with_dirty_points old.dirty_points k settled; turns = with_turn k (clean_of (settled (dirty_points_at old.dirty_points k))) old.turns }

pub call_one : (old new other : CachedPages) (call : Operation) → IsCache old → Leads old call new → Leads old call other → new ≡ other
call_one old new other (Install content) form (absent, one) (absent', two) = install_one old new other content one two
call_one old new other (Set page slot mapping point) form one two =
    let same = frame_one old page one.frame two.frame one.content two.content form one.stood two.stood in
    let content = content_one old page page one.frame two.frame one.content two.content one.stood two.stood same in
    one.after ∙ ap (λ (k : ℕ). mapped old slot point k (with_mapping slot mapping one.content)) same
    ∙ ap (λ (c : MapPage). mapped old slot point two.frame (with_mapping slot mapping c)) content ∙ sym two.after
call_one old new other (HandOut page) form (point, copy, one) (point', copy', two) =
    let same = frame_one old page one.frame two.frame copy copy' form one.stood two.stood in
    let dirty_points = one.dirty_points.after ∙ ap (λ (k : ℕ). with_dirty_points old.dirty_points k handed_out) same ∙ sym two.dirty_points.after in
    one.after ∙ ap (λ (ms : List DirtyPoints). let c : CachedPages = record old { dirty_points = ms } in c) dirty_points ∙ sym two.after
call_one old new other (Write page) form (out, one) (out', two) =
    let same = frame_one old page one.frame two.frame one.content two.content form one.stood two.stood in
    one.after ∙ ap (λ (k : ℕ). settled_at old k) same ∙ sym two.after

-- the page that is handed out is one
pub out_one : (old new other : CachedPages) (point : Point) (page out : PageId) (copy into : MapPage) → Expires old new point page copy → Expires old other point out into
    → (page ≡ out) × (copy ≡ into) × (new ≡ other)
out_one old new other point page out copy into one two =
    let same = one_is_handed_out old.dirty_points new.dirty_points other.dirty_points point one.frame two.frame one.dirty_points two.dirty_points in
    let content = content_one old page out one.frame two.frame copy into one.stood two.stood same.0 in (
      sym one.stood.named ∙ ap (λ (c : MapPage). c.head.page) content ∙ two.stood.named,
      content,
      one.after ∙ ap (λ (ms : List DirtyPoints). let c : CachedPages = record old { dirty_points = ms } in c) same.1 ∙ sym two.after,
    )

pub page_or_none : (old new : CachedPages) (point : Point) (page : PageId) (copy : MapPage) → Expires old new point page copy → NoneIsDue old.dirty_points point → ⊥
page_or_none old new point page copy expires none = out_or_none old.dirty_points new.dirty_points point expires.frame expires.dirty_points none
