-- What a cache is, and what each call leaves of one: whole caches of the default sizes, with two frames, each of which is
-- accepted, or breaks one clause alone and is refused.
use Rattle.std.proofs.Common.{ℕ, zero, suc, ◌≡◌, ◌<◌, ◌≤◌, true, false, Option, None, Some, List, [], ◌∷◌, ◌+◌, slice_index_or, slice_set, refl, ap, sym, ◌∙◌, arith}
use Rattle.std.proofs.lemmas.List.{length-replicate}
use Rattle.std.proofs.lemmas.List.Elements.{All-cons, All-head, All-nil, All-replicate}
use Rattle.std.proofs.lemmas.Option.{none-some}
use Rattle.blk_base.proofs.Example.{small, others, number_of_point}
use Rattle.blk_base.specs.declared.geometry.Geometry.{Geometry}
use Rattle.blk_base.specs.declared.place.Mapping.{Mapping}
use Rattle.blk_base.specs.declared.place.Mapping.TheVariants.{At, Unmapped, Zero}
use Rattle.blk_base.specs.declared.place.PageId.{PageId}
use Rattle.blk_base.specs.declared.point.Point.{Point}
use Rattle.blk_base.specs.Forms.{point as p}
use Rattle.dirty_pages.specs.DirtyPoints.{IsDue, changed_at, clean, handed_out, dirty_points_at, settled, with_dirty_points}
use Rattle.dirty_pages.specs.Minima.{key_at}
use Rattle.dirty_pages.specs.declared.dirty_points.DirtyPoints.{DirtyPoints}
use Rattle.dirty_pages.proofs.Rows.{out, number}
use Rattle.page_codec.specs.Grammar.{AreHeld, HoldsMapping}
use Rattle.page_codec.specs.declared.forms.MapPage.{MapPage}
use Rattle.map_page_cache.specs.CachedPages.{AreApart, CachedPages, Expires, Fills, GivesUp, HasNoFrame, IsAbsent, IsCache, IsIn, IsPageOf, IsThere, IsWriting, Sets, Writes, no_pages, with_mapping}
use Rattle.map_page_cache.specs.Turns.{Turns, with_turn}
use Rattle.map_page_cache.proofs.Rows.{none}

abbrev pub g : Geometry
g = small

abbrev pub page : ℕ → PageId
page index = record { tree = 0; level = 0; index = index }

held : (level : ℕ) (second : Mapping) → HoldsMapping g level second → AreHeld g level (Unmapped ∷ second ∷ others)
unfolding others
held level second is = record {
  count = let rest = length-replicate {A = Mapping} 810 Unmapped in omega (arith, rest);
  each = All-cons (HoldsMapping g level) Unmapped (second ∷ others) tt
      (All-cons (HoldsMapping g level) second others is (All-replicate (HoldsMapping g level) 810 Unmapped tt));
}

-- a leaf of the tree 0 in which no slot but the second is mapped
abbrev pub leaf_with : Mapping → ℕ → MapPage
leaf_with second index = record { head = record { geometry = g; page = page index; at = record { 0 = 100 + index } }; mappings = Unmapped ∷ second ∷ others }

abbrev pub leaf : ℕ → MapPage
leaf index = leaf_with Unmapped index

-- IsPageOf

pub page_of : (second : Mapping) (index : ℕ) → HoldsMapping g 0 second → IsPageOf g (leaf_with second index)
page_of second index is = record { geometry = refl; held = held 0 second is }

zero_of : IsPageOf g (leaf_with Zero 0)
zero_of = page_of Zero 0 refl

page_of_another_image : IsPageOf (record g { nonce = 2 }) (leaf 0) → ⊥
page_of_another_image is = omega (arith, ap (λ (h : Geometry). h.nonce) is.geometry)

page_of_two_slots : IsPageOf g (record (leaf 0) { mappings = Unmapped ∷ Unmapped ∷ [] }) → ⊥
page_of_two_slots is = omega (arith, is.held.count)

-- AreApart

two_apart : (first second : MapPage) → (first.head.page.index ≡ second.head.page.index → ⊥) → AreApart (first ∷ second ∷ [])
two_apart first second differ zero zero d below inside same = refl
two_apart first second differ zero (suc zero) d below inside same = absurd (differ (ap (λ (q : PageId). q.index) same))
two_apart first second differ (suc zero) zero d below inside same = absurd (differ (ap (λ (q : PageId). q.index) (sym same)))
two_apart first second differ (suc zero) (suc zero) d below inside same = refl
two_apart first second differ zero (suc (suc k)) d below inside same = absurd (omega (arith, inside))
two_apart first second differ (suc zero) (suc (suc k)) d below inside same = absurd (omega (arith, inside))
two_apart first second differ (suc (suc j)) k d below inside same = absurd (omega (arith, below))

twice_there : AreApart (leaf 0 ∷ leaf 0 ∷ []) → ⊥
twice_there apart = let same : ◌≡◌ {A = ℕ} 0 1 = apart 0 1 (leaf 0) (omega arith) (omega arith) refl in omega (arith, same)

-- IsCache: two frames, with no page, with one, or with two

abbrev pub cache_of : List MapPage → List DirtyPoints → Turns → CachedPages
cache_of pages dirty_points turns = record { geometry = g; frames = 2; pages = pages; dirty_points = dirty_points; turns = turns }

no_page_is : IsCache (no_pages g 2)
no_page_is = record { fits = omega arith; dirty_points = refl; each = All-nil (IsPageOf g); apart = λ j k d below inside same. absurd (omega (arith, below)); empty = clean_behind }
  where
    clean_behind : (frame : ℕ) → 0 ≤ frame → dirty_points_at (clean ∷ clean ∷ []) frame ≡ clean
    clean_behind zero past = refl
    clean_behind (suc zero) past = refl
    clean_behind (suc (suc k)) past = refl

pub one_is : (second : Mapping) (index : ℕ) (dirty_points : DirtyPoints) (turns : Turns) → HoldsMapping g 0 second → IsCache (cache_of (leaf_with second index ∷ []) (dirty_points ∷ clean ∷ []) turns)
one_is second index dirty_points turns is = record {
  fits = omega arith;
  dirty_points = refl;
  each = All-cons (IsPageOf g) (leaf_with second index) [] (page_of second index is) (All-nil (IsPageOf g));
  apart = λ j k d below inside same. omega (arith, below, inside);
  empty = λ frame past. clean_behind frame past;
}
  where
    clean_behind : (frame : ℕ) → 1 ≤ frame → dirty_points_at (dirty_points ∷ clean ∷ []) frame ≡ clean
    clean_behind zero past = absurd (omega (arith, past))
    clean_behind (suc zero) past = refl
    clean_behind (suc (suc k)) past = refl

pub two_are : (i j : ℕ) (first second : DirtyPoints) (turns : Turns) → (i ≡ j → ⊥) → IsCache (cache_of (leaf i ∷ leaf j ∷ []) (first ∷ second ∷ []) turns)
two_are i j first second turns differ = record {
  fits = omega arith;
  dirty_points = refl;
  each = All-cons (IsPageOf g) (leaf i) (leaf j ∷ []) (page_of Unmapped i tt) (All-cons (IsPageOf g) (leaf j) [] (page_of Unmapped j tt) (All-nil (IsPageOf g)));
  apart = two_apart (leaf i) (leaf j) differ;
  empty = λ frame past. clean_behind frame past;
}
  where
    clean_behind : (frame : ℕ) → 2 ≤ frame → dirty_points_at (first ∷ second ∷ []) frame ≡ clean
    clean_behind zero past = absurd (omega (arith, past))
    clean_behind (suc zero) past = absurd (omega (arith, past))
    clean_behind (suc (suc k)) past = refl

abbrev pub dirty : DirtyPoints
dirty = record { dirty = Some (p 5); writing = None }

abbrev pub one_page : CachedPages
one_page = cache_of (leaf 0 ∷ []) (clean ∷ clean ∷ []) (with_turn 0 true none)

abbrev pub two_pages : CachedPages
two_pages = cache_of (leaf 0 ∷ leaf 1 ∷ []) (clean ∷ clean ∷ []) (with_turn 1 true (with_turn 0 true none))

-- fits
more_than_its_frames : IsCache (record two_pages { frames = 1; dirty_points = clean ∷ [] }) → ⊥
more_than_its_frames is = omega (arith, is.fits)

-- dirty points
without_dirty_points : IsCache (record one_page { dirty_points = clean ∷ [] }) → ⊥
without_dirty_points is = omega (arith, is.dirty_points)

-- each
with_another_image : IsCache (record one_page { geometry = record g { nonce = 2 } }) → ⊥
with_another_image is = page_of_another_image (All-head (IsPageOf (record g { nonce = 2 })) (leaf 0) [] is.each)

-- apart
with_one_twice : IsCache (record two_pages { pages = leaf 0 ∷ leaf 0 ∷ [] }) → ⊥
with_one_twice is = twice_there is.apart

-- empty: the first of the empty frames, too
with_an_empty_dirty_frame : IsCache (record one_page { dirty_points = clean ∷ dirty ∷ [] }) → ⊥
with_an_empty_dirty_frame is = none-some (p 5) (sym (ap (λ (m : DirtyPoints). m.dirty) (is.empty 1 (omega arith))))

-- IsThere, IsAbsent

there : IsThere two_pages (page 1) (leaf 1)
there = ((1, omega arith, refl), refl)

never_there : IsThere one_page (page 1) (leaf 1) → ⊥
never_there ((zero, inside, same), named) = omega (arith, ap (λ (m : MapPage). m.head.page.index) same)
never_there ((suc k, inside, same), named) = omega (arith, inside)

there_as_another : IsThere two_pages (page 0) (leaf 1) → ⊥
there_as_another is = omega (arith, ap (λ (q : PageId). q.index) is.1)

pub absent : (index : ℕ) → 1 ≤ index → IsAbsent one_page (page index)
absent index past zero d inside same = omega (arith, past, ap (λ (q : PageId). q.index) same)
absent index past (suc k) d inside same = omega (arith, inside)

pub absent_of_two : IsAbsent two_pages (page 2)
absent_of_two zero d inside same = omega (arith, ap (λ (q : PageId). q.index) same)
absent_of_two (suc zero) d inside same = omega (arith, ap (λ (q : PageId). q.index) same)
absent_of_two (suc (suc k)) d inside same = omega (arith, inside)

pub not_absent : IsAbsent one_page (page 0) → ⊥
not_absent is = is 0 (leaf 0) (omega arith) refl

-- Fills

pub fills : Fills one_page two_pages (leaf 1)
fills = record { form = two_are 0 1 clean clean two_pages.turns (λ same. omega (arith, same)); room = omega arith; after = refl }

-- form: with a page that is there
fills_again : Fills one_page (record two_pages { pages = leaf 0 ∷ leaf 0 ∷ [] }) (leaf 0) → ⊥
fills_again is = with_one_twice is.form

-- room
fills_a_full_one : (new : CachedPages) → Fills two_pages new (leaf 2) → ⊥
fills_a_full_one new is = omega (arith, is.room)

-- after: the page becomes clean by a turn, and it is this one
fills_and_is_not_clean : Fills one_page (record two_pages { turns = one_page.turns }) (leaf 1) → ⊥
fills_and_is_not_clean is = omega (arith, ap (λ (c : CachedPages). c.turns.last) is.after)

last_index : List MapPage → ℕ
last_index [] = 0
last_index (first ∷ []) = 0
last_index (first ∷ other ∷ more) = other.head.page.index

first_index : List MapPage → ℕ
first_index [] = 0
first_index (first ∷ more) = first.head.page.index

fills_with_another : Fills one_page two_pages (leaf 2) → ⊥
unfolding last_index
fills_with_another is = omega (arith, ap (λ (c : CachedPages). last_index c.pages) is.after)

-- GivesUp: the first page goes, which has been clean for longer

abbrev pub third : CachedPages
third = record two_pages { pages = leaf 2 ∷ leaf 1 ∷ []; turns = with_turn 0 true two_pages.turns }

at_least_one : (k other : ℕ) → key_at two_pages.turns.frames k ≡ Some other → 1 ≤ other
at_least_one zero other at = omega (arith, ap number at)
at_least_one (suc zero) other at = omega (arith, ap number at)
at_least_one (suc (suc k)) other at = absurd (none-some other at)

pub gives_up : GivesUp two_pages third (leaf 2)
gives_up = record {
  form = two_are 2 1 clean clean third.turns (λ same. omega (arith, same));
  full = refl;
  frame = 0;
  inside = omega arith;
  clean = refl;
  longest = record { turn = 1; first = record { inside = omega arith; here = refl; least = at_least_one; first = λ k before at. omega (arith, before) } };
  after = refl;
}

-- form: for a page that is there
gives_up_for_one_that_is_there : GivesUp two_pages (record third { pages = leaf 1 ∷ leaf 1 ∷ [] }) (leaf 1) → ⊥
gives_up_for_one_that_is_there is = let same : ◌≡◌ {A = ℕ} 0 1 = is.form.apart 0 1 (leaf 1) (omega arith) (omega arith) refl in omega (arith, same)

-- full
gives_up_beside_an_empty_frame : (new : CachedPages) → GivesUp one_page new (leaf 2) → ⊥
gives_up_beside_an_empty_frame new is = omega (arith, is.full)

-- inside: no page goes, where a frame that isn't there has the least turn
abbrev odd : CachedPages
odd = record two_pages { turns = record { last = 5; frames = Some 4 ∷ Some 5 ∷ Some 1 ∷ [] } }

gives_up_none : GivesUp odd (record odd { turns = with_turn 2 true odd.turns }) (leaf 2) → ⊥
unfolding first_index last_index
gives_up_none is = by_frame is.frame is.inside (ap (λ (c : CachedPages). c.pages) is.after)
  where
    by_frame : (k : ℕ) → k < 2 → leaf 0 ∷ leaf 1 ∷ [] ≡ slice_set (leaf 0 ∷ leaf 1 ∷ []) k (leaf 2) → ⊥
    by_frame zero below same = omega (arith, ap first_index same)
    by_frame (suc zero) below same = omega (arith, ap last_index same)
    by_frame (suc (suc k)) below same = omega (arith, below)

-- clean: dirty pages stay, also where they are said to be clean
abbrev pub two_dirty : CachedPages
two_dirty = record two_pages { dirty_points = dirty ∷ dirty ∷ [] }

gives_up_a_dirty_one : (new : CachedPages) → GivesUp two_dirty new (leaf 2) → ⊥
gives_up_a_dirty_one new is = by_frame is.frame is.inside is.clean
  where
    by_frame : (k : ℕ) → k < 2 → dirty_points_at (dirty ∷ dirty ∷ []) k ≡ clean → ⊥
    by_frame zero below same = none-some (p 5) (sym (ap (λ (m : DirtyPoints). m.dirty) same))
    by_frame (suc zero) below same = none-some (p 5) (sym (ap (λ (m : DirtyPoints). m.dirty) same))
    by_frame (suc (suc k)) below same = omega (arith, below)

-- longest: and not the other, which is clean too
gives_up_the_other : GivesUp two_pages (record two_pages { pages = leaf 0 ∷ leaf 2 ∷ []; turns = with_turn 1 true two_pages.turns }) (leaf 2) → ⊥
unfolding first_index
gives_up_the_other is = by_frame is.frame is.inside is.longest.first.here is.longest.first.least (ap (λ (c : CachedPages). c.pages) is.after)
  where
    by_frame : (k : ℕ) → k < 2 → key_at two_pages.turns.frames k ≡ Some is.longest.turn
        → ((j other : ℕ) → key_at two_pages.turns.frames j ≡ Some other → is.longest.turn ≤ other)
        → leaf 0 ∷ leaf 2 ∷ [] ≡ slice_set (leaf 0 ∷ leaf 1 ∷ []) k (leaf 2) → ⊥
    by_frame zero below here least same = omega (arith, ap first_index same)
    by_frame (suc zero) below here least same = omega (arith, ap number here, least 0 1 refl)
    by_frame (suc (suc k)) below here least same = omega (arith, below)

-- after: the new page has a turn of its own
gives_up_and_is_not_clean : GivesUp two_pages (record third { turns = two_pages.turns }) (leaf 2) → ⊥
gives_up_and_is_not_clean is = omega (arith, ap (λ (c : CachedPages). c.turns.last) is.after)

-- HasNoFrame

no_frame : HasNoFrame two_dirty
no_frame = record { full = refl; unclean = unclean_at }
  where
    unclean_at : (k : ℕ) → k < 2 → dirty_points_at two_dirty.dirty_points k ≡ clean → ⊥
    unclean_at zero below is = none-some (p 5) (sym (ap (λ (m : DirtyPoints). m.dirty) is))
    unclean_at (suc zero) below is = none-some (p 5) (sym (ap (λ (m : DirtyPoints). m.dirty) is))
    unclean_at (suc (suc k)) below is = omega (arith, below)

-- full
an_empty_frame : HasNoFrame (record one_page { dirty_points = dirty ∷ dirty ∷ [] }) → ⊥
an_empty_frame is = omega (arith, is.full)

-- unclean: of the last frame, too
a_clean_frame : HasNoFrame (record two_pages { dirty_points = dirty ∷ clean ∷ [] }) → ⊥
a_clean_frame is = is.unclean 1 (omega arith) refl

-- IsIn

pub is_in : IsIn two_pages (page 1) 1 (leaf 1)
is_in = record { inside = omega arith; is = refl; named = refl }

in_no_frame : IsIn two_pages (page 7) 2 (leaf 7) → ⊥
in_no_frame is = omega (arith, is.inside)

in_another_frame : IsIn two_pages (page 1) 0 (leaf 1) → ⊥
in_another_frame is = omega (arith, ap (λ (m : MapPage). m.head.page.index) is.is)

in_it_by_another_name : IsIn two_pages (page 0) 1 (leaf 1) → ⊥
in_it_by_another_name is = omega (arith, ap (λ (q : PageId). q.index) is.named)

-- Sets: the page isn't clean from then on

abbrev pub set_one : CachedPages
set_one = cache_of (leaf_with Zero 0 ∷ []) (dirty ∷ clean ∷ []) (with_turn 0 false one_page.turns)

pub sets : Sets one_page set_one (page 0) 1 Zero (p 5)
sets = record { form = one_is Zero 0 dirty set_one.turns refl; frame = 0; content = leaf 0; stood = record { inside = omega arith; is = refl; named = refl }; after = refl }

-- form: a leaf can't hold that block
sets_to_the_index : Sets one_page (record set_one { pages = leaf_with (At (record { 0 = 84 })) 0 ∷ [] }) (page 0) 1 (At (record { 0 = 84 })) (p 5) → ⊥
sets_to_the_index is = let block = (is.form.each 0 (leaf 0) (omega arith)).held.each 1 Unmapped (omega arith) in omega (arith, block.0.stands)

-- stood
pub sets_what_is_not_there : (new : CachedPages) → Sets one_page new (page 1) 1 Zero (p 5) → ⊥
sets_what_is_not_there new is = by_frame is.frame is.stood.inside is.content is.stood.is is.stood.named
  where
    by_frame : (k : ℕ) → k < 1 → (content : MapPage) → slice_index_or (leaf 0 ∷ []) k content ≡ content → content.head.page ≡ page 1 → ⊥
    by_frame zero below content is named = omega (arith, ap (λ (m : MapPage). m.head.page.index) is, ap (λ (q : PageId). q.index) named)
    by_frame (suc k) below content is named = omega (arith, below)

-- after: that slot, that mapping, from that point on, and the page isn't clean any longer
zeros_at : ℕ → List MapPage → ℕ
zeros_at slot [] = 0
zeros_at slot (m ∷ more) = zero_in (slice_index_or m.mappings slot Unmapped)
  where
    zero_in : Mapping → ℕ
    zero_in Zero = 1
    zero_in other = 0

first_of : List DirtyPoints → ℕ
first_of [] = 0
first_of (m ∷ more) = point_in m.dirty
  where
    point_in : Option Point → ℕ
    point_in None = 0
    point_in (Some q) = q.0

sets_another_slot : Sets one_page set_one (page 0) 0 Zero (p 5) → ⊥
unfolding zeros_at
sets_another_slot is = by_frame is.frame is.stood.inside is.content is.stood.is (ap (λ (c : CachedPages). c.pages) is.after)
  where
    by_frame : (k : ℕ) → k < 1 → (content : MapPage) → slice_index_or (leaf 0 ∷ []) k content ≡ content
        → leaf_with Zero 0 ∷ [] ≡ slice_set (leaf 0 ∷ []) k (with_mapping 0 Zero content) → ⊥
    by_frame zero below content is same =
        let back = ap (λ (m : MapPage). with_mapping 0 Zero m ∷ []) (sym is) in omega (arith, ap (λ (pages : List MapPage). zeros_at 0 pages) (same ∙ back))
    by_frame (suc k) below content is same = omega (arith, below)

sets_at_another_point : Sets one_page set_one (page 0) 1 Zero (p 6) → ⊥
unfolding first_of
sets_at_another_point is = by_frame is.frame is.stood.inside (ap (λ (c : CachedPages). c.dirty_points) is.after)
  where
    by_frame : (k : ℕ) → k < 1 → set_one.dirty_points ≡ with_dirty_points one_page.dirty_points k (changed_at (p 6)) → ⊥
    by_frame zero below same = omega (arith, ap first_of same)
    by_frame (suc k) below same = omega (arith, below)

sets_and_stays_clean : Sets one_page (record set_one { turns = one_page.turns }) (page 0) 1 Zero (p 5) → ⊥
sets_and_stays_clean is = omega (arith, ap (λ (c : CachedPages). c.turns.last) is.after)

-- Expires: the turns stay

abbrev pub out_one : CachedPages
out_one = record set_one { dirty_points = out ∷ clean ∷ [] }

least_due : (other : ℕ) (later : Point) → IsDue (dirty_points_at set_one.dirty_points other) later → 5 ≤ later.0
least_due zero later due = omega (arith, ap number_of_point due.dirty)
least_due (suc zero) later due = absurd (none-some later due.dirty)
least_due (suc (suc k)) later due = absurd (none-some later due.dirty)

pub expires : Expires set_one out_one (p 5) (page 0) (leaf_with Zero 0)
expires = record {
  form = one_is Zero 0 out out_one.turns refl;
  frame = 0;
  stood = record { inside = omega arith; is = refl; named = refl };
  dirty_points = record { first = p 5; due = record { idle = refl; dirty = refl }; reached = omega arith; least = least_due; lowest = λ other due. omega arith; after = refl };
  after = refl;
}

-- stood: what is handed out is the page as it was set
expires_as_it_was_before : (new : CachedPages) → Expires set_one new (p 5) (page 0) (leaf 0) → ⊥
unfolding zeros_at
expires_as_it_was_before new is = by_frame is.frame is.stood.inside is.stood.is
  where
    by_frame : (k : ℕ) → k < 1 → slice_index_or set_one.pages k (leaf 0) ≡ leaf 0 → ⊥
    by_frame zero below same = omega (arith, ap (λ (m : MapPage). zeros_at 1 (m ∷ [])) same)
    by_frame (suc k) below same = omega (arith, below)

-- dirty points: not before the point from which on it is dirty
expires_too_soon : (new : CachedPages) → Expires set_one new (p 4) (page 0) (leaf_with Zero 0) → ⊥
expires_too_soon new is = let reached = is.dirty_points.reached in let least = least_due is.frame is.dirty_points.first is.dirty_points.due in omega (arith, reached, least)

expires_and_stays_dirty : Expires set_one set_one (p 5) (page 0) (leaf_with Zero 0) → ⊥
expires_and_stays_dirty is = by_frame is.frame is.stood.inside is.dirty_points.after
  where
    by_frame : (k : ℕ) → k < 1 → set_one.dirty_points ≡ with_dirty_points set_one.dirty_points k handed_out → ⊥
    by_frame zero below same = none-some (p 5) (sym (ap (λ (dirty_points : List DirtyPoints). (dirty_points_at dirty_points 0).dirty) same))
    by_frame (suc k) below same = omega (arith, below)

-- after
expires_and_is_clean : Expires set_one (record out_one { turns = with_turn 0 true out_one.turns }) (p 5) (page 0) (leaf_with Zero 0) → ⊥
expires_and_is_clean is = omega (arith, ap (λ (c : CachedPages). c.turns.last) is.after)

-- IsWriting

pub writing : IsWriting out_one (page 0)
writing = record { frame = 0; content = leaf_with Zero 0; stands = record { inside = omega arith; is = refl; named = refl }; dirty_points = record { first = p 5; is = refl } }

pub writing_before : IsWriting set_one (page 0) → ⊥
writing_before is = by_frame is.frame is.stands.inside is.dirty_points.first is.dirty_points.is
  where
    by_frame : (k : ℕ) → k < 1 → (first : Point) → (dirty_points_at set_one.dirty_points k).writing ≡ Some first → ⊥
    by_frame zero below first same = none-some first same
    by_frame (suc k) below first same = omega (arith, below)

writing_another : IsWriting out_one (page 1) → ⊥
writing_another is = by_frame is.frame is.stands.inside is.content is.stands.is is.stands.named
  where
    by_frame : (k : ℕ) → k < 1 → (content : MapPage) → slice_index_or out_one.pages k content ≡ content → content.head.page ≡ page 1 → ⊥
    by_frame zero below content is named = omega (arith, ap (λ (m : MapPage). m.head.page.index) is, ap (λ (q : PageId). q.index) named)
    by_frame (suc k) below content is named = omega (arith, below)

-- Writes: the page is clean, but where something was set since

abbrev pub written_one : CachedPages
written_one = record out_one { dirty_points = clean ∷ clean ∷ []; turns = with_turn 0 true out_one.turns }

pub writes : Writes out_one written_one (page 0)
writes = record { form = one_is Zero 0 clean written_one.turns refl; frame = 0; content = leaf_with Zero 0; stood = record { inside = omega arith; is = refl; named = refl }; after = refl }

abbrev set_since : CachedPages
set_since = record out_one { dirty_points = record { dirty = Some (p 7); writing = Some (p 5) } ∷ clean ∷ [] }

abbrev still_dirty : CachedPages
still_dirty = record set_since { dirty_points = record { dirty = Some (p 7); writing = None } ∷ clean ∷ []; turns = with_turn 0 false out_one.turns }

writes_but_for_what_was_set : Writes set_since still_dirty (page 0)
writes_but_for_what_was_set = record {
  form = one_is Zero 0 (record { dirty = Some (p 7); writing = None }) still_dirty.turns refl;
  frame = 0;
  content = leaf_with Zero 0;
  stood = record { inside = omega arith; is = refl; named = refl };
  after = refl;
}

-- stood
writes_another : (new : CachedPages) → Writes out_one new (page 1) → ⊥
writes_another new is = by_frame is.frame is.stood.inside is.content is.stood.is is.stood.named
  where
    by_frame : (k : ℕ) → k < 1 → (content : MapPage) → slice_index_or out_one.pages k content ≡ content → content.head.page ≡ page 1 → ⊥
    by_frame zero below content is named = omega (arith, ap (λ (m : MapPage). m.head.page.index) is, ap (λ (q : PageId). q.index) named)
    by_frame (suc k) below content is named = omega (arith, below)

-- after: it is given up again; and what was set since isn't durable
writes_and_never_gives_up : Writes out_one (record written_one { turns = out_one.turns }) (page 0) → ⊥
writes_and_never_gives_up is = omega (arith, ap (λ (c : CachedPages). c.turns.last) is.after)

writes_what_was_set_since : Writes set_since written_one (page 0) → ⊥
writes_what_was_set_since is = by_frame is.frame is.stood.inside (ap (λ (c : CachedPages). c.dirty_points) is.after)
  where
    by_frame : (k : ℕ) → k < 1 → clean ∷ clean ∷ [] ≡ with_dirty_points set_since.dirty_points k settled → ⊥
    by_frame zero below same = none-some (p 7) (ap (λ (dirty_points : List DirtyPoints). (dirty_points_at dirty_points 0).dirty) same)
    by_frame (suc k) below same = omega (arith, below)
