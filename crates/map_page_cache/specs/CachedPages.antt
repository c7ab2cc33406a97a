-- What a cache keeps: pages by their frames, and what of each isn't durable yet.
use Rattle.std.specs.Prelude.{ℕ, ◌≡◌, ◌≢◌, ◌<◌, ◌≤◌, true, false, List, [], ◌∷◌, ◌++◌, length, All, Contains, replicate, slice_index_or, slice_set}
use Rattle.blk_base.specs.declared.place.PageId.{PageId}
use Rattle.blk_base.specs.declared.place.Mapping.{Mapping}
use Rattle.blk_base.specs.declared.point.Point.{Point}
use Rattle.blk_base.specs.declared.geometry.Geometry.{Geometry}
use Rattle.page_codec.specs.declared.forms.MapPage.{MapPage}
use Rattle.page_codec.specs.Grammar.{AreHeld}
use Rattle.dirty_pages.specs.declared.dirty_points.DirtyPoints.{DirtyPoints}
use Rattle.dirty_pages.specs.DirtyPoints.{clean, clean_of, dirty_points_at, with_dirty_points, changed_at, settled, HandsOut, IsBeingWritten}
use Rattle.map_page_cache.specs.Turns.{IsLongestClean, Turns, no_turns, with_turn}

-- The sizes of the image, how many frames there are, the pages in those that aren't empty, which are the first ones, the
-- dirty points of all frames, and in which order they came to have clean pages.
pub record CachedPages : Type 0 where
  pub geometry : Geometry
  pub frames : ℕ
  pub pages : List MapPage
  pub dirty_points : List DirtyPoints
  pub turns : Turns

-- each frame is empty
abbrev pub no_pages : Geometry → ℕ → CachedPages
no_pages g frames = record { geometry = g; frames = frames; pages = []; dirty_points = replicate frames clean; turns = no_turns frames }

-- a page of an image with these sizes, with what the format of pages can hold
pub record IsPageOf (g : Geometry) (content : MapPage) : Type 0 where
  pub geometry : content.head.geometry ≡ g
  pub held : AreHeld g content.head.page.level content.mappings

-- no page is there twice
abbrev pub AreApart : List MapPage → Type 0
AreApart pages =
    (j k : ℕ) (d : MapPage) → j < length pages → k < length pages
    → (slice_index_or pages j d).head.page ≡ (slice_index_or pages k d).head.page → j ≡ k

-- Holds of each cache: its pages are of its image, no two are the same, and empty frames have no dirty points.
pub record IsCache (cache : CachedPages) : Type 0 where
  pub fits : length cache.pages ≤ cache.frames
  pub dirty_points : length cache.dirty_points ≡ cache.frames
  pub each : All (IsPageOf cache.geometry) cache.pages
  pub apart : AreApart cache.pages
  pub empty : (frame : ℕ) → length cache.pages ≤ frame → dirty_points_at cache.dirty_points frame ≡ clean

-- the page is there, with this content
abbrev pub IsThere : CachedPages → PageId → MapPage → Type 0
IsThere cache page content = Contains cache.pages content × (content.head.page ≡ page)

-- the page isn't there
abbrev pub IsAbsent : CachedPages → PageId → Type 0
IsAbsent cache page = All (λ content. content.head.page ≢ page) cache.pages

-- a frame was empty, and the page is in it
pub record Fills (old new : CachedPages) (content : MapPage) : Type 0 where
  pub form : IsCache new
  pub room : length old.pages < old.frames
  pub after : new ≡ record old { pages = old.pages ++ content ∷ []; turns = with_turn (length old.pages) true old.turns }

-- no frame was empty, and the page is in the frame of the page that was clean for the longest time, which was given up
pub record GivesUp (old new : CachedPages) (content : MapPage) : Type 0 where
  pub form : IsCache new
  pub full : length old.pages ≡ old.frames
  pub frame : ℕ
  pub inside : frame < length old.pages
  pub clean : dirty_points_at old.dirty_points frame ≡ clean
  pub longest : IsLongestClean old.turns frame
  pub after : new ≡ record old { pages = slice_set old.pages frame content; turns = with_turn frame true old.turns }

-- every frame has a page that is dirty or being written
pub record HasNoFrame (cache : CachedPages) : Type 0 where
  pub full : length cache.pages ≡ cache.frames
  pub unclean : (frame : ℕ) → frame < cache.frames → dirty_points_at cache.dirty_points frame ≡ clean → ⊥

-- the page is in this frame, with this content
pub record IsIn (cache : CachedPages) (page : PageId) (frame : ℕ) (content : MapPage) : Type 0 where
  pub inside : frame < length cache.pages
  pub is : slice_index_or cache.pages frame content ≡ content
  pub named : content.head.page ≡ page

-- a page with another mapping in a slot
abbrev pub with_mapping : ℕ → Mapping → MapPage → MapPage
with_mapping slot mapping content = record content { mappings = slice_set content.mappings slot mapping }

-- a slot of the page is mapped, by the entry of this point
pub record Sets (old new : CachedPages) (page : PageId) (slot : ℕ) (mapping : Mapping) (point : Point) : Type 0 where
  pub form : IsCache new
  pub frame : ℕ
  pub content : MapPage
  pub stood : IsIn old page frame content
  pub after : new ≡ record old {
    pages = slice_set old.pages frame (with_mapping slot mapping content);
    dirty_points = with_dirty_points old.dirty_points frame (changed_at point);
    turns = with_turn frame false old.turns;
  }

-- the page that was changed first, of those that are due, is handed out as it is
pub record Expires (old new : CachedPages) (point : Point) (page : PageId) (copy : MapPage) : Type 0 where
  pub form : IsCache new
  pub frame : ℕ
  pub stood : IsIn old page frame copy
  pub dirty_points : HandsOut old.dirty_points new.dirty_points point frame
  pub after : new ≡ record old { dirty_points = new.dirty_points }

-- the page was handed out, and its write isn't durable yet
pub record IsWriting (cache : CachedPages) (page : PageId) : Type 0 where
  pub frame : ℕ
  pub content : MapPage
  pub stands : IsIn cache page frame content
  pub dirty_points : IsBeingWritten (dirty_points_at cache.dirty_points frame)

-- the page is written, but for what was set since it was handed out
pub record Writes (old new : CachedPages) (page : PageId) : Type 0 where
  pub form : IsCache new
  pub frame : ℕ
  pub content : MapPage
  pub stood : IsIn old page frame content
  pub after : new ≡ record old {
    dirty_points = with_dirty_points old.dirty_points frame settled;
    turns = with_turn frame (clean_of (settled (dirty_points_at old.dirty_points frame))) old.turns;
  }
