-- How the index and the flags of the clean frames follow from the pages in the frames.
use Rattle.std.specs.Prelude.{ℕ, ◌≡◌, ◌<◌, ◌≤◌, Bool, false, List, length, slice_index_or}
use Rattle.blk_base.specs.declared.place.PageId.{PageId}
use Rattle.page_codec.specs.declared.forms.MapPage.{MapPage}
use Rattle.dirty_pages.specs.declared.dirty_points.DirtyPoints.{DirtyPoints}
use Rattle.dirty_pages.specs.DirtyPoints.{dirty_points_at, clean_of}
use Rattle.map_page_cache.specs.Index.{Index, HasSlot}

-- the page is in this frame
pub record IsAt (pages : List MapPage) (page : PageId) (frame : ℕ) : Type 0 where
  pub inside : frame < length pages
  pub named : (d : MapPage) → (slice_index_or pages frame d).head.page ≡ page

-- the index has each page at its frame, and nothing else
pub record Follows (index : Index) (frames : ℕ) (pages : List MapPage) : Type 0 where
  pub room : index.room ≡ frames
  pub count : length index.entries ≡ length pages
  pub pages_at : (page : PageId) (frame : ℕ) → HasSlot index page frame → IsAt pages page frame
  pub all : (page : PageId) (frame : ℕ) → IsAt pages page frame → HasSlot index page frame

-- a flag for each frame that has a clean page
pub record AreFlags (flags : List Bool) (frames count : ℕ) (dirty_points : List DirtyPoints) : Type 0 where
  pub size : length flags ≡ frames
  pub here : (frame : ℕ) → frame < count → slice_index_or flags frame false ≡ clean_of (dirty_points_at dirty_points frame)
  pub empty : (frame : ℕ) → count ≤ frame → slice_index_or flags frame false ≡ false
