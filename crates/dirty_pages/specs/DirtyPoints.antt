-- What of the changes of pages isn't durable yet.
use Rattle.std.specs.Prelude.{ℕ, ◌≡◌, ◌<◌, ◌≤◌, min, ◌⊎◌, Bool, true, false, List, Option, None, Some, slice_index_or, slice_set}
use Rattle.blk_base.specs.declared.point.Point.{Point}
use Rattle.dirty_pages.specs.declared.dirty_points.DirtyPoints.{DirtyPoints}

-- all changes are durable
abbrev pub clean : DirtyPoints
clean = record { dirty = None; writing = None }

-- the lesser of a point that may be there and another
abbrev pub least_of : Option Point → Point → Point
least_of None point = point
least_of (Some first) point = record { 0 = min first.0 point.0 }

-- the page is changed at this point
abbrev pub changed_at : Point → DirtyPoints → DirtyPoints
changed_at point dirty_points = record dirty_points { dirty = Some (least_of dirty_points.dirty point) }

-- the page is being written: what changes it from now on isn't in that write
abbrev pub handed_out : DirtyPoints → DirtyPoints
handed_out dirty_points = record { dirty = None; writing = dirty_points.dirty }

-- the write is durable
abbrev pub settled : DirtyPoints → DirtyPoints
settled dirty_points = record dirty_points { writing = None }

-- a point from which on changes of the page aren't durable
abbrev pub HasPoint : DirtyPoints → Point → Type 0
HasPoint dirty_points point = (dirty_points.dirty ≡ Some point) ⊎ (dirty_points.writing ≡ Some point)

-- the page isn't being written, and was changed first at this point
pub record IsDue (dirty_points : DirtyPoints) (first : Point) : Type 0 where
  pub idle : dirty_points.writing ≡ None
  pub dirty : dirty_points.dirty ≡ Some first

-- the page was handed out, and its write isn't durable yet
pub record IsBeingWritten (dirty_points : DirtyPoints) : Type 0 where
  pub first : Point
  pub is : dirty_points.writing ≡ Some first

-- the dirty points of a page by its number; past the last page they are clean
abbrev pub dirty_points_at : List DirtyPoints → ℕ → DirtyPoints
dirty_points_at pages number = slice_index_or pages number clean

-- other dirty points for a page
abbrev pub with_dirty_points : List DirtyPoints → ℕ → (DirtyPoints → DirtyPoints) → List DirtyPoints
with_dirty_points pages number change = slice_set pages number (change (dirty_points_at pages number))

-- the least point with which a page is due
pub record IsFirstDue (pages : List DirtyPoints) (first : Point) : Type 0 where
  pub number : ℕ
  pub due : IsDue (dirty_points_at pages number) first
  pub least : (other : ℕ) (later : Point) → IsDue (dirty_points_at pages other) later → first.0 ≤ later.0

-- no page is due, at whatever point
abbrev pub NoneIsEverDue : List DirtyPoints → Type 0
NoneIsEverDue pages = (number : ℕ) (first : Point) → IsDue (dirty_points_at pages number) first → ⊥

-- of the pages that are due the one with the least first point is handed out, if that is at most the point; of several with
-- the same first point that is the one with the least number
pub record HandsOut (old new : List DirtyPoints) (point : Point) (number : ℕ) : Type 0 where
  pub first : Point
  pub due : IsDue (dirty_points_at old number) first
  pub reached : first.0 ≤ point.0
  pub least : (other : ℕ) (later : Point) → IsDue (dirty_points_at old other) later → first.0 ≤ later.0
  pub lowest : (other : ℕ) → IsDue (dirty_points_at old other) first → number ≤ other
  pub after : new ≡ with_dirty_points old number handed_out

-- no page is due at the point
abbrev pub NoneIsDue : List DirtyPoints → Point → Type 0
NoneIsDue pages point = (number : ℕ) (first : Point) → IsDue (dirty_points_at pages number) first → point.0 < first.0

-- a change from this point on isn't durable, and all that aren't are from it on
pub record IsLowPoint (pages : List DirtyPoints) (low : Point) : Type 0 where
  pub number : ℕ
  pub has : HasPoint (dirty_points_at pages number) low
  pub least : (other : ℕ) (point : Point) → HasPoint (dirty_points_at pages other) point → low.0 ≤ point.0

-- each page is clean
abbrev pub AreClean : List DirtyPoints → Type 0
AreClean pages = (number : ℕ) → dirty_points_at pages number ≡ clean

-- what the trees of least numbers keep of the dirty points of a page: the first dirty point where it isn't being written
abbrev pub due_by : Option Point → Option Point → Option ℕ
due_by None None = None
due_by None (Some first) = Some first.0
due_by (Some point) dirty = None

abbrev pub due_of : DirtyPoints → Option ℕ
due_of dirty_points = due_by dirty_points.writing dirty_points.dirty

-- and the least point of what isn't durable
abbrev pub unwritten_by : Option Point → Option Point → Option ℕ
unwritten_by None None = None
unwritten_by None (Some point) = Some point.0
unwritten_by (Some first) None = Some first.0
unwritten_by (Some first) (Some point) = Some (min first.0 point.0)

abbrev pub unwritten_of : DirtyPoints → Option ℕ
unwritten_of dirty_points = unwritten_by dirty_points.dirty dirty_points.writing

-- whether a page is clean
abbrev pub clean_by : Option Point → Option Point → Bool
clean_by None None = true
clean_by None (Some point) = false
clean_by (Some point) writing = false

abbrev pub clean_of : DirtyPoints → Bool
clean_of dirty_points = clean_by dirty_points.dirty dirty_points.writing
