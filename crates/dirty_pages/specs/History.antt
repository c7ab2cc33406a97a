-- What became of the changes of pages, by what happened; the newest comes first.
use Rattle.std.specs.Prelude.{◌≡◌, ◌≢◌, ◌≤◌, ◌⊎◌, List, [], ◌∷◌, Option, None, Some}
use Rattle.blk_base.specs.declared.place.PageId.{PageId}
use Rattle.blk_base.specs.declared.point.Point.{Point}
use Rattle.plain_laws.specs.Leads.{LeadsBy}
use Rattle.dirty_pages.specs.declared.dirty_points.DirtyPoints.{DirtyPoints}
use Rattle.dirty_pages.specs.DirtyPoints.{changed_at, handed_out, settled}

-- a page is changed at a point, is handed out to be written, is reported as written
pub data Event : Type 0 where
  Changed : PageId → Point → Event
  HandedOut : PageId → Event
  Written : PageId → Event

-- the page was changed at this point, and wasn't handed out since
abbrev pub IsWaiting : List Event → PageId → Point → Type 0
IsWaiting [] page point = ⊥
IsWaiting (Changed other at ∷ events) page point = ((other ≡ page) × (at ≡ point)) ⊎ IsWaiting events page point
IsWaiting (HandedOut other ∷ events) page point = (other ≢ page) × IsWaiting events page point
IsWaiting (Written other ∷ events) page point = IsWaiting events page point

-- the page was handed out with a change at this point, and that isn't written
abbrev pub IsInWrite : List Event → PageId → Point → Type 0
IsInWrite [] page point = ⊥
IsInWrite (Changed other at ∷ events) page point = IsInWrite events page point
IsInWrite (HandedOut other ∷ events) page point = ((other ≡ page) × IsWaiting events page point) ⊎ IsInWrite events page point
IsInWrite (Written other ∷ events) page point = (other ≢ page) × IsInWrite events page point

-- the change isn't on the device for sure
abbrev pub IsUnwritten : List Event → PageId → Point → Type 0
IsUnwritten events page point = IsWaiting events page point ⊎ IsInWrite events page point

-- the page wasn't reported as written
abbrev pub IsUnreported : List Event → PageId → Type 0
IsUnreported [] page = Unit {0}
IsUnreported (Changed other at ∷ events) page = IsUnreported events page
IsUnreported (HandedOut other ∷ events) page = IsUnreported events page
IsUnreported (Written other ∷ events) page = (other ≢ page) × IsUnreported events page

-- what an event makes of the dirty points of a page: only a page that isn't being written is handed out
abbrev pub Becomes : Event → PageId → DirtyPoints → DirtyPoints → Type 0
Becomes (Changed other point) page old new = ((other ≡ page) × (new ≡ changed_at point old)) ⊎ ((other ≢ page) × (new ≡ old))
Becomes (HandedOut other) page old new = ((other ≡ page) × (old.writing ≡ None) × (new ≡ handed_out old)) ⊎ ((other ≢ page) × (new ≡ old))
Becomes (Written other) page old new = ((other ≡ page) × (new ≡ settled old)) ⊎ ((other ≢ page) × (new ≡ old))

-- the dirty points of a page after these events
abbrev pub IsAfter : DirtyPoints → List Event → PageId → DirtyPoints → Type 0
IsAfter old events page new = LeadsBy (λ event before after. Becomes event page before after) old events new

-- the point is there and is at most this one
pub record AtMost (least : Option Point) (point : Point) : Type 0 where
  pub first : Point
  pub is : least ≡ Some first
  pub early : first.0 ≤ point.0
