-- What a zone takes, hands out to be written, and reports as durable.
use Rattle.std.specs.Prelude.{ℕ, ◌≡◌, ◌/◌, ◌%◌, ◌<◌, ◌≤◌, List, length, slice_set}
use Rattle.blk_base.specs.Points.{half_of}
use Rattle.blk_base.specs.declared.journal_entry.Update.{Update}
use Rattle.blk_base.specs.declared.place.Pbn.{Pbn}
use Rattle.blk_base.specs.declared.point.Point.{Point}
use Rattle.slab_codec.specs.declared.forms.SlabEntry.{SlabEntry}
use Rattle.slab_counts.specs.Counts.{Counts, Takes}
use Rattle.slab_journal.specs.Unsettled.{IsLowPoint, IsUnsettled, NoneUnsettled}
use Rattle.slab_writes.specs.Due.{IsDue, NoneDue}
use Rattle.slab_writes.specs.Writes.{Writes, IsOut, Settles, taken}
use Rattle.slab_writes.specs.declared.forms.Need.{Need}
use Rattle.slab_writes.specs.declared.forms.SlabWork.{SlabWork}
use Rattle.zone_counts.specs.Zone.{Changes, IsOfZone, index_of, slab_at, slab_of}
use Rattle.slab_zone.specs.Whole.{WholeZone, writes_at, writes_of}

-- the journal of the block's slab takes one more update
abbrev pub HasRoomAt : WholeZone → Pbn → Type 0
HasRoomAt z at = length (writes_of z at).journal.filling < 320

-- its point is above those of the slab's updates before
abbrev pub RisesIn : WholeZone → Update → Type 0
RisesIn z update = (writes_of z update.at).journal.last.0 < update.point.0

-- an update that the zone may take: of one of its blocks, whose slab has room, with a point above those before
pub record MayTake (z : WholeZone) (update : Update) : Type 0 where
  pub own : IsOfZone z.counts update.at
  pub room : HasRoomAt z update.at
  pub rises : RisesIn z update

-- the update fits its counter and is taken, and is to be written; the oldest ticket gets the block if it became free
pub record TakesUpdate (old new : WholeZone) (update : Update) (slab : Counts) : Type 0 where
  pub takes : Takes (half_of update.point.0) (slab_of old.counts update.at) slab update.at
  pub changes : Changes old.counts new.counts update.at slab
  pub writes : new.writes ≡ slice_set old.writes (index_of old.counts update.at) (taken (writes_of old update.at) update)

-- of the first so many slabs each block that the need is for is being written
abbrev pub NoneDueBefore : Need → List Writes → ℕ → Type 0
NoneDueBefore need writes count = (k : ℕ) → k < count → NoneDue need (writes_at writes k)

abbrev pub NoneDueIn : Need → WholeZone → Type 0
NoneDueIn need z = NoneDueBefore need z.writes (length z.writes)

-- of the first slab that has one a block is written now that the need is for, with the counters as they are
pub record IsDueAmong (need : Need) (slabs : List Counts) (old new : List Writes) (bytes : List ℕ) (work : SlabWork) : Type 0 where
  pub place : ℕ
  pub inside : place < length old
  pub before : NoneDueBefore need old place
  pub slab : Writes
  pub due : IsDue need (writes_at old place) slab (slab_at slabs place).counters bytes work
  pub after : new ≡ slice_set old place slab

pub record IsDueIn (need : Need) (old new : WholeZone) (bytes : List ℕ) (work : SlabWork) : Type 0 where
  pub due : IsDueAmong need old.counts.slabs old.writes new.writes bytes work
  pub same : new ≡ record old { writes = new.writes }

-- a block of a slab of the zone was handed out to be written, and that isn't reported yet
pub record IsOutIn (z : WholeZone) (work : SlabWork) : Type 0 where
  pub inside : work.slab < z.counts.geometry.slabs
  pub own : work.slab % z.counts.zones ≡ z.counts.zone
  pub out : IsOut (writes_at z.writes (work.slab / z.counts.zones)) work

-- its write is durable
pub record SettlesIn (old new : WholeZone) (work : SlabWork) : Type 0 where
  pub slab : Writes
  pub settles : Settles (writes_at old.writes (work.slab / old.counts.zones)) slab work
  pub after : new ≡ record old { writes = slice_set old.writes (work.slab / old.counts.zones) slab }

-- the least point of an update of the first so many slabs that isn't durable
pub record IsLowPointBefore (writes : List Writes) (count : ℕ) (low : Point) : Type 0 where
  pub place : ℕ
  pub inside : place < count
  pub is : IsLowPoint (writes_at writes place).journal low
  pub least : (k : ℕ) (entry : SlabEntry) → k < count → IsUnsettled (writes_at writes k).journal entry → low.0 ≤ entry.point.0

abbrev pub IsLowPointIn : WholeZone → Point → Type 0
IsLowPointIn z low = IsLowPointBefore z.writes (length z.writes) low

-- each update of these slabs is durable
abbrev pub NoneUnsettledBefore : List Writes → ℕ → Type 0
NoneUnsettledBefore writes count = (k : ℕ) → k < count → NoneUnsettled (writes_at writes k).journal

abbrev pub NoneUnsettledIn : WholeZone → Type 0
NoneUnsettledIn z = NoneUnsettledBefore z.writes (length z.writes)
