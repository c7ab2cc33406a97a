-- The parts of committed entries that were handed out to zones and that they didn't report yet, and the watermarks that these leave.
use Rattle.std.specs.Prelude.{ℕ, ◌≡◌, ◌*◌, ◌/◌, ◌⊎◌, ◌==◌, ◌&&◌, Bool, min, if◌then◌else◌, Option, None, Some, List, [], ◌∷◌, ◌++◌, replicate, slice_index_or, slice_set}
use Rattle.plain_laws.specs.Firsts.{but_first}
use Rattle.blk_base.specs.declared.point.Point.{Point}
use Rattle.handed_parts.specs.declared.part.Part.{Part}

-- `waiting` are the parts that weren't reported, in the order in which they were handed out, of which there may be `room` at
-- most; `lows` has for each zone the low point that it reported last.
pub record Handed : Type 0 where
  pub room : ℕ
  pub waiting : List Part
  pub lows : List (Option Point)

-- the point is one of these
abbrev pub Has : ℕ → List ℕ → Type 0
Has p [] = ⊥
Has p (q ∷ qs) = (q ≡ p) ⊎ Has p qs

-- the points of those that a zone has
abbrev pub points_for : ℕ → List Part → List ℕ
points_for z [] = []
points_for z (part ∷ parts) = if part.zone == z then part.point.0 ∷ points_for z parts else points_for z parts

-- whether this is the part of a zone at a point
abbrev pub is_part : ℕ → ℕ → Part → Bool
is_part z p part = part.zone == z && part.point.0 == p

-- the parts without that one
abbrev pub without_part : ℕ → Option Point → List Part → List Part
without_part z None parts = parts
without_part z (Some p) parts = but_first (is_part z p.0) parts

abbrev pub number_of : Option Point → Option ℕ
number_of None = None
number_of (Some p) = Some p.0

-- the point of the half that adds, of the same entry
abbrev pub rounded : ℕ → ℕ
rounded p = p / 2 * 2

-- the least of these and of another
abbrev pub least_of : List ℕ → ℕ → ℕ
least_of [] bound = bound
least_of (p ∷ ps) bound = min p (least_of ps bound)

-- the lesser of a low point and another; where there is none, it is above all
abbrev pub lesser : Option ℕ → ℕ → ℕ
lesser None p = p
lesser (Some low) p = min low p

-- the low point that a zone reported last
abbrev pub low_of : Handed → ℕ → Option ℕ
low_of handed z = number_of (slice_index_or handed.lows z None)

-- nothing was handed out
abbrev pub opening : ℕ → ℕ → Handed
opening zones room = record { room = room; waiting = []; lows = replicate zones None }

-- a part is handed out
abbrev pub handed_out : ℕ → Point → Handed → Handed
handed_out z p handed = record handed { waiting = handed.waiting ++ (record { zone = z; point = p }) ∷ [] }

-- a zone reports that a part is handled, or none, and its low point
abbrev pub reported : ℕ → Option Point → Option Point → Handed → Handed
reported z part low handed = record handed { waiting = without_part z part handed.waiting; lows = slice_set handed.lows z low }

-- The watermark of a zone: the least of its points that weren't reported, of its low point, and of the first entry that wasn't
-- handed out, of the half that adds.
abbrev pub watermark_of : Handed → ℕ → ℕ → ℕ
watermark_of handed z front = rounded (least_of (points_for z handed.waiting) (lesser (low_of handed z) front))
