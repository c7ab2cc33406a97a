-- What the journal's zone keeps of what it handed out.
use Rattle.std.specs.Prelude.{ℕ, ◌≡◌, ◌<◌, Option, None, Some, ◌++◌, length}
use Rattle.blk_base.specs.declared.point.Point.{Point}
use Rattle.handed_parts.specs.Parts.{Handed, low_of, reported}
use Rattle.part_laws.specs.Parts.{last_low, points_for}
use Rattle.part_laws.specs.Trace.{Happening, Hands, Hears, Trace, heard, waiting}

-- It has for each zone the points of the parts that were handed out and not heard, and the low point that was heard last.
pub record IsKeptOf (zones : ℕ) (handed : Handed) (t : Trace) : Type 0 where
  pub count : length handed.lows ≡ zones
  pub parts : (z : ℕ) → points_for z handed.waiting ≡ waiting z t
  pub lows : (z : ℕ) → z < zones → low_of handed z ≡ last_low (heard z t)

-- a number as a point
abbrev pub point_with : Option ℕ → Option Point
point_with None = None
point_with (Some n) = Some (record { 0 = n })

-- a happening is of a zone of the session
abbrev pub IsInside : ℕ → Happening → Type 0
IsInside zones (Hears z x) = z < zones
IsInside zones other = Unit {0}

-- what it keeps after each happening: the parts of an entry are handed out, a report is heard
abbrev pub keeping : Happening → Handed → Handed
keeping (Hands e) handed = record handed { waiting = handed.waiting ++ e.parts }
keeping (Hears z x) handed = reported z (point_with x.part) (point_with x.low) handed
keeping other handed = handed
