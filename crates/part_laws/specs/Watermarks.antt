-- The watermarks of zones, and the head that they leave.
use Rattle.std.specs.Prelude.{ℕ, zero, suc, ◌*◌, ◌/◌, min, List, [], ◌∷◌}
use Rattle.part_laws.specs.Parts.{Logged, rounded, least_of, lesser, last_low}
use Rattle.part_laws.specs.Trace.{Trace, sequence, unhanded, waiting, heard}

-- a session: its first sequence, and the number of its zones
pub record Setup : Type 0 where
  pub start : ℕ
  pub zones : ℕ

-- the point of the first of these entries, or else of the first entry of a block
abbrev pub first_point : List Logged → ℕ → ℕ
first_point [] sequence = sequence * 512
first_point (e ∷ es) sequence = e.at

-- the point of the first entry that wasn't handed out; where there is none, the first of the block being filled
abbrev pub front : Setup → Trace → ℕ
front s t = first_point (unhanded t) (sequence s.start t)

-- The watermark of a zone: the least point of the parts handed out and not heard, of the low point that was heard last, and of the
-- first entry that wasn't handed out, of the half that adds.
abbrev pub watermark : Setup → ℕ → Trace → ℕ
watermark s z t = rounded (least_of (waiting z t) (lesser (last_low (heard z t)) (front s t)))

-- the least watermark of so many zones, with what wasn't handed out
abbrev pub least_watermark : Setup → ℕ → Trace → ℕ
least_watermark s zero t = front s t
least_watermark s (suc n) t = min (watermark s n t) (least_watermark s n t)

-- the sequence of the least watermark
abbrev pub head_of : Setup → Trace → ℕ
head_of s t = least_watermark s s.zones t / 512
