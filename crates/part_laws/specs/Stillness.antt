-- When nothing is under way between the journal and the zones.
use Rattle.std.specs.Prelude.{ℕ, ◌≡◌, ◌+◌, ◌-◌, ◌*◌, ◌<◌, ◌≤◌, false, []}
use Rattle.part_laws.specs.Parts.{Has, points_of, last_low}
use Rattle.part_laws.specs.Trace.{Trace, sequence, unhanded, IsHanded, IsSet, IsDurable, told, heard, is_writing, needed, learned}
use Rattle.part_laws.specs.Watermarks.{Setup}
use Rattle.part_laws.specs.RightTraces.{IsOfChange}

-- Each entry was handed out, each part set and told, all that was told is heard, and the low point told last is the one now.
-- No zone writes, and each has the newest need; and a zone that doesn't write has nothing dirty at or below its need, since it
-- would begin to write it.
pub record IsStill (s : Setup) (t : Trace) : Type 0 where
  pub all_handed : unhanded t ≡ []
  pub all_set : (z p : ℕ) → IsHanded t z p → IsSet t z p
  pub all_told : (z p : ℕ) → IsSet t z p → Has p (points_of (told z t))
  pub all_heard : (z : ℕ) → told z t ≡ heard z t
  pub low_now : (z : ℕ) → IsOfChange t z (last_low (told z t))
  pub no_writing : (z : ℕ) → is_writing z t ≡ false
  pub all_learned : (z : ℕ) → z < s.zones → needed t ≤ learned z t
  pub begins : (z : ℕ) → z < s.zones → is_writing z t ≡ false → (p : ℕ) → IsSet t z p → p ≤ learned z t → IsDurable t z p

-- The point up to which a ring of so many blocks needs durable what is journaled, so that this block has its slot: the last one
-- of the blocks that are in the way. It is of no half that adds.
abbrev pub need_for : ℕ → ℕ → ℕ
need_for sequence size = (sequence + 2 - size) * 512 - 1

-- the journal posted the need for the block being filled, or none is in its way
abbrev pub HasAsked : Setup → ℕ → Trace → Type 0
HasAsked s size t = (sequence s.start t + 2) * 512 ≤ needed t + 1 + size * 512
