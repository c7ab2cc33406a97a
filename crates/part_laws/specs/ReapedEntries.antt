-- What the recovery journal keeps of the entries of sealed blocks, by the watermarks of a trace.
use Rattle.std.specs.Prelude.{ℕ, ◌≡◌, ◌<◌, ◌≤◌, ◌⊎◌, List, [], ◌∷◌, length, slice_index_or}
use Rattle.blk_base.specs.declared.journal_entry.CommittedEntry.{CommittedEntry}
use Rattle.blk_base.specs.declared.point.Point.{Point}
use Rattle.recovery_journal.specs.Log.{Log}
use Rattle.part_laws.specs.Watermarks.{Setup, watermark}
use Rattle.part_laws.specs.Parts.{Logged}
use Rattle.part_laws.specs.Trace.{Happening, Seals, Trace, IsSealed, sequence}

-- one of these entries is at this point
abbrev pub HasPoint : ℕ → List CommittedEntry → Type 0
HasPoint p [] = ⊥
HasPoint p (e ∷ es) = (e.point.0 ≡ p) ⊎ HasPoint p es

-- the watermark that the journal has of a zone
abbrev pub watermark_in : List Point → ℕ → ℕ
watermark_in watermarks z = (slice_index_or watermarks z (record { 0 = 0 })).0

-- Its watermarks are at most those of the trace, and each entry of a sealed block that it left out is below all of
-- these.
pub record Reaps (s : Setup) (log : Log) (t : Trace) : Type 0 where
  pub number : log.sequence ≡ sequence s.start t
  pub count : length log.watermarks ≡ s.zones
  pub watermarks : (z : ℕ) → z < s.zones → watermark_in log.watermarks z ≤ watermark s z t
  pub kept : (e : Logged) → IsSealed t e → HasPoint e.at log.entries ⊎ ((z : ℕ) → z < s.zones → e.at < watermark s z t)

-- it isn't that a block is sealed
abbrev pub IsOther : Happening → Type 0
IsOther (Seals es) = ⊥
IsOther other = Unit {0}
