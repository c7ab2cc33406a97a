-- What is true of a recovery journal at every moment.
use Rattle.std.specs.Prelude.{ℕ, ◌+◌, ◌*◌, ◌/◌, ◌%◌, ◌^◌, ◌<◌, ◌≤◌, List, [], ◌∷◌, length, All}
use Rattle.blk_base.specs.declared.journal_entry.CommittedEntry.{CommittedEntry}
use Rattle.blk_base.specs.declared.sizes.TheConstants.{JOURNAL_ENTRIES}
use Rattle.recovery_journal.specs.Log.{Log, IsNamed, IsNeeded, point_at, head_of, unhanded}

-- how many places of blocks stand before a point: each block has 192
abbrev pub rank : ℕ → ℕ
rank point = point / 512 * JOURNAL_ENTRIES + point % 512 / 2

-- the entries have the points of places that rise, from this rank on and below that one
abbrev pub AreRising : ℕ → List CommittedEntry → ℕ → Type 0
AreRising low [] high = low ≤ high
AreRising low (entry ∷ entries) high = (entry.point.0 % 512 < 384) × (low ≤ rank entry.point.0) × AreRising (rank entry.point.0 + 1) entries high

-- the watermarks are at or below the point of this entry
abbrev pub AreBelow : Log → ℕ → Type 0
AreBelow log point = All (λ watermark. watermark.0 ≤ point) log.watermarks

pub record IsKept (log : Log) : Type 0 where
  pub zones : 0 < length log.watermarks
  pub size : log.size ≤ 1024
  pub first : 1 ≤ log.committed
  pub number : log.sequence ≤ 2 ^ 55
  pub number_filling : 0 < length log.filling → log.sequence < 2 ^ 55
  pub rising : AreRising 0 log.entries (log.sequence * JOURNAL_ENTRIES)
  pub named : All IsNamed log.entries
  pub handed : log.handed ≤ length log.entries
  pub committed : (log.committed ≤ log.sequence) × (log.sequence ≤ log.committed + 1)
  pub ring : log.sequence + 1 ≤ head_of log + log.size
  pub ring_filling : 0 < length log.filling → log.sequence + 2 ≤ head_of log + log.size
  pub watermarks : AreBelow log (point_at log.sequence 0)
  pub unhanded : All (λ entry. AreBelow log entry.point.0) (unhanded log)
  pub needed : All (λ entry. IsNeeded log.watermarks entry.point) log.entries
