-- What is true of a slab's journal at every moment.
use Rattle.std.specs.Prelude.{ℕ, ◌≡◌, ◌+◌, ◌<◌, ◌≤◌, ◌^◌, List, [], ◌∷◌, length, All}
use Rattle.blk_base.specs.Counters.{sectors_per_slab}
use Rattle.blk_base.specs.Limits.{IsGeometry}
use Rattle.slab_codec.specs.Grammar.{HoldsEntry}
use Rattle.slab_codec.specs.declared.forms.SlabEntry.{SlabEntry}
use Rattle.slab_journal.specs.Slab.{Slab, IsWriting}
use Rattle.slab_journal.specs.Unsettled.{IsRising, sealed_block}

-- each is an update of a data block of the slab
abbrev pub AreOfSlab : Slab → List SlabEntry → Type 0
AreOfSlab log entries = All (HoldsEntry log.geometry.slab_blocks) entries

-- the point of the first of these, or else this one
abbrev pub first_of : List SlabEntry → ℕ → ℕ
first_of [] point = point
first_of (entry ∷ entries) point = entry.point.0

-- the updates of a block that is being written are by rising points, below those of the block being filled
pub record IsBefore (log : Slab) (block : List SlabEntry) : Type 0 where
  pub rising : IsRising block
  pub below : All (λ entry. entry.point.0 ≤ first_of log.filling log.last.0) block

pub record IsKept (log : Slab) : Type 0 where
  pub geometry : IsGeometry log.geometry
  pub slab : log.slab < log.geometry.slabs
  pub ring : length log.slots ≡ log.geometry.slab_journal
  pub sectors : length log.commits ≡ sectors_per_slab log.geometry
  pub last : log.last.0 < 2 ^ 64
  pub number : log.sequence ≤ log.last.0
  pub number_filling : 0 < length log.filling → log.sequence < log.last.0
  pub durable : (log.durable ≤ log.sequence) × (log.sequence ≤ log.durable + 1)
  pub filling : AreOfSlab log log.filling
  pub taken : All (λ entry. entry.point.0 ≤ log.last.0) log.filling
  pub rising : All (λ entry. first_of log.filling log.last.0 ≤ entry.point.0) log.filling
  pub blocks : All (AreOfSlab log) log.slots
  pub in_order : IsRising log.filling
  pub sealed : IsWriting log → IsBefore log (sealed_block log)
