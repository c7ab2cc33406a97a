-- What a contract sees of a window.
use Rattle.std.specs.Prelude.{ℕ, List}
use Rattle.blk_base.specs.declared.journal_entry.CommittedEntry.{CommittedEntry}

-- its last sequence, and its entries, the newest first
pub record WindowState : Type 0 where
  pub last : ℕ
  pub entries : List CommittedEntry
