-- What the journal keeps, as contracts see it.
use Rattle.std.specs.Prelude.{Bool, List}
use Rattle.data_vio.specs.declared.items.Vio.{Vio}
use Rattle.data_vio.specs.declared.logged.Logged.{Logged}
use Rattle.recovery_journal.specs.Log.{Log}

-- Whether the stop notice has come, whether a block is under way, sealed or to be sealed, and whether one failed; the log
-- of the recovery journal; the requests whose entries are in the block being filled, and those that wait for the next one,
-- the oldest first; the entries that were handed in, and those that are committed, the newest first.
pub record JournalZone : Type 0 where
  pub notified : Bool
  pub busy : Bool
  pub broken : Bool
  pub log : Log
  pub filling : List Vio
  pub waiting : List Vio
  pub entered : List Logged
  pub committed : List Logged
