-- How long each list of the journal gets.
use Rattle.std.specs.Prelude.{◌^◌, ◌<◌, ◌≤◌, length}
use Rattle.blk_base.specs.declared.sizes.TheConstants.{JOURNAL_ENTRIES}
use Rattle.core_model.specs.JournalData.{JournalZone}
use Rattle.core_model.specs.SessionLimits.{IsShort, most_entries}

-- The lists of the journal: each request hands in one entry for its address at most, and one for each page of its path. The sequence
-- of the block being filled can be spelled.
pub record IsJournalWithin (j : JournalZone) : Type 0 where
  pub sequence : j.log.sequence < 2 ^ 55
  pub filling : length j.filling ≤ JOURNAL_ENTRIES
  pub waiting : IsShort j.waiting
  pub entered : length j.entered ≤ most_entries
  pub committed : length j.committed ≤ most_entries
