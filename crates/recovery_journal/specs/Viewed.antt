-- A recovery journal's fields as what it knows.
use Rattle.recovery_journal.specs.Log.{Log}
use Rattle.recovery_journal.specs.declared.journal.Journal.TheInside.{Inside}

abbrev pub log_of : Inside → Log
log_of journal =
    record {
      nonce = journal.nonce;
      size = journal.size;
      sequence = journal.sequence;
      filling = journal.filling;
      entries = journal.entries.items;
      handed = journal.handed;
      committed = journal.committed;
      watermarks = journal.watermarks.items;
    }
