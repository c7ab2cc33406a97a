-- The fields of a slab's journal as what it knows.
use Rattle.slab_journal.specs.Slab.{Slab}
use Rattle.slab_journal.specs.declared.journal.SlabJournal.TheInside.{Inside}

abbrev pub log_of : Inside → Slab
log_of journal =
    record {
      geometry = journal.layout.geometry;
      slab = journal.slab;
      sequence = journal.sequence;
      filling = journal.filling;
      last = journal.last;
      slots = journal.slots.items;
      durable = journal.durable;
      commits = journal.commits.items;
    }
