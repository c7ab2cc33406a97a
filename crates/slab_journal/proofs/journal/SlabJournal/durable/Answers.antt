use Rattle.std.proofs.Common.{subst, ◌+◌}
use Rattle.slab_journal.specs.contracts.journal.SlabJournal.{the_view}
use Rattle.slab_journal.specs.Slab.{Slab, Keeps}
use Rattle.slab_journal.proofs.journal.SlabJournal.durable.Goals as goal

pub returns-clause-kept : goal.returns-clause-kept
returns-clause-kept c =
    let log = the_view c.self.inside in
    subst (λ (old : Slab). Keeps old (record log { durable = log.durable + 1 })) c.self.view_is (λ entry held uncovered. held)
