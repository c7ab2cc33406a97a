use Rattle.std.proofs.Common.{arith, subst, refl}
use Rattle.recovery_journal.specs.contracts.journal.Journal.{the_view}
use Rattle.recovery_journal.specs.Log.{Log, IsBehind}
use Rattle.recovery_journal.proofs.JournalLaws.{behind_first}
use Rattle.recovery_journal.proofs.journal.Journal.first_unhanded.Goals as goal

pub returns-in-Some-clause-behind : goal.returns-in-Some-clause-behind
returns-in-Some-clause-behind c =
    let size = c.self.inside.entries.ok in
    let there = c.in-Some.ensures.variant.0 refl in
    subst (λ (log : Log). IsBehind log c.in-Some.entry.now.point) c.self.view_is
    (behind_first (the_view c.self.inside) c.in-Some.entry.now c.self.invariant.kept (omega arith) c.in-Some.ensures.lookup)
