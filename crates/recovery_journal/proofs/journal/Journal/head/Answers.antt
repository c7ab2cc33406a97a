use Rattle.std.proofs.Common.{ℕ, subst, sym}
use Rattle.recovery_journal.specs.contracts.journal.Journal.{the_view}
use Rattle.recovery_journal.specs.Log.{Log, IsHead}
use Rattle.recovery_journal.proofs.JournalLaws.{is_head}
use Rattle.recovery_journal.proofs.journal.Journal.head.Goals as goal

pub returns-clause-least : goal.returns-clause-least
returns-clause-least c =
    subst (λ (log : Log). IsHead log c.first_sequence.result) c.self.view_is
    (subst (λ (head : ℕ). IsHead (the_view c.self.inside) head) (sym c.first_sequence.ensures) (is_head (the_view c.self.inside) c.self.invariant.kept))
