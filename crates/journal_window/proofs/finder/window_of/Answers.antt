use Rattle.journal_window.proofs.AnswerLaws.{passed_on, stopped_is_refused}
use Rattle.journal_window.specs.Windows.{IsRefused}
use Rattle.journal_window.proofs.finder.window_of.Goals as goal

pub returns-in_err-entries-clause-fault : goal.returns-in_err-entries-clause-fault
returns-in_err-entries-clause-fault c =
    let span = c.find_span-span.ensures in
    passed_on c.from_residual.result (IsRefused c.args.head.now c.args.journal.now) c.in_err-entries.field-0.0 c.from_residual.ensures.1
    (stopped_is_refused c.args.head.now c.args.journal.now _ _ c.in_err-entries.field-0.0 span.last span.first c.if-not-has_sequences.ensures.yes
    (rw c.of.ensures at c.in_err-entries.ensures.fault))
