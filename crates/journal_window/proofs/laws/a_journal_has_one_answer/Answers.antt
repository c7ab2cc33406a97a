use Rattle.journal_window.proofs.AnswerLaws.{one_window_of, one_refusal, window_or_refusal}
use Rattle.journal_window.proofs.laws.a_journal_has_one_answer.Goals as goal

pub returns-clause-windows : goal.returns-clause-windows
returns-clause-windows c = one_window_of

pub returns-clause-refusals : goal.returns-clause-refusals
returns-clause-refusals c = one_refusal

pub returns-clause-apart : goal.returns-clause-apart
returns-clause-apart c = window_or_refusal
