use Rattle.format_guards.proofs.AuditFacts.{not_reported}
use Rattle.format_guards.proofs.CountFacts.{if_ok_never}
use Rattle.format_guards.proofs.audits.an_image_with_a_fault_has_no_report.Goals as goal

pub returns : goal.returns
returns g c = if_ok_never _ _ _ (λ report are. not_reported _ _ _ report are) c.audit.ensures.report
