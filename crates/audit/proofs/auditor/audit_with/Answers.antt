use Rattle.std.proofs.Common.{◌∙◌, sym, ap}
use Rattle.blk_base.specs.Regions.{data_blocks}
use Rattle.audit.proofs.AuditLaws.{audited}
use Rattle.audit.proofs.auditor.audit_with.Goals as goal

pub report_of-requires : goal.report_of-requires
report_of-requires g c = let are = c.in_ok-contents.ensures.contents in are.blocks ∙ ap data_blocks (sym c.of-layout.ensures)

pub returns-clause-report : goal.returns-clause-report
returns-clause-report g c =
    audited _ c.args.head.now c.args.window.now _ _ c.in_ok-contents.contents c.in-Ok.report c.in_ok-contents.ensures.contents
    (λ image same map has. c.in-Ok.ensures.report image (same ∙ sym c.of-layout.ensures) map has)
