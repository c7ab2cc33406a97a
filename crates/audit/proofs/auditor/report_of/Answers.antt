use Rattle.audit.proofs.AuditLaws.{report_ok, report_with}
use Rattle.audit.specs.Tallies.{AreNumbers, number_in}
use Rattle.audit.proofs.auditor.report_of.Goals as goal

pub returns-clause-report : goal.returns-clause-report
returns-clause-report c =
    let g = c.args.layout.now.geometry in
    let tallied : AreNumbers g c.args.map.now.links.items c.args.map.now.mapped.items (number_in c.in_ok-mapped.mapped) = rw (c.deref.ensures.value, c.deref-2.ensures.value) at c.in_ok-mapped.ensures.tallied in
    report_ok c.compare.result _ _ _ _ c.compare.ensures.differs c.compare.ensures.used c.compare.ensures.total
    (λ report list used all. λ image same map has.
    report_with image g c.args.map.now.links.items c.args.map.now.mapped.items c.args.counts.now.counts.items (number_in c.in_ok-mapped.mapped) report same c.args.layout.now.sizes
    map.pages map.unshared map.links map.mapped has.blocks has.stored tallied (rw c.deref-3.ensures.value at list) (rw c.deref-3.ensures.value at used) all)
