use Rattle.std.proofs.Common.{inl, inr}
use Rattle.crash_images.specs.Shows.{ShowsNothing}
use Rattle.crash_images.proofs.ShownLaws.{handed_on}
use Rattle.crash_images.proofs.shown.show.Goals as goal

pub returns-in_err-recovery-clause-nothing : goal.returns-in_err-recovery-clause-nothing
returns-in_err-recovery-clause-nothing g c =
    let disk = g.D.Disk in
    handed_on c.from_residual.result (ShowsNothing disk.trust (disk.seen c.args.device.now) (disk.seen c.recover.new.device)) c.in_err-recovery.field-0.0 c.from_residual.ensures.1
    (inl c.in_err-recovery.ensures)

pub returns-in_err-audit-clause-nothing : goal.returns-in_err-audit-clause-nothing
returns-in_err-audit-clause-nothing g c =
    let disk = g.D.Disk in
    handed_on c.from_residual-in_err-audit.result (ShowsNothing disk.trust (disk.seen c.args.device.now) (disk.seen c.audit.new.device)) c.in_err-audit.field-0.0
    c.from_residual-in_err-audit.ensures.1
    (inr (inl (record { found = c.in_ok-recovery.recovery; middle = disk.seen c.recover.new.device; recovery = c.in_ok-recovery.ensures; cause = c.in_err-audit.ensures.fault })))

pub returns-in_err-values-clause-nothing : goal.returns-in_err-values-clause-nothing
returns-in_err-values-clause-nothing g c =
    let disk = g.D.Disk in
    handed_on c.from_residual-in_err-values.result (ShowsNothing disk.trust (disk.seen c.args.device.now) (disk.seen c.read_values.new.device)) c.in_err-values.field-0.0
    c.from_residual-in_err-values.ensures.1
    (inr (inr (record {
      found = c.in_ok-recovery.recovery;
      middle = disk.seen c.recover.new.device;
      recovery = c.in_ok-recovery.ensures;
      report = c.in_ok-audit.audit;
      behind = disk.seen c.audit.new.device;
      audited = c.in_ok-audit.ensures.report;
      untouched = c.in_ok-audit.ensures.untouched;
      cause = c.in_err-values.ensures.fault;
    })))
