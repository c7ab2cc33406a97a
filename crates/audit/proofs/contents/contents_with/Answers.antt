use Rattle.std.proofs.Common.{List, sym, subst}
use Rattle.blk_base.specs.declared.journal_entry.CommittedEntry.{CommittedEntry}
use Rattle.disk_model.proofs.SinceLaws.{untouched_on}
use Rattle.replay_counts.proofs.WindowLaws.{window_adds}
use Rattle.replay_counts.specs.Recovered.{AreCountsRead, CountsFail}
use Rattle.audit.proofs.AuditLaws.{contents_read, counts_fail}
use Rattle.audit.specs.Audits.{AuditWithFails}
use Rattle.slab_reading.proofs.FoundLaws.{passed_on}
use Rattle.audit.proofs.contents.contents_with.Goals as goal

pub returns-in-Err-clause-fault : goal.returns-in-Err-clause-fault
returns-in-Err-clause-fault g c = c.first_fault.ensures.fault (g.D.Disk.seen c.args.device.now) c.in-Err.ensures.fault

pub returns-in-Err-clause-untouched : goal.returns-in-Err-clause-untouched
returns-in-Err-clause-untouched g c = untouched_on _ _ _ _ c.replay_changes.ensures.untouched c.first_fault.ensures.untouched

pub counts_with-requires-clause-halves : goal.counts_with-requires-clause-halves
counts_with-requires-clause-halves g c = let read = c.requires.window in window_adds _ read.0 _ _ read.1 c.entries.ensures

pub returns-in_err-counts-clause-fault : goal.returns-in_err-counts-clause-fault
returns-in_err-counts-clause-fault g c =
    passed_on c.from_residual.result (AuditWithFails g.D.Disk.trust c.args.head.now c.args.window.now (g.D.Disk.seen c.args.device.now) (g.D.Disk.seen c.counts_with.new.device))
    c.in_err-counts.field-0.0 c.from_residual.ensures.1
    (counts_fail _ _ c.args.window.now _ (g.D.Disk.seen c.replay_changes.new.device) _ c.in-Ok.map c.in_err-counts.field-0.0 c.in-Ok.ensures.map
    (subst (λ (entries : List CommittedEntry). CountsFail g.D.Disk.trust c.args.head.now.geometry entries (g.D.Disk.seen c.replay_changes.new.device) (g.D.Disk.seen c.counts_with.new.device) c.in_err-counts.field-0.0)
    (sym c.entries.ensures) c.in_err-counts.ensures.fault))

pub returns-in_err-counts-clause-untouched : goal.returns-in_err-counts-clause-untouched
returns-in_err-counts-clause-untouched g c = untouched_on _ _ _ _ c.replay_changes.ensures.untouched c.counts_with.ensures.untouched

pub returns-clause-contents : goal.returns-clause-contents
returns-clause-contents g c =
    contents_read g.D.Disk.trust c.args.head.now c.args.window.now _ (g.D.Disk.seen c.replay_changes.new.device) _ c.in-Ok.map c.in_ok-counts.counts c.in-Ok.ensures.map
    (subst (λ (entries : List CommittedEntry). AreCountsRead g.D.Disk.trust c.args.head.now.geometry entries (g.D.Disk.seen c.replay_changes.new.device) (g.D.Disk.seen c.counts_with.new.device)
    c.in_ok-counts.counts.counts.items c.in_ok-counts.counts.sectors.items) (sym c.entries.ensures) c.in_ok-counts.ensures.counts)
    c.in_ok-counts.ensures.limit

pub returns-clause-untouched : goal.returns-clause-untouched
returns-clause-untouched g c = untouched_on _ _ _ _ c.replay_changes.ensures.untouched c.counts_with.ensures.untouched
