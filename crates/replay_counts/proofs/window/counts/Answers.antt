use Rattle.std.proofs.Common.{sym, subst, inl, inr, List}
use Rattle.blk_base.specs.declared.journal_entry.CommittedEntry.{CommittedEntry}
use Rattle.disk_model.proofs.SinceLaws.{untouched_on}
use Rattle.replay_counts.specs.Recovered.{AreCountsRead, CountsFail, CountingFails}
use Rattle.replay_counts.proofs.WindowLaws.{window_adds}
use Rattle.slab_reading.proofs.FoundLaws.{passed_on}
use Rattle.replay_counts.proofs.window.counts.Goals as goal

pub counts_with-requires-clause-halves : goal.counts_with-requires-clause-halves
counts_with-requires-clause-halves g c = let read = c.in_ok-window.ensures.window in window_adds _ read.0 _ _ read.2 c.entries.ensures

pub returns-in-Ok-clause-counts : goal.returns-in-Ok-clause-counts
returns-in-Ok-clause-counts g c = (
  g.D.Disk.seen c.read_window.new.device,
  c.in_ok-window.window,
  c.in_ok-window.ensures.window,
  subst (λ (window : List CommittedEntry). AreCountsRead g.D.Disk.trust c.args.head.now.geometry window (g.D.Disk.seen c.read_window.new.device) (g.D.Disk.seen c.counts_with.new.device)
      c.in-Ok.counts.counts.items c.in-Ok.counts.sectors.items) (sym c.entries.ensures) c.in-Ok.ensures.counts,
)

pub returns-in-Ok-clause-untouched : goal.returns-in-Ok-clause-untouched
returns-in-Ok-clause-untouched g c = untouched_on _ _ _ _ c.read_window.ensures.untouched c.counts_with.ensures.untouched

pub returns-clause-fault : goal.returns-clause-fault
returns-clause-fault g c = inr (
  g.D.Disk.seen c.read_window.new.device,
  c.in_ok-window.window,
  c.in_ok-window.ensures.window,
  subst (λ (window : List CommittedEntry). CountsFail g.D.Disk.trust c.args.head.now.geometry window (g.D.Disk.seen c.read_window.new.device) (g.D.Disk.seen c.counts_with.new.device)
      c.in-Err.fault) (sym c.entries.ensures) c.in-Err.ensures.fault,
)

pub returns-clause-untouched : goal.returns-clause-untouched
returns-clause-untouched g c = untouched_on _ _ _ _ c.read_window.ensures.untouched c.counts_with.ensures.untouched

pub returns-in_err-window-clause-fault : goal.returns-in_err-window-clause-fault
returns-in_err-window-clause-fault g c =
    passed_on c.from_residual.result (CountingFails g.D.Disk.trust c.args.head.now (g.D.Disk.seen c.args.device.now) (g.D.Disk.seen c.read_window.new.device)) c.in_err-window.field-0.0 c.from_residual.ensures.1
    (inl c.in_err-window.ensures.fault)
