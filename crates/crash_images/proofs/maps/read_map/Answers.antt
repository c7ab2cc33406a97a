use Rattle.std.proofs.Common.{inl, inr, subst, sym, List}
use Rattle.blk_base.specs.declared.journal_entry.CommittedEntry.{CommittedEntry}
use Rattle.disk_model.proofs.SinceLaws.{untouched_on}
use Rattle.replay_map.proofs.DataLaws.{window_leads}
use Rattle.replay_map.specs.Changes.{AreNewest}
use Rattle.crash_images.specs.Maps.{HasNoMap}
use Rattle.crash_images.proofs.ShownLaws.{handed_on}
use Rattle.crash_images.proofs.maps.read_map.Goals as goal

pub returns-in_err-window-clause-fault : goal.returns-in_err-window-clause-fault
returns-in_err-window-clause-fault g c =
    let disk = g.D.Disk in
    handed_on c.from_residual-in_err-window.result (HasNoMap disk.trust (disk.seen c.args.device.now) (disk.seen c.read_window.new.device)) c.in_err-window.field-0.0
    c.from_residual-in_err-window.ensures.1 (inr (c.in_ok-head.head, disk.seen c.read_head.new.device, c.in_ok-head.ensures.head, inl c.in_err-window.ensures.fault))

pub returns-in_err-window-clause-untouched : goal.returns-in_err-window-clause-untouched
returns-in_err-window-clause-untouched g c = untouched_on _ _ _ _ c.read_head.ensures.untouched c.read_window.ensures.untouched

pub returns-in_default-clause-fault : goal.returns-in_default-clause-fault
returns-in_default-clause-fault g c =
    let disk = g.D.Disk in
    inr (c.in_ok-head.head, disk.seen c.read_head.new.device, c.in_ok-head.ensures.head, inl tt)

pub returns-in_default-clause-untouched : goal.returns-in_default-clause-untouched
returns-in_default-clause-untouched g c = untouched_on _ _ _ _ c.read_head.ensures.untouched c.read_window.ensures.untouched

pub returns-in-Ok-replay_with-clause-map : goal.returns-in-Ok-replay_with-clause-map
returns-in-Ok-replay_with-clause-map g c =
    let disk = g.D.Disk in
    record {
      window = c.in_ok-window.window;
      middle = disk.seen c.read_window.new.device;
      opened_to = record { middle = disk.seen c.read_head.new.device; head_read = c.in_ok-head.ensures.head; window_read = c.in_ok-window.ensures.window };
      pages = c.in-Ok-replay_with.ensures.map;
      newest = subst (λ (window : List CommittedEntry). AreNewest window c.in-Ok.changes) (sym c.entries.ensures) c.in-Ok.ensures;
    }

pub returns-in-Ok-replay_with-clause-fits : goal.returns-in-Ok-replay_with-clause-fits
returns-in-Ok-replay_with-clause-fits g c =
    let window = c.in_ok-window.ensures.window in
    let newest = subst (λ (window : List CommittedEntry). AreNewest window c.in-Ok.changes) (sym c.entries.ensures) c.in-Ok.ensures in
    record {
      sizes = c.in_ok-head.ensures.head.is.sizes;
      form = c.in-Ok-replay_with.ensures.form;
      leads = window_leads c.in_ok-head.head window.0 c.in_ok-window.window c.in-Ok.changes window.2 newest;
    }

pub returns-in-Ok-replay_with-clause-untouched : goal.returns-in-Ok-replay_with-clause-untouched
returns-in-Ok-replay_with-clause-untouched g c = untouched_on _ _ _ _ (untouched_on _ _ _ _ c.read_head.ensures.untouched c.read_window.ensures.untouched) c.replay_with.ensures.untouched

pub returns-clause-untouched : goal.returns-clause-untouched
returns-clause-untouched g c = untouched_on _ _ _ _ (untouched_on _ _ _ _ c.read_head.ensures.untouched c.read_window.ensures.untouched) c.replay_with.ensures.untouched
