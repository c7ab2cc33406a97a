use Rattle.std.proofs.Common.{List, inl, inr, sym, ◌∙◌, ap, subst}
use Rattle.blk_base.specs.declared.journal_entry.CommittedEntry.{CommittedEntry}
use Rattle.blk_base.specs.Regions.{data_blocks}
use Rattle.disk_model.proofs.SinceLaws.{untouched_on}
use Rattle.replay_map.specs.Changes.{AreNewest}
use Rattle.force_rebuild.proofs.ForceLaws.{forced_as, passed_as, read_refused, write_failed_as}
use Rattle.force_rebuild.proofs.forced_rebuild.force_unclosed.Goals as goal

pub returns-in_err-window : goal.returns-in_err-window
returns-in_err-window g c =
    passed_as _ _ _ _ _ c.from_residual.result c.from_residual.ensures.1
    (read_refused _ _ _ _ c.in_err-window.field-0.0 (inl c.in_err-window.ensures.fault) c.read_window.ensures.untouched)

pub returns-in_default : goal.returns-in_default
returns-in_default g c =
    let read = c.in_ok-window.ensures.window in
    read_refused _ _ _ _ _ (inr (inl (g.D.Disk.seen c.read_window.new.device, c.in_ok-window.window, read, tt))) c.read_window.ensures.untouched

pub returns-in_err-counted : goal.returns-in_err-counted
returns-in_err-counted g c =
    let read = c.in_ok-window.ensures.window in
    passed_as _ _ _ _ _ c.from_residual-in_err-counted.result c.from_residual-in_err-counted.ensures.1
    (read_refused _ _ _ _ c.in_err-counted.field-0.0 (inr (inl (g.D.Disk.seen c.read_window.new.device, c.in_ok-window.window, read, c.in_err-counted.ensures.fault)))
    (untouched_on _ _ _ _ c.read_window.ensures.untouched c.count_map.ensures.untouched))

pub returns-in_default-write_image : goal.returns-in_default-write_image
returns-in_default-write_image g c =
    write_failed_as _ _ _ (g.D.Disk.seen c.read_window.new.device) (g.D.Disk.seen c.count_map.new.device) _ c.in_ok-window.window c.in-Ok.changes c.in_ok-counted.counted.map c.in_ok-counted.counted.counters.items
    c.in_ok-window.ensures.window c.in_ok-counted.ensures.map c.count_map.ensures.untouched
    (subst (λ (entries : List CommittedEntry). AreNewest entries c.in-Ok.changes) (sym c.entries.ensures) c.in-Ok.ensures) c.in_ok-counted.ensures.counters c.requires.room
    c.of-layout.result.geometry c.last.result _ c.of-layout.ensures c.last.ensures (rw c.deref.ensures.value at c.in_default-write_image.ensures)

pub returns : goal.returns
returns g c =
    forced_as _ _ _ (g.D.Disk.seen c.read_window.new.device) (g.D.Disk.seen c.count_map.new.device) _ c.in_ok-window.window c.in-Ok.changes c.in_ok-counted.counted.map c.in_ok-counted.counted.counters.items
    c.in_ok-window.ensures.window c.in_ok-counted.ensures.map c.count_map.ensures.untouched
    (subst (λ (entries : List CommittedEntry). AreNewest entries c.in-Ok.changes) (sym c.entries.ensures) c.in-Ok.ensures) c.in_ok-counted.ensures.counters c.requires.room
    c.of-layout.result.geometry c.last.result _ c.of-layout.ensures c.last.ensures (rw c.deref-2.ensures.value at c.count_used.ensures) (c.data_blocks.ensures ∙ ap data_blocks c.of-layout.ensures)
    (rw c.deref.ensures.value at c.in-Ok-write_image.ensures)
